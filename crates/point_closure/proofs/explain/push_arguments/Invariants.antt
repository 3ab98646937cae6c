use Rattle.std.proofs.Common.{◌≡◌, ◌++◌, take}
use Rattle.point_closure.specs.Explaining.{paired}
use Rattle.point_closure.proofs.explain.push_arguments.Given as goal

abbrev pub invariant-loop-i : goal.invariant-loop-i
invariant-loop-i l = l.goals.items ≡ l.fn.goals.items ++ paired (take l.i l.left) (take l.i l.right)
