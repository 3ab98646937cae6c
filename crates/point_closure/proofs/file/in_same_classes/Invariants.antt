use Rattle.std.proofs.Common.{◌≡◌, ◌<◌, ℕ, get_or}
use Rattle.point_closure.specs.Unions.{root_of}
use Rattle.point_closure.proofs.file.in_same_classes.Given as goal

abbrev pub invariant-loop-i : goal.invariant-loop-i
invariant-loop-i l = (k : ℕ) → k < l.i → root_of l.classes.unions (get_or l.left k 0) ≡ root_of l.classes.unions (get_or l.right k 0)
