use Rattle.std.proofs.Common.{◌≡◌, ◌++◌, vec_len}
use Rattle.elaborate.proofs.forms.bind.Given as goal

abbrev pub invariant-loop-binding : goal.invariant-loop-binding
invariant-loop-binding l = l.list.items ++ l.bindings ≡ l.initial.list.items ++ l.initial.bindings

abbrev pub decreases-loop-binding : goal.decreases-loop-binding
decreases-loop-binding l = vec_len l.list
