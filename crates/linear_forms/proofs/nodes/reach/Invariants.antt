use Rattle.std.proofs.Common.{◌-◌, vec_len}
use Rattle.linear_forms.specs.Scratch.{AreZero}
use Rattle.linear_forms.proofs.nodes.reach.Given as goal

abbrev pub invariant-loop-values : goal.invariant-loop-values
invariant-loop-values l = AreZero l.values.items

abbrev pub decreases-loop-values : goal.decreases-loop-values
decreases-loop-values l = l.count - vec_len l.values
