use Rattle.linear_forms.specs.Scratch.{IsTakingOut}
use Rattle.linear_forms.proofs.coefficients.take_sum.Given as goal

abbrev pub invariant-loop-place : goal.invariant-loop-place
invariant-loop-place l = IsTakingOut l.fn.values l.place-items l.place-index l.values l.sum.items
