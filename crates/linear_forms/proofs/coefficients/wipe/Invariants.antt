use Rattle.std.proofs.Common.{length}
use Rattle.linear_forms.specs.Scratch.{IsWiping}
use Rattle.linear_forms.proofs.coefficients.wipe.Given as goal

abbrev pub invariant-loop-place : goal.invariant-loop-place
invariant-loop-place l = IsWiping l.place-items l.place-index (length l.fn.values) l.values
