use Rattle.linear_forms.specs.Scratch.{IsAdding}
use Rattle.linear_forms.proofs.coefficients.add_sum.Given as goal

abbrev pub invariant-loop-summand : goal.invariant-loop-summand
invariant-loop-summand l = IsAdding l.negated l.fn.values l.sum l.summand-index l.values l.touched.items
