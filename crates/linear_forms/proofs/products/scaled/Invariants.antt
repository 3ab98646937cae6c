use Rattle.linear_forms.proofs.ProductLemmas.{IsScaling}
use Rattle.linear_forms.proofs.products.scaled.Given as goal

abbrev pub invariant-loop-summand : goal.invariant-loop-summand
invariant-loop-summand l = IsScaling l.fn.factor l.sum l.summand-index l.out.items
