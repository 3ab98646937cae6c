use Rattle.term_store.proofs.DivisorLemmas.{not_one}
use Rattle.term_store.proofs.divisors.is_one_nonzero.Goals as goal

pub returns-then-terms-ne1 : goal.returns-then-terms-ne1
returns-then-terms-ne1 c = not_one c.args.store.now.trees c.args.terms.now c.if-terms-ne1.true
