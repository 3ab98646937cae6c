use Rattle.proof_form.proofs.FarkasWeighted.{weighted_literal}
use Rattle.proof_form.proofs.farkas.is_weighted.Goals as goal

pub returns-then-multiplies_bound : goal.returns-then-multiplies_bound
returns-then-multiplies_bound c = weighted_literal c.args.terms.now.declared c.args.terms.now.trees c.args.weighted.now c.is_literal.result c.if-multiplies_bound.ensures c.is_literal.ensures
