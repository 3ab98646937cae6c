use Rattle.smt_meaning.specs.declared.terms.Operator.TheVariants.{Equal}
use Rattle.bound_clauses.proofs.laws.order_is_over.Goals as goal

pub returns : goal.returns
returns c = c.comparison_is_over.ensures Equal
