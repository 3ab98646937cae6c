use Rattle.fraction128.proofs.FieldLaws.{total, irreflexive, transitive, less_respects, sum_monotone, product_monotone}
use Rattle.fraction128.proofs.laws.order.Goals as goal

pub returns-clause-total : goal.returns-clause-total
returns-clause-total c = total

pub returns-clause-strict : goal.returns-clause-strict
returns-clause-strict c = irreflexive

pub returns-clause-transitive : goal.returns-clause-transitive
returns-clause-transitive c = transitive

pub returns-clause-respects : goal.returns-clause-respects
returns-clause-respects c = less_respects

pub returns-clause-sum : goal.returns-clause-sum
returns-clause-sum c = sum_monotone

pub returns-clause-product : goal.returns-clause-product
returns-clause-product c = product_monotone
