use Rattle.fraction128.proofs.FieldEquations.{sum_commutes, sum_regroups, sum_with_zero, sum_with_negation, product_commutes, product_regroups, product_with_one, product_with_reciprocal, product_over_sum}
use Rattle.fraction128.proofs.laws.field.Goals as goal

pub returns-clause-sum_commutes : goal.returns-clause-sum_commutes
returns-clause-sum_commutes c = sum_commutes

pub returns-clause-sum_regroups : goal.returns-clause-sum_regroups
returns-clause-sum_regroups c = sum_regroups

pub returns-clause-zero : goal.returns-clause-zero
returns-clause-zero c = sum_with_zero

pub returns-clause-negation : goal.returns-clause-negation
returns-clause-negation c = sum_with_negation

pub returns-clause-product_commutes : goal.returns-clause-product_commutes
returns-clause-product_commutes c = product_commutes

pub returns-clause-product_regroups : goal.returns-clause-product_regroups
returns-clause-product_regroups c = product_regroups

pub returns-clause-one : goal.returns-clause-one
returns-clause-one c = product_with_one

pub returns-clause-reciprocal : goal.returns-clause-reciprocal
returns-clause-reciprocal c = product_with_reciprocal

pub returns-clause-distributes : goal.returns-clause-distributes
returns-clause-distributes c = product_over_sum
