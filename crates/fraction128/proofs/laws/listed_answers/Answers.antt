use Rattle.fraction128.proofs.ExactSteps.{sum_same, product_same}
use Rattle.fraction128.proofs.laws.listed_answers.Goals as goal

pub returns-clause-sum : goal.returns-clause-sum
returns-clause-sum c = sum_same

pub returns-clause-product : goal.returns-clause-product
returns-clause-product c = product_same
