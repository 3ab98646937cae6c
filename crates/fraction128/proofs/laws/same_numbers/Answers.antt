use Rattle.fraction128.proofs.RationalRing.{same_sym, same_trans, plus_same, times_same}
use Rattle.fraction128.proofs.laws.same_numbers.Goals as goal

pub returns-clause-turns : goal.returns-clause-turns
returns-clause-turns c = same_sym

pub returns-clause-chains : goal.returns-clause-chains
returns-clause-chains c = same_trans

pub returns-clause-sum : goal.returns-clause-sum
returns-clause-sum c = plus_same

pub returns-clause-product : goal.returns-clause-product
returns-clause-product c = times_same
