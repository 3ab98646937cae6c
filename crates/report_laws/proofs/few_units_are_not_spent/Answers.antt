use Rattle.report_laws.proofs.Limited.{few_units, one_leaf}
use Rattle.report_laws.proofs.Finite.{units_are_finite}
use Rattle.report_laws.proofs.few_units_are_not_spent.Goals as goal

pub returns-clause-few : goal.returns-clause-few
returns-clause-few c = few_units

pub returns-clause-leaf : goal.returns-clause-leaf
returns-clause-leaf c = one_leaf

pub returns-clause-finite : goal.returns-clause-finite
returns-clause-finite c = units_are_finite
