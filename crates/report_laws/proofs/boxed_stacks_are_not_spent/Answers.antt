use Rattle.report_laws.proofs.Boxed.{stay_in_boxes, units_are_new, few_not_spent, boxed_not_spent}
use Rattle.report_laws.proofs.boxed_stacks_are_not_spent.Goals as goal

pub returns-clause-branches : goal.returns-clause-branches
returns-clause-branches c = stay_in_boxes

pub returns-clause-units : goal.returns-clause-units
returns-clause-units c = units_are_new

pub returns-clause-few : goal.returns-clause-few
returns-clause-few c = few_not_spent

pub returns-clause-boxed : goal.returns-clause-boxed
returns-clause-boxed c = boxed_not_spent
