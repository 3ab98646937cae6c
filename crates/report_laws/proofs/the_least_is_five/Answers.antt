use Rattle.report_laws.proofs.Minimum.{five_is_least, nothing_else, seven_may_be, seven_may_be_of_two, one_of_two_is_none, no_bound_from_above, no_model_without_bound, nothing_below, nothing_spent_is_none}
use Rattle.report_laws.proofs.the_least_is_five.Goals as goal

pub returns-clause-least : goal.returns-clause-least
returns-clause-least c = five_is_least

pub returns-clause-other : goal.returns-clause-other
returns-clause-other c = nothing_else

pub returns-clause-best : goal.returns-clause-best
returns-clause-best c = seven_may_be

pub returns-clause-both : goal.returns-clause-both
returns-clause-both c = seven_may_be_of_two

pub returns-clause-one : goal.returns-clause-one
returns-clause-one c = one_of_two_is_none

pub returns-clause-bound : goal.returns-clause-bound
returns-clause-bound c = no_bound_from_above

pub returns-clause-bounded : goal.returns-clause-bounded
returns-clause-bounded c = no_model_without_bound

pub returns-clause-model : goal.returns-clause-model
returns-clause-model c = nothing_below

pub returns-clause-report : goal.returns-clause-report
returns-clause-report c = nothing_spent_is_none
