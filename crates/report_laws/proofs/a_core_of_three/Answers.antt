use Rattle.report_laws.proofs.Cores.{core_is_one, too_few, no_model_holds_q, no_invention_holds_q}
use Rattle.report_laws.proofs.a_core_of_three.Goals as goal

pub returns-clause-core : goal.returns-clause-core
returns-clause-core c = core_is_one

pub returns-clause-few : goal.returns-clause-few
returns-clause-few c = too_few

pub returns-clause-model : goal.returns-clause-model
returns-clause-model c = no_model_holds_q

pub returns-clause-report : goal.returns-clause-report
returns-clause-report c = no_invention_holds_q
