use Rattle.closure_log.proofs.ByClasses.{applications_are_by_class}
use Rattle.closure_log.proofs.by_class.applications_are_by_class.Goals as goal

pub returns : goal.returns
returns c = applications_are_by_class
