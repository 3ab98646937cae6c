use Rattle.closure_log.proofs.ByClasses.{sameness_is_by_class}
use Rattle.closure_log.proofs.by_class.sameness_is_by_class.Goals as goal

pub returns : goal.returns
returns c = sameness_is_by_class
