use Rattle.closure_log.proofs.ByClasses.{bools_are_by_class}
use Rattle.closure_log.proofs.by_class.bools_are_by_class.Goals as goal

pub returns : goal.returns
returns c = bools_are_by_class
