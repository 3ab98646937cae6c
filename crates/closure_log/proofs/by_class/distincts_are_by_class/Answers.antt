use Rattle.closure_log.proofs.ByClasses.{distincts_are_by_class}
use Rattle.closure_log.proofs.by_class.distincts_are_by_class.Goals as goal

pub returns : goal.returns
returns c = distincts_are_by_class c.numbers_are_found.ensures
