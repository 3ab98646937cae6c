use Rattle.closure_log.proofs.ByClasses.{choices_are_by_class}
use Rattle.closure_log.proofs.by_class.choices_are_by_class.Goals as goal

pub returns : goal.returns
returns c = choices_are_by_class c.numbers_are_found.ensures
