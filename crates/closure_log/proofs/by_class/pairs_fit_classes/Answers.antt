use Rattle.closure_log.proofs.ByClasses.{pairs_fit_classes}
use Rattle.closure_log.proofs.by_class.pairs_fit_classes.Goals as goal

pub returns : goal.returns
returns c = pairs_fit_classes c.numbers_are_found.ensures
