use Rattle.report_laws.proofs.BoxOfFive.{x_is_boxed, five_is_unboxed}
use Rattle.report_laws.proofs.a_box_of_five.Goals as goal

pub returns-clause-boxed : goal.returns-clause-boxed
returns-clause-boxed c = x_is_boxed

pub returns-clause-unboxed : goal.returns-clause-unboxed
returns-clause-unboxed c = five_is_unboxed
