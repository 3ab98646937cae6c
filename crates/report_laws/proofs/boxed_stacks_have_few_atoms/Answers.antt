use Rattle.report_laws.proofs.BoxedAtoms.{parts_are_all, list_has_each, list_is_short, small_boxes}
use Rattle.report_laws.proofs.boxed_stacks_have_few_atoms.Goals as goal

pub returns-clause-parts : goal.returns-clause-parts
returns-clause-parts c = parts_are_all

pub returns-clause-each : goal.returns-clause-each
returns-clause-each c = list_has_each

pub returns-clause-short : goal.returns-clause-short
returns-clause-short c = list_is_short

pub returns-clause-spent : goal.returns-clause-spent
returns-clause-spent c = small_boxes
