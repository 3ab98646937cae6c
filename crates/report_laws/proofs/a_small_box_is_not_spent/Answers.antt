use Rattle.report_laws.proofs.BoxOfOne.{atoms_are_these, small_box, small_box_range}
use Rattle.report_laws.proofs.a_small_box_is_not_spent.Goals as goal

pub returns-clause-atoms : goal.returns-clause-atoms
returns-clause-atoms c = atoms_are_these

pub returns-clause-units : goal.returns-clause-units
returns-clause-units c = small_box

pub returns-clause-range : goal.returns-clause-range
returns-clause-range c = small_box_range
