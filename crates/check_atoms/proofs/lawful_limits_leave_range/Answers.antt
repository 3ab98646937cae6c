use Rattle.check_atoms.proofs.RefusedLimit.{lawful_limits}
use Rattle.check_atoms.proofs.lawful_limits_leave_range.Goals as goal

pub returns : goal.returns
returns c = lawful_limits c.placed_forms_fit.ensures c.rows_are_atoms.ensures
