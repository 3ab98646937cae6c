use Rattle.check_atoms.proofs.RefusedPairs.{lawful_pairs}
use Rattle.check_atoms.proofs.lawful_pairs_leave_range.Goals as goal

pub returns : goal.returns
returns c = lawful_pairs c.placed_forms_fit.ensures c.refused_pair_leaves_range.ensures
