use Rattle.unit_tests.proofs.Sound.{sound_clause, same_base}
use Rattle.unit_tests.proofs.tests.full.put.Goals as goal

pub share-requires : goal.share-requires
share-requires g c = sound_clause _ c.args.clause.level c.args.clause c.requires.clause c.requires.level

pub returns-clause-base : goal.returns-clause-base
returns-clause-base g c = same_base _ _ _ _ _ c.share.ensures
