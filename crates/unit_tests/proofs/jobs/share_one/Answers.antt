use Rattle.std.proofs.Common.{subst, sym, arith}
use Rattle.race_model.specs.Base.{Base}
use Rattle.race_model.specs.Laws.{IsSound}
use Rattle.unit_tests.specs.Stack.{two_levels}
use Rattle.unit_tests.proofs.Sound.{sound_clause}
use Rattle.unit_tests.proofs.jobs.share_one.Goals as goal

pub share-requires-clause-follows : goal.share-requires-clause-follows
share-requires-clause-follows c =
    subst (λ (b : Base). IsSound b c.in-Ok.clause) (sym c.requires.1) (sound_clause two_levels 0 c.in-Ok.clause c.in-Ok.ensures (omega arith))
