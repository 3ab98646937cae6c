use Rattle.std.proofs.Common.{subst, sym, ap}
use Rattle.race_model.specs.Base.{Base, base_of}
use Rattle.race_model.specs.Shelves.{ShelfState}
use Rattle.lemma_pool.specs.Pools.{Grows}
use Rattle.unit_tests.proofs.Stated.{grows}
use Rattle.unit_tests.proofs.tests.levels.pool_on.Goals as goal

pub follow-requires-clause-grows : goal.follow-requires-clause-grows
follow-requires-clause-grows c =
    subst (λ (b : Base). Grows b (base_of c.args.levels.now)) (sym (ap (λ (s : ShelfState). s.base) c.new-pool.ensures)) (grows (base_of c.args.levels.now) c.requires)
