use Rattle.std.proofs.Common.{[], ◌∷◌, refl, subst, sym, ap}
use Rattle.race_model.specs.Base.{Base}
use Rattle.race_model.specs.Shelves.{ShelfState}
use Rattle.lemma_pool.specs.Pools.{Grows, levels}
use Rattle.unit_tests.specs.Stack.{two_levels}
use Rattle.unit_tests.proofs.stack.pool_of_two.Goals as goal

pub follow-requires-clause-grows : goal.follow-requires-clause-grows
follow-requires-clause-grows c =
    subst (λ (b : Base). Grows b two_levels) (sym (ap (λ (s : ShelfState). s.base) c.new-pool.ensures))
    (record { steps = levels 2 ∷ []; frames = refl; more = []; trees = refl })
