use Rattle.std.proofs.Common.{◌≡◌, ◌+◌, suc, subst, arith}
use Rattle.smt_sorts.specs.Workshop.{places_from}
use Rattle.elaborate.proofs.Copies.{place_joins}
use Rattle.elaborate.proofs.bodies.add_places.Goals as goal

pub loop-place-preserved : goal.loop-place-preserved
loop-place-preserved c =
    let e : suc c.loop-place.place ≡ c.loop-place.place + 1 = omega arith in
    subst (λ n. c.intern.new.self.trees ≡ places_from 0 n) e (place_joins c.loop-place.place c.loop-place.store.trees c.intern.new.self.trees c.loop-place.invariant c.in_ok-intern.ensures.parts)
