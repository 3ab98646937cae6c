use Rattle.std.proofs.Common.{◌≡◌, length, vec_len, subst, sym, arith}
use Rattle.clause_store.specs.TrailInvariant.{Agrees, IsPlaced}
use Rattle.clause_store.proofs.trail.Trail.reserve.Goals as goal

pub invariant_of-self-2 : goal.invariant_of-self-2
invariant_of-self-2 c =
    let i = c.self.inside in
    let o = c.open_up_to in
    let marks : c.reserve.new.self.items ≡ i.marks.items = c.in_ok-reserve.ensures.items in
    let places : c.reserve-2.new.self.items ≡ i.places.items = c.in_ok-reserve-2.ensures.items in
    let steps : c.reserve-3.new.self.items ≡ i.steps.items = c.in_ok-reserve-3.ensures.items in
    let agrees : Agrees i.steps.items c.reserve.new.self.items i.depth = subst (λ ms. Agrees i.steps.items ms i.depth) (sym marks) c.self.invariant.0 in
    let count : length i.marks.items ≡ vec_len c.reserve.new.self = omega (arith, i.marks.ok, c.in_ok-reserve.ensures.len) in
    let placed : IsPlaced i.steps.items c.reserve-2.new.self.items (vec_len c.reserve.new.self) =
    subst (λ ps. IsPlaced i.steps.items ps (vec_len c.reserve.new.self)) (sym places) (subst (λ n. IsPlaced i.steps.items i.places.items n) count c.self.invariant.3) in
    let len : length o.new.marks.items ≡ c.args.atoms = omega (arith, o.ensures.count, o.new.marks.ok) in (
      subst (λ ss. Agrees ss o.new.marks.items i.depth) (sym steps) (o.ensures.agrees i.steps.items i.depth agrees),
      omega (arith, c.in_ok-reserve-3.ensures.ok, c.in_ok-reserve-3.ensures.len),
      omega arith,
      subst (λ ss. IsPlaced ss o.new.places.items (length o.new.marks.items)) (sym steps) (subst (λ n. IsPlaced i.steps.items o.new.places.items n) (sym len) (o.ensures.placed i.steps.items i.depth agrees placed)),
    )
