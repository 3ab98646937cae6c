use Rattle.std.proofs.Common.{◌∙◌, ◌*ℤ◌, pos, ◌<ℤ◌, sym, subst, ap, ap₂, to_z, of_z}
use Rattle.std.specs.Int.{w128}
use Rattle.std.proofs.lemmas.Int.{to_z-of_z}
use Rattle.fraction128.specs.Whole.{InRange}
use Rattle.fraction128.proofs.Integers.{same_bits}
use Rattle.sum_bounds.specs.Progressions.{State}
use Rattle.sum_bounds.proofs.Steps.{is_scaled, positive_product}
use Rattle.sum_bounds.proofs.progression.Progression.scaled.Goals as goal

pub invariant_of-result : goal.invariant_of-result
invariant_of-result c =
    let one = c.in_ok-product.ensures in
    let two = c.in_ok-product-2.ensures in
    let three = c.in_ok-product-3.ensures in
    let factor = to_z-of_z w128 c.args.factor c.ranges.factor in (
      subst (λ z. pos 0 <ℤ z) (sym (same_bits c.in_ok-product.field-0 one.1 ∙ one.0 ∙ ap₂ ◌*ℤ◌ (same_bits c.self.inside.scale c.self.invariant.1) factor))
          (positive_product c.self.inside.scale c.args.factor c.self.invariant.0 c.requires),
      subst InRange (sym (same_bits c.in_ok-product.field-0 one.1)) one.1,
      subst InRange (sym (same_bits c.in_ok-product-2.field-0 two.1)) two.1,
      subst InRange (sym (same_bits c.in_ok-product-3.field-0 three.1)) three.1,
    )

pub returns : goal.returns
returns c =
    let one = c.in_ok-product.ensures in
    let two = c.in_ok-product-2.ensures in
    let three = c.in_ok-product-3.ensures in
    let factor = to_z-of_z w128 c.args.factor c.ranges.factor in
    let now : State = record { scale = to_z w128 (of_z w128 c.in_ok-product.field-0); step = to_z w128 (of_z w128 c.in_ok-product-2.field-0); start = to_z w128 (of_z w128 c.in_ok-product-3.field-0) } in
    is_scaled c.args.self now c.args.factor
    (same_bits c.in_ok-product.field-0 one.1 ∙ one.0 ∙ ap₂ ◌*ℤ◌ (same_bits c.self.inside.scale c.self.invariant.1 ∙ ap (λ (s : State). s.scale) c.self.view_is) factor)
    (same_bits c.in_ok-product-2.field-0 two.1 ∙ two.0 ∙ ap₂ ◌*ℤ◌ (same_bits c.self.inside.step c.self.invariant.2 ∙ ap (λ (s : State). s.step) c.self.view_is) factor)
    (same_bits c.in_ok-product-3.field-0 three.1 ∙ three.0 ∙ ap₂ ◌*ℤ◌ (same_bits c.self.inside.start c.self.invariant.3 ∙ ap (λ (s : State). s.start) c.self.view_is) factor)
