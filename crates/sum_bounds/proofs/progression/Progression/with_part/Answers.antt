use Rattle.std.proofs.Common.{◌∙◌, ◌*ℤ◌, sym, ap, ap₂, to_z, of_z}
use Rattle.std.specs.Int.{w128}
use Rattle.std.proofs.lemmas.Int.{to_z-of_z}
use Rattle.fraction128.proofs.Integers.{same_bits}
use Rattle.sum_bounds.specs.Progressions.{State}
use Rattle.sum_bounds.proofs.Steps.{part_added}
use Rattle.sum_bounds.proofs.progression.Progression.with_part.Goals as goal

pub returns : goal.returns
returns c =
    let f = c.factors_of-factors in
    part_added c.args.self c.in_ok-scaled.scaled c.args.coefficient c.args.fixed (to_z w128 (of_z w128 f.result.left)) (to_z w128 (of_z w128 f.result.right)) (to_z w128 (of_z w128 c.in_ok-weight.weight))
    (to_z w128 (of_z w128 c.numerator.result)) (to_z w128 (of_z w128 c.denominator.result))
    c.in_ok-scaled.ensures
    (ap₂ ◌*ℤ◌ (sym (ap (λ (s : State). s.scale) c.self.view_is)) (same_bits f.result.left f.ensures.in_range.0) ∙ ap (λ z. z *ℤ f.result.left) (sym (same_bits c.self.inside.scale c.self.invariant.1)) ∙ f.ensures.same
    ∙ ap (λ z. to_z w128 (of_z w128 c.denominator.result) *ℤ z) (sym (same_bits f.result.right f.ensures.in_range.1)))
    (to_z-of_z w128 c.denominator.result (record { sfits = c.denominator.type_inv }) ∙ c.denominator.ensures.value)
    (same_bits c.in_ok-weight.weight c.in_ok-weight.ensures.1 ∙ c.in_ok-weight.ensures.0)
    (to_z-of_z w128 c.numerator.result (record { sfits = c.numerator.type_inv }) ∙ c.numerator.ensures.value) c.with_weight.result c.with_weight.ensures
