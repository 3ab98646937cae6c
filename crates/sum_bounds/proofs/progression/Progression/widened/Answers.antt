use Rattle.std.proofs.Common.{◌∙◌, pos, ◌+ℤ◌, ◌*ℤ◌, unsigned_abs, ap, ap₂}
use Rattle.std.specs.Int.{w128}
use Rattle.std.proofs.lemmas.Int.{to_z-of_z}
use Rattle.fraction128.specs.Gcd.{gcd_of}
use Rattle.fraction128.proofs.Integers.{same_bits}
use Rattle.sum_bounds.specs.Progressions.{State}
use Rattle.sum_bounds.proofs.Steps.{has_both}
use Rattle.sum_bounds.proofs.progression.Progression.widened.Goals as goal

pub returns-clause-has : goal.returns-clause-has
returns-clause-has c = λ m z.
    let is = c.gcd.ensures ∙ ap₂ (λ x y. pos (gcd_of (unsigned_abs x) (unsigned_abs y))) (same_bits c.self.inside.step c.self.invariant.2) (same_bits c.args.weight c.requires) in
    let h = has_both c.self.inside.step c.args.weight c.gcd.result is m z in (
      h.0,
      ap (λ k. k *ℤ h.0) (to_z-of_z w128 c.gcd.result (record { sfits = c.gcd.type_inv })) ∙ h.1
          ∙ ap (λ k. k *ℤ m +ℤ c.args.weight *ℤ z) (ap (λ (s : State). s.step) c.self.view_is),
    )
