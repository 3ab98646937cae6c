use Rattle.std.proofs.Common.{◌∙◌, ◌+ℤ◌, ◌*ℤ◌, ℤ, Option, ap, ap₂, subst, to_z, of_z}
use Rattle.std.specs.Prelude.{IfSome}
use Rattle.std.specs.Int.{w128}
use Rattle.fraction128.specs.Whole.{InRange}
use Rattle.fraction128.proofs.Integers.{same_bits}
use Rattle.sum_bounds.proofs.Steps.{if_moved, widened_adds}
use Rattle.sum_bounds.proofs.progression.Progression.with_weight.Goals as goal

pub returns-in_ok-product-in-Some : goal.returns-in_ok-product-in-Some
returns-in_ok-product-in-Some c =
    if_moved c.args.self c.args.weight c.in-Some.number (to_z w128 (of_z w128 c.in_ok-product-in-Some.field-0)) c.args.fixed c.in-Some.is
    (same_bits c.in_ok-product-in-Some.field-0 c.in_ok-product-in-Some.ensures.1 ∙ c.in_ok-product-in-Some.ensures.0 ∙ ap₂ ◌*ℤ◌ (same_bits c.args.weight c.requires.weight) (same_bits c.in-Some.number (subst (λ (o : Option ℤ). IfSome o InRange) c.in-Some.is c.requires.fixed))) c.moved.result c.moved.ensures

pub returns-in-None : goal.returns-in-None
returns-in-None c =
    widened_adds c.args.self c.widened.result c.args.weight c.args.fixed c.in-None.is c.widened.ensures.same
    (λ m z. let h = c.widened.ensures.has m z in (h.0, h.1 ∙ ap (λ w. c.args.self.step *ℤ m +ℤ w *ℤ z) (same_bits c.args.weight c.requires.weight)))
