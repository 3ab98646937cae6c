use Rattle.std.proofs.Common.{◌∙◌, pos, ◌*ℤ◌, ◌<ℤ◌, sym, ap, subst, to_z, of_z}
use Rattle.std.specs.Int.{w128}
use Rattle.std.proofs.lemmas.Int.{to_z-of_z}
use Rattle.fraction128.proofs.Integers.{same_bits}
use Rattle.sum_bounds.proofs.Steps.{IsDivisor, divisor_is, same_products}
use Rattle.sum_bounds.proofs.progression.factors_of.Goals as goal
use Rattle.sum_bounds.proofs.progression.factors_of.Goals.{After-gcd-divisor}

divisor : (c : After-gcd-divisor) → IsDivisor (to_z w128 (of_z w128 c.args.left)) (to_z w128 (of_z w128 c.args.right)) (to_z w128 (of_z w128 c.gcd-divisor.result))
divisor c =
    divisor_is (to_z w128 (of_z w128 c.args.left)) (to_z w128 (of_z w128 c.args.right)) (to_z w128 (of_z w128 c.gcd-divisor.result))
    (subst (λ z. pos 0 <ℤ z) (sym (same_bits c.args.left c.requires.left.1)) c.requires.left.0)
    (to_z-of_z w128 c.gcd-divisor.result (record { sfits = c.gcd-divisor.type_inv }) ∙ c.gcd-divisor.ensures)

pub quotient-requires-clause-divisor : goal.quotient-requires-clause-divisor
quotient-requires-clause-divisor c = (divisor c).positive

pub quotient-requires-clause-divides : goal.quotient-requires-clause-divides
quotient-requires-clause-divides c = (divisor c).right

pub quotient-requires-2-clause-divisor : goal.quotient-requires-2-clause-divisor
quotient-requires-2-clause-divisor c = (divisor c.before).positive

pub quotient-requires-2-clause-divides : goal.quotient-requires-2-clause-divides
quotient-requires-2-clause-divides c = (divisor c.before).left

pub returns-clause-same : goal.returns-clause-same
returns-clause-same c =
    ap (λ z. c.args.left *ℤ z) (same_bits c.quotient.result c.quotient.ensures.in_range)
    ∙ same_products c.args.left c.args.right (to_z w128 (of_z w128 c.gcd-divisor.result)) c.quotient.result c.quotient-2.result
    (c.quotient.ensures.value ∙ same_bits c.args.right c.requires.right.1) (c.quotient-2.ensures.value ∙ same_bits c.args.left c.requires.left.1)
    ∙ sym (ap (λ z. c.args.right *ℤ z) (same_bits c.quotient-2.result c.quotient-2.ensures.in_range))
