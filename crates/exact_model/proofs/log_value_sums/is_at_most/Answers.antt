use Rattle.std.proofs.Common.{ap, subst, sym, ◌∙◌, to_z, of_z, arith}
use Rattle.std.specs.Prelude.{pos, int_le, int_lt}
use Rattle.std.specs.Int.{w128}
use Rattle.std.proofs.lemmas.Int.{to_z-of_z, ints}
use Rattle.fraction128.specs.Whole.{InRange}
use Rattle.fraction128.proofs.Integers.{same_bits}
use Rattle.fraction128.specs.Dot.{dot_of}
use Rattle.exact_model.specs.Atoms.{sum_by}
use Rattle.exact_model.proofs.Deciding.{dot_is, past_sign}
use Rattle.exact_model.proofs.log_value_sums.is_at_most.Goals as goal

pub returns-in-Some : goal.returns-in-Some
returns-in-Some c =
    c.at_most.ensures
    ∙ ap (λ n. int_le n (to_z w128 (of_z w128 c.args.threshold))) (same_bits c.in-Some.total c.in-Some.ensures.some.1)
    ∙ ap (int_le c.in-Some.total) (to_z-of_z w128 c.args.threshold c.ranges.threshold)
    ∙ ap (λ n. int_le n c.args.threshold)
    (c.in-Some.ensures.some.0 ∙ ap (dot_of (pos 0)) (c.deref.ensures.value ∙ c.in_ok-pair_up.ensures) ∙ dot_is c.args.values.now c.args.sum.now)

pub returns-in-None : goal.returns-in-None
returns-in-None c =
    let here = ap (dot_of (pos 0)) (c.deref.ensures.value ∙ c.in_ok-pair_up.ensures) ∙ dot_is c.args.values.now c.args.sum.now in
    let there = ap (dot_of (pos 0)) (c.deref-in-None.ensures.value ∙ c.in_ok-pair_up.ensures) ∙ dot_is c.args.values.now c.args.sum.now in
    c.is_sum_negative.ensures
    ∙ ap (λ z. int_lt z (pos 0)) there
    ∙ past_sign (sum_by c.args.values.now c.args.sum.now) c.args.threshold (λ inside. c.in-None.ensures.none (subst InRange (sym here) inside)) (omega (arith, ints, c.ranges.threshold.sfits)) (omega (arith, ints, c.ranges.threshold.sfits))
