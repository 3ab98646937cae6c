use Rattle.std.proofs.Common.{pos, true, false, get_or, sym, subst, ◌≡◌}
use Rattle.std.specs.Prelude.{unsigned_abs}
use Rattle.std.specs.Int.{◌∣◌}
use Rattle.fraction128.specs.Whole.{InRange}
use Rattle.fraction128.proofs.Integers.{same_bits}
use Rattle.smt_meaning.specs.declared.clauses.Summand.{Summand}
use Rattle.pair_bounds.proofs.NormalLemmas.{coefficient_at}
use Rattle.proof_terms.proofs.BoundJoining.{dividing_step, dividing_fails}
use Rattle.proof_terms.proofs.bound_quotients.divides_each.Goals as goal

abbrev zero : Summand
zero = record { coefficient = pos 0; term = 0 }

pub returns-then-not-divides : goal.returns-then-not-divides
returns-then-not-divides c = (
  λ t. (let e : false ≡ true = t in cc),
  λ all.
      (let fits : InRange (get_or c.args.sum.now c.loop-summand.summand-index zero).coefficient = coefficient_at c.args.sum.now c.loop-summand.summand-index zero c.loop-summand-test.true c.requires.fits in
      absurd
      (dividing_fails c.args.divisor c.args.sum.now c.loop-summand.summand-index zero c.loop-summand.invariant c.loop-summand-test.true
      (λ h. (let e : false ≡ true = c.if-not-divides.ensures.1 (subst (λ z. c.args.divisor ∣ unsigned_abs z) (sym (same_bits (get_or c.args.sum.now c.loop-summand.summand-index zero).coefficient fits)) h) in cc)) all)),
)

pub loop-summand-preserved : goal.loop-summand-preserved
loop-summand-preserved c =
    let fits : InRange (get_or c.args.sum.now c.loop-summand.summand-index zero).coefficient = coefficient_at c.args.sum.now c.loop-summand.summand-index zero c.loop-summand-test.true c.requires.fits in
    dividing_step c.args.divisor c.args.sum.now c.loop-summand.summand-index zero c.loop-summand.invariant c.loop-summand-test.true
    (subst (λ z. c.args.divisor ∣ unsigned_abs z) (same_bits (get_or c.args.sum.now c.loop-summand.summand-index zero).coefficient fits) (c.divides.ensures.0 c.if-not-divides.false))
