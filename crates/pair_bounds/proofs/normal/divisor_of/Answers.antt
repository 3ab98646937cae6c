use Rattle.std.proofs.Common.{arith, subst, sym}
use Rattle.fraction128.specs.Whole.{InRange}
use Rattle.fraction128.proofs.Integers.{same_bits}
use Rattle.std.specs.Prelude.{pos, ◌-◌, slice_index_or}
use Rattle.smt_meaning.specs.declared.clauses.Summand.{Summand}
use Rattle.pair_bounds.proofs.NormalLemmas.{coefficient_at}
use Rattle.pair_bounds.proofs.normal.divisor_of.Goals as goal

abbrev zero : Summand
zero = record { coefficient = pos 0; term = 0 }

pub gcd-divisor-requires-clause-a_in : goal.gcd-divisor-requires-clause-a_in
gcd-divisor-requires-clause-a_in c =
    let w = c.loop-i.invariant.within in
    let t = c.loop-i-test.true in
    let r : InRange (slice_index_or c.args.sum.now (c.loop-i.i - 1) zero).coefficient = coefficient_at c.args.sum.now (c.loop-i.i - 1) zero (omega arith) c.requires in
    subst InRange (sym (same_bits (slice_index_or c.args.sum.now (c.loop-i.i - 1) zero).coefficient r)) r
