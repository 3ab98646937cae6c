use Rattle.std.proofs.Common.{subst, sym}
use Rattle.std.specs.Prelude.{pos}
use Rattle.fraction128.specs.Whole.{InRange}
use Rattle.smt_meaning.specs.declared.clauses.Summand.{Summand}
use Rattle.pair_bounds.proofs.NormalLemmas.{coefficient_at}
use Rattle.pair_bounds.proofs.Mapping.{mapping_same, mapping_step}
use Rattle.pair_bounds.proofs.turning.negate.Goals as goal

abbrev zero : Summand
zero = record { coefficient = pos 0; term = 0 }

pub negated-requires : goal.negated-requires
negated-requires c =
    subst (λ (p : Summand). InRange p.coefficient) (sym (mapping_same _ _ c.loop-summand.summand-index c.loop-summand.sum c.loop-summand.invariant zero c.loop-summand-test.true))
    (coefficient_at c.args.sum.now c.loop-summand.summand-index zero c.loop-summand-test.true c.requires)

pub loop-summand-preserved : goal.loop-summand-preserved
loop-summand-preserved c = mapping_step _ _ c.loop-summand.summand-index c.loop-summand.sum c.loop-summand.invariant zero _ c.loop-summand-test.true c.negated.ensures
