use Rattle.std.specs.Prelude.{pos}
use Rattle.smt_meaning.specs.declared.clauses.Summand.{Summand}
use Rattle.pair_bounds.proofs.Mapping.{mapping_step}
use Rattle.pair_bounds.proofs.normal.divide.Goals as goal

abbrev zero : Summand
zero = record { coefficient = pos 0; term = 0 }

pub loop-summand-preserved : goal.loop-summand-preserved
loop-summand-preserved c = mapping_step _ _ c.loop-summand.summand-index c.loop-summand.sum c.loop-summand.invariant zero _ c.loop-summand-test.true c.divided_summand.ensures
