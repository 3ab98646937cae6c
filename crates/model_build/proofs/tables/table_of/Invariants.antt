use Rattle.model_build.specs.Filling.{empty_table}
use Rattle.model_build.proofs.Fills.{IsFilled}
use Rattle.model_build.proofs.tables.table_of.Given as goal

abbrev pub invariant-loop-link : goal.invariant-loop-link
invariant-loop-link l = IsFilled l.store.trees l.given (empty_table l.declaration) l.firsts l.symbols l.table l.link

abbrev pub decreases-loop-link : goal.decreases-loop-link
decreases-loop-link l = l.link
