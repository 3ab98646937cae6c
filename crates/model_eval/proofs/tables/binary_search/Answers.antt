use Rattle.std.proofs.Common.{sym, arith}
use Rattle.model_eval.proofs.AscentLemmas.{place_here, none_behind, none_between}
use Rattle.model_eval.proofs.tables.binary_search.Goals as goal

pub returns-then-place-tables : goal.returns-then-place-tables
returns-then-place-tables c = sym (none_behind c.args.tables.now c.args.symbol c.below-place.result c.below-place.ensures.below (omega arith))

pub returns-then-table_at-symbol : goal.returns-then-table_at-symbol
returns-then-table_at-symbol c =
    sym (place_here c.args.tables.now c.args.symbol c.below-place.result c.table_at.result.now c.below-place.ensures.below c.table_at.ensures (omega arith))

pub returns-else-table_at-symbol : goal.returns-else-table_at-symbol
returns-else-table_at-symbol c =
    sym
    (none_between c.args.tables.now c.args.symbol c.below-place.result c.table_at.result.now c.requires c.below-place.ensures.below c.below-place.ensures.above c.table_at.ensures
    (λ same. omega arith))
