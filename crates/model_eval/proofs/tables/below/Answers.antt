use Rattle.std.proofs.Common.{rules}
use Rattle.std.specs.Prelude.{nat_lt}
use Rattle.std.proofs.lemmas.List.Sorted.{IsPartitionPoint-from_clause, IsPartitionedBy-ltb}
use Rattle.smt_meaning.specs.declared.values.Table.{Table}
use Rattle.model_eval.proofs.AscentLemmas.{non_decreasing, below_point, above_point}
use Rattle.model_eval.proofs.tables.below.Goals as goal

pub returns-clause-below : goal.returns-clause-below
returns-clause-below c =
    let parted = IsPartitionedBy-ltb (λ (t : Table). t.symbol) c.args.tables.now c.args.symbol (non_decreasing c.args.tables.now c.requires) in
    let point = IsPartitionPoint-from_clause (λ (t : Table). nat_lt t.symbol c.args.symbol) _ _ c.partition_point.ensures.partitioned parted (λ a r q h. search rules) in
    below_point c.args.tables.now c.args.symbol c.partition_point.result point

pub returns-clause-above : goal.returns-clause-above
returns-clause-above c =
    let parted = IsPartitionedBy-ltb (λ (t : Table). t.symbol) c.args.tables.now c.args.symbol (non_decreasing c.args.tables.now c.requires) in
    let point = IsPartitionPoint-from_clause (λ (t : Table). nat_lt t.symbol c.args.symbol) _ _ c.partition_point.ensures.partitioned parted (λ a r q h. search rules) in
    above_point c.args.tables.now c.args.symbol c.partition_point.result point
