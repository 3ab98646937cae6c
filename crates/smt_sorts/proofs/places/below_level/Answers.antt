use Rattle.std.proofs.Common.{ℕ, rules}
use Rattle.std.specs.Prelude.{nat_lt}
use Rattle.std.proofs.lemmas.List.Sorted.{IsPartitionPoint-from_clause, IsPartitionedBy-ltb}
use Rattle.smt_sorts.proofs.PlaceLemmas.{non_decreasing, below_point, above_point}
use Rattle.smt_sorts.proofs.places.below_level.Goals as goal

pub returns-clause-below : goal.returns-clause-below
returns-clause-below c =
    let parted = IsPartitionedBy-ltb (λ (k : ℕ). k) c.args.levels.now c.args.level (non_decreasing (λ (k : ℕ). k) c.args.levels.now c.requires) in
    let point = IsPartitionPoint-from_clause (λ x. nat_lt ((λ (k : ℕ). k) x) c.args.level) _ _ c.partition_point.ensures.partitioned parted (λ a r q h. search rules) in
    below_point (λ (k : ℕ). k) c.args.level c.args.levels.now c.partition_point.result point

pub returns-clause-above : goal.returns-clause-above
returns-clause-above c =
    let parted = IsPartitionedBy-ltb (λ (k : ℕ). k) c.args.levels.now c.args.level (non_decreasing (λ (k : ℕ). k) c.args.levels.now c.requires) in
    let point = IsPartitionPoint-from_clause (λ x. nat_lt ((λ (k : ℕ). k) x) c.args.level) _ _ c.partition_point.ensures.partitioned parted (λ a r q h. search rules) in
    above_point (λ (k : ℕ). k) c.args.level c.args.levels.now c.partition_point.result point
