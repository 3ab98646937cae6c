use Rattle.std.proofs.Common.{rules, arith}
use Rattle.std.specs.Prelude.{nat_lt}
use Rattle.std.proofs.lemmas.List.Sorted.{IsPartitionPoint-from_clause, IsPartitionedBy-ltb}
use Rattle.smt_meaning.specs.Declaration.{Declaration}
use Rattle.smt_sorts.proofs.PlaceLemmas.{non_decreasing, below_point, above_point}
use Rattle.smt_sorts.proofs.places.below_id.Goals as goal

pub returns-clause-below : goal.returns-clause-below
returns-clause-below c =
    let parted = IsPartitionedBy-ltb (λ (d : Declaration). d.id) c.args.declarations.now c.args.id (non_decreasing (λ (d : Declaration). d.id) c.args.declarations.now (λ i j d less short. omega (arith, c.requires i j d less short))) in
    let point = IsPartitionPoint-from_clause (λ x. nat_lt ((λ (d : Declaration). d.id) x) c.args.id) _ _ c.partition_point.ensures.partitioned parted (λ a r q h. search rules) in
    below_point (λ (d : Declaration). d.id) c.args.id c.args.declarations.now c.partition_point.result point

pub returns-clause-above : goal.returns-clause-above
returns-clause-above c =
    let parted = IsPartitionedBy-ltb (λ (d : Declaration). d.id) c.args.declarations.now c.args.id (non_decreasing (λ (d : Declaration). d.id) c.args.declarations.now (λ i j d less short. omega (arith, c.requires i j d less short))) in
    let point = IsPartitionPoint-from_clause (λ x. nat_lt ((λ (d : Declaration). d.id) x) c.args.id) _ _ c.partition_point.ensures.partitioned parted (λ a r q h. search rules) in
    above_point (λ (d : Declaration). d.id) c.args.id c.args.declarations.now c.partition_point.result point
