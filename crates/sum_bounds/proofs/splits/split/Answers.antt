use Rattle.std.proofs.Common.{subst, to_z, of_z}
use Rattle.std.specs.Int.{w128}
use Rattle.sum_bounds.specs.Splits.{IsResolvent}
use Rattle.sum_bounds.proofs.SplitLaws.{keeps_both, split_of}
use Rattle.sum_bounds.proofs.splits.split.Goals as goal

pub returns-in-Ok-clause-keeps : goal.returns-in-Ok-clause-keeps
returns-in-Ok-clause-keeps c = keeps_both c.args.copy.now c.conflict_with.new.copy c.conflict_with-2.new.copy c.conflict_with.ensures.keeps c.conflict_with-2.ensures.keeps

pub returns-in-Ok-clause-some : goal.returns-in-Ok-clause-some
returns-in-Ok-clause-some c =
    let below = c.in_ok-below.below.items in
    let above = c.in_ok-above.above.items in
    let ls = c.in-Ok.clause.items in
    split_of c.args.copy.now c.conflict_with.new.copy c.args.variable (to_z w128 (of_z w128 c.args.number)) c.new.result c.new-2.result below above ls c.new.ensures c.new-2.ensures c.in_ok-below.ensures.some c.conflict_with.ensures.keeps
    c.conflict_with.ensures.told c.in_ok-above.ensures.some
    (subst (λ xs. IsResolvent xs above ls) c.deref.ensures.value (subst (λ ys. IsResolvent c.deref.result.now ys ls) c.deref-2.ensures.value c.in-Ok.ensures))
