use Rattle.std.proofs.Common.{◌≤◌, ◌+◌, false, ap, arith}
use Rattle.std.specs.Prelude.{slice_index_or}
use Rattle.scope_stack.proofs.ThinLemmas.{one_count_more, one_at_most, so_far_small}
use Rattle.scope_stack.proofs.asserted.counts_of.Goals as goal

pub overflow_add-count : goal.overflow_add-count
overflow_add-count c =
    let small : c.loop-place.count ≤ c.loop-place.place = so_far_small c.args.kept.now c.loop-place.place c.loop-place.count c.loop-place.counts.items c.loop-place.invariant in
    let one : c.one_if-count.result ≤ 1 = rw c.one_if-count.ensures (one_at_most (slice_index_or c.args.kept.now c.loop-place.place false)) in
    omega (arith, small, one, c.loop-place-test.true)

pub loop-place-preserved : goal.loop-place-preserved
loop-place-preserved c =
    rw c.in_ok-push-2.ensures.items
    (one_count_more c.args.kept.now c.loop-place.place c.loop-place.count _ c.loop-place.counts.items c.loop-place.invariant (ap (λ m. c.loop-place.count + m) c.one_if-count.ensures))
