use Rattle.std.proofs.Common.{◌≡◌, ◌<◌, length, All, subst, sym, arith}
use Rattle.std.specs.List.Sorted.{IsPermutation, IsNonDecreasing}
use Rattle.std.proofs.lemmas.List.Sorted.{All-permutation, IsNonDecreasingBy-from_sort}
use Rattle.linear_forms.specs.Scratch.{AreTouched, IsTakingOut}
use Rattle.linear_forms.proofs.ScratchLemmas.{listed_after, take_start, take_place, take_step, take_end, touched_back, touched_after}
use Rattle.linear_forms.proofs.coefficients.take_sum.Goals as goal
use Rattle.linear_forms.proofs.coefficients.take_sum.Goals.{After-deref-place-items}

permuted : (c : After-deref-place-items) → IsPermutation c.args.touched.now.items c.deref-place-items.result.now
permuted c = subst (IsPermutation c.args.touched.now.items) (sym c.deref-place-items.ensures.value) c.sort_unstable.ensures.permutation

within : (c : After-deref-place-items) → All (λ i. i < length c.args.values.now) c.deref-place-items.result.now
within c = All-permutation (λ i. i < length c.args.values.now) c.args.touched.now.items c.deref-place-items.result.now (permuted c) c.requires.touched.within

rising : (c : After-deref-place-items) → IsNonDecreasing c.deref-place-items.result.now
rising c = subst IsNonDecreasing (sym c.deref-place-items.ensures.value) (IsNonDecreasingBy-from_sort (λ x. x) c.sort_unstable.new.self.items c.sort_unstable.ensures.sorted)

pub loop-place-init : goal.loop-place-init
loop-place-init c =
    let d = (goal.at.loop-place-init c).After-deref-place-items in
    take_start c.args.values.now c.deref-place-items.result.now (within d) (rising d)
    (listed_after c.args.touched.now.items c.deref-place-items.result.now c.args.values.now (permuted d) c.requires.touched.listed) c.args.sum.now.items c.requires.empty

pub take_out-requires : goal.take_out-requires
take_out-requires c =
    let d = (goal.at.take_out-requires c).After-deref-place-items in
    take_place c.args.values.now c.deref-place-items.result.now (within d) (rising d) c.loop-place.place-index c.loop-place.values c.loop-place.sum.items c.loop-place.invariant c.loop-place-test.true

pub loop-place-preserved : goal.loop-place-preserved
loop-place-preserved c =
    let d = (goal.at.loop-place-preserved c).After-deref-place-items in
    take_step c.args.values.now c.deref-place-items.result.now (within d) (rising d) c.loop-place.place-index c.loop-place.values c.loop-place.sum.items c.loop-place.invariant c.loop-place-test.true
    c.take_out.new.values c.take_out.ensures.values c.take_out.new.sum.items c.in_ok-take_out.ensures.ok

pub returns-in_err-take_out-clause-touched : goal.returns-in_err-take_out-clause-touched
returns-in_err-take_out-clause-touched c =
    let d = (goal.at.returns-in_err-take_out-clause-touched c).After-deref-place-items in
    subst (AreTouched c.take_out.new.values) c.deref-place-items.ensures.value
    (touched_after c.args.values.now c.deref-place-items.result.now c.loop-place.place-index c.loop-place.values c.take_out.new.values c.loop-place.sum.items (within d) c.loop-place.invariant c.loop-place-test.true
    c.take_out.ensures.values)

pub returns-clause-ok : goal.returns-clause-ok
returns-clause-ok c = λ ps h k.
    let d = (goal.at.returns-clause-ok c).After-deref-place-items in
    let at_end : c.loop-place.place-index ≡ length c.deref-place-items.result.now = omega arith in
    take_end c.args.values.now c.deref-place-items.result.now (within d) (rising d) c.loop-place.values c.loop-place.sum.items
    (subst (λ n. IsTakingOut c.args.values.now c.deref-place-items.result.now n c.loop-place.values c.loop-place.sum.items) at_end c.loop-place.invariant) ps h k

pub returns-clause-touched : goal.returns-clause-touched
returns-clause-touched c =
    let d = (goal.at.returns-clause-touched c).After-deref-place-items in
    subst (AreTouched c.loop-place.values) c.deref-place-items.ensures.value
    (touched_back c.args.values.now c.deref-place-items.result.now c.loop-place.place-index c.loop-place.values c.loop-place.sum.items (within d) c.loop-place.invariant)
