use Rattle.std.proofs.Common.{rules, ◌+◌, ◌<◌, ◌≤◌, ℕ, List, length, get_or, sym, ap, subst, arith}
use Rattle.std.proofs.lemmas.List.{get_or_default}
use Rattle.theory_combine.specs.Settling.{HasTellableInts}
use Rattle.theory_combine.proofs.Settling.{more_hold}
use Rattle.theory_combine.proofs.distincts.unnumbered_ints.Goals as goal

pub loop-place-preserved : goal.loop-place-preserved
loop-place-preserved c =
    let Holds = λ (q : ℕ). HasTellableInts c.args.parts.now c.args.progress.now c.args.given.now q in
    let ps : List ℕ = c.deref-place-items.result.now in
    let at = c.loop-place.place-index in
    let less : at < length ps = c.loop-place-test.true in
    let one : Holds (get_or ps at 0) = search rules in
    let before : (j d : ℕ) → j < at → Holds (get_or ps j d) = subst (λ (qs : List ℕ). (j d : ℕ) → j < at → Holds (get_or qs j d)) (sym c.deref-place-items.ensures.value) c.loop-place.invariant in
    subst (λ (qs : List ℕ). (j d : ℕ) → j < at + 1 → Holds (get_or qs j d)) c.deref-place-items.ensures.value
    (more_hold Holds ps at (get_or ps at 0) less (get_or_default ps at 0 (get_or ps at 0) less) one before)

pub returns-clause-none : goal.returns-clause-none
returns-clause-none c = λ j d less.
    let all : length c.deref-place-items.result.now ≤ c.loop-place.place-index = c.loop-place-test.false in
    c.loop-place.invariant j d (omega (arith, ap (λ (qs : List ℕ). length qs) c.deref-place-items.ensures.value))
