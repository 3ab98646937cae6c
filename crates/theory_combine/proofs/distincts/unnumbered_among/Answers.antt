use Rattle.std.proofs.Common.{◌≡◌, ◌<◌, ℕ, List, sym, subst, length}
use Rattle.std.specs.Prelude.{slice_index_or}
use Rattle.std.specs.List.Sorted.{IsSorted}
use Rattle.theory_combine.specs.declared.distincts.IntArgument.{IntArgument}
use Rattle.theory_combine.specs.ByValue.{AreIntsAmong, AreTellableBefore, argument_cmp}
use Rattle.theory_combine.specs.Settling.{AreTellable, HasTellableInts}
use Rattle.theory_combine.proofs.ByValue.{all_tellable, none_then}
use Rattle.theory_combine.proofs.distincts.unnumbered_among.Goals as goal

pub returns-in_ok-ints-in-Some-clause-none : goal.returns-in_ok-ints-in-Some-clause-none
returns-in_ok-ints-in-Some-clause-none c =
    let p = c.args.parts.now in
    let w = c.args.progress.now in
    let gs = c.args.given.now in
    let is : List ℕ = c.in-Some.arguments.now in
    let xs : List IntArgument = c.deref.result.now in
    let among : AreIntsAmong p gs is (length is) xs = subst (λ (ys : List IntArgument). AreIntsAmong p gs is (length is) ys) (sym c.deref.ensures.value) c.in_ok-ints-in-Some.ensures.ints in
    let sorted : IsSorted argument_cmp xs = subst (IsSorted argument_cmp) (sym c.deref.ensures.value) c.in_ok-ints-in-Some.ensures.sorted in
    none_then ((b : ℕ) → b < length xs → AreTellableBefore p w gs is xs b) (HasTellableInts p w gs c.args.place) c.unnumbered_in.result
    (λ told js distinct.
    let same : js ≡ is = c.in-Some.ensures.one js distinct in
    subst (λ (ks : List ℕ). (j k : ℕ) → j < k → k < length ks → AreTellable p w gs (slice_index_or ks j 0) (slice_index_or ks k 0)) (sym same) (all_tellable p w gs is xs sorted among told))
    c.unnumbered_in.ensures.none

pub returns-in-None-clause-none : goal.returns-in-None-clause-none
returns-in-None-clause-none c = λ js distinct. absurd (c.in-None.ensures.none js distinct)
