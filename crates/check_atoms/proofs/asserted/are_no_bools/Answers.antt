use Rattle.std.proofs.Common.{◌≡◌, true, false, subst, rules}
use Rattle.std.proofs.lemmas.List.{take_all}
use Rattle.std.proofs.lemmas.List.Elements.{All-more}
use Rattle.check_atoms.specs.AssertedDistinct.{IsListedNoBool}
use Rattle.check_atoms.proofs.AssertedTerms.{AreNoBools}
use Rattle.check_atoms.proofs.asserted.are_no_bools.Goals as goal

pub loop-place-preserved : goal.loop-place-preserved
loop-place-preserved c =
    let other : c.is_bool.result ≡ false = search rules in
    All-more (IsListedNoBool c.args.sorts.now) c.args.places.now c.loop-place.place-index 0 c.loop-place-test.true c.loop-place.invariant (c.is_bool.ensures.no other)

pub returns-then-is_bool-clause-no : goal.returns-then-is_bool-clause-no
returns-then-is_bool-clause-no c = λ e all.
    let here : c.is_bool.result ≡ true = search rules in
    all c.loop-place.place-index 0 c.loop-place-test.true (c.is_bool.ensures.yes here)

pub returns-clause-yes : goal.returns-clause-yes
returns-clause-yes c = λ e. subst (AreNoBools c.args.sorts.now) (take_all c.loop-place.place-index c.args.places.now c.loop-place-test.false) c.loop-place.invariant
