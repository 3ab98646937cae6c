use Rattle.std.proofs.Common.{◌≡◌, ◌≢◌, ℕ, List, Bool, true, false, not, refl, subst, All, Contains}
use Rattle.literals.specs.Signed.{Signed}
use Rattle.clause_form.proofs.Gathering.{some_clash, some_clear, some_kept, off, none_kept}
use Rattle.clause_form.proofs.gather.take_in.Goals as goal

unless : (b : Bool) → not b ≡ true → b ≡ false
unless true h = let e : false ≡ true = h in cc
unless false h = refl

must : (b : Bool) → not b ≡ false → b ≡ true
must true h = refl
must false h = let e : true ≡ false = h in cc

pub returns-in-Some-clause-clash : goal.returns-in-Some-clause-clash
returns-in-Some-clause-clash c h =
    some_clash c.args.kept.now.items c.args.literal c.in-Some.other (subst (λ (ls : List Signed). Contains ls c.in-Some.other) c.deref-2.ensures.value c.in-Some.ensures.some.0) (c.is_same.ensures.opposite (unless c.is_same.result h))

pub returns-in-Some-clause-clear : goal.returns-in-Some-clause-clear
returns-in-Some-clause-clear c h =
    some_clear c.args.places.now.items c.args.kept.now.items c.args.literal c.in-Some.other c.requires (subst (λ (ls : List Signed). Contains ls c.in-Some.other) c.deref-2.ensures.value c.in-Some.ensures.some.0) (c.is_same.ensures.same (must c.is_same.result h))

pub returns-in-Some-clause-kept : goal.returns-in-Some-clause-kept
returns-in-Some-clause-kept c h =
    some_kept c.args.kept.now.items c.args.literal c.in-Some.other (subst (λ (ls : List Signed). Contains ls c.in-Some.other) c.deref-2.ensures.value c.in-Some.ensures.some.0) (c.is_same.ensures.same (must c.is_same.result h))

pub returns-in_ok-keep-in-None-clause-clear : goal.returns-in_ok-keep-in-None-clause-clear
returns-in_ok-keep-in-None-clause-clear c h = off c.args.kept.now.items c.args.literal.atom _ (subst (λ (a : ℕ). All (λ (m : Signed). m.atom ≢ a) c.args.kept.now.items) c.atom.ensures (subst (λ (ls : List Signed). All (λ (m : Signed). m.atom ≢ c.atom.result) ls) c.deref-2.ensures.value c.in-None.ensures.none)) refl

pub returns-in_ok-keep-in-None-clause-kept : goal.returns-in_ok-keep-in-None-clause-kept
returns-in_ok-keep-in-None-clause-kept c h = none_kept c.args.kept.now.items c.keep.new.kept.items c.args.literal (subst (λ (a : ℕ). All (λ (m : Signed). m.atom ≢ a) c.args.kept.now.items) c.atom.ensures (subst (λ (ls : List Signed). All (λ (m : Signed). m.atom ≢ c.atom.result) ls) c.deref-2.ensures.value c.in-None.ensures.none)) c.in_ok-keep-in-None.ensures.kept
