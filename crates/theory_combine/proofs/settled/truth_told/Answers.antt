use Rattle.std.proofs.Common.{List, refl, inl, inr, subst}
use Rattle.std.specs.Prelude.{Contains, false}
use Rattle.literals.specs.Signed.{Signed, opposite}
use Rattle.theory_combine.proofs.settled.truth_told.Goals as goal

pub returns-in-None : goal.returns-in-None
returns-in-None c =
    let l : Signed = record { atom = c.args.atom; positive = false } in
    let never = (subst (λ (ls : List Signed). (Contains ls (opposite l) → ⊥)) c.deref-2.ensures.value (c.in-None.ensures.none l refl).1) in
    elim (c.requires.told.full l c.requires.within) [ inl told ↦ told | inr told ↦ absurd (never told) ]
