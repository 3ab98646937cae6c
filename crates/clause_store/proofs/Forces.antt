-- Forcing the literals of waiting clauses.
use Rattle.std.proofs.Common.{◌≡◌, ℕ, Bool, true, false, List, subst, sym, refl, inl, inr, ◌⊎◌, Some}
use Rattle.std.proofs.lemmas.List.Elements.{All-weaker}
use Rattle.literals.specs.Signed.{Signed, opposite}
use Rattle.clause_store.specs.Trail.{Assigns, up_to}
use Rattle.clause_store.specs.declared.trail.Step.{Step}
use Rattle.clause_store.specs.Stored.{IsFalseOn}
use Rattle.clause_store.specs.Entries.{Entry, entry_at}
use Rattle.clause_store.specs.Watching.{Grows, kept_from}
use Rattle.clause_store.specs.Rested.{IsWaiting, OthersFalse}
use Rattle.clause_store.specs.Forcing.{ForceGives, AllForced}
use Rattle.clause_store.proofs.Filters.{up_to-assigns}
use Rattle.clause_store.proofs.Kept.{Grows-push, forced_by, Assigns-push}
use Rattle.clause_store.specs.declared.waits.Wait.{Wait}

pub force-more : (w : Wait) (depth : ℕ) (old new : List Step) (b : Bool) → ForceGives w depth old new b → (l : Signed) → Assigns old l → Assigns new l
force-more w depth old new false h l a = subst (λ xs. Assigns xs l) (sym h.1) a
force-more w depth old new true h l a = elim h.1 [
  | inl e ↦ subst (λ xs. Assigns xs l) (sym e) a
  | inr e ↦ subst (λ xs. Assigns xs l) (sym e) (Assigns-push old _ l a)
]

pub OthersFalse-more : (old new : List Step) (ls : List Signed) (l : Signed) → ((x : Signed) → Assigns old x → Assigns new x) → OthersFalse old ls l → OthersFalse new ls l
OthersFalse-more old new ls l more h = All-weaker (λ m. (m ≡ l) ⊎ IsFalseOn old m) (λ m. (m ≡ l) ⊎ IsFalseOn new m) (λ m p. elim p [ inl e ↦ inl e | inr f ↦ inr (more (opposite m) f) ]) ls h

pub force-grows : (es : List Entry) (w : Wait) (depth : ℕ) (first old new : List Step) (b : Bool) → IsWaiting es first w → ((l : Signed) → Assigns first l → Assigns old l) → Grows (kept_from 0 es) depth first old
    → ForceGives w depth old new b → Grows (kept_from 0 es) depth first new
force-grows es w depth first old new false waits more h f = subst (Grows (kept_from 0 es) depth first) (sym f.1) h
force-grows es w depth first old new true waits more h f = elim f.1 [
  | inl e ↦ subst (Grows (kept_from 0 es) depth first) (sym e) h
  | inr e ↦ subst (Grows (kept_from 0 es) depth first) (sym e)
      (Grows-push (kept_from 0 es) depth first old _ h
      (forced_by es w.row old (record { literal = w.literal; depth = depth; reason = Some w.row }) waits.live refl waits.contained (OthersFalse-more (up_to w.depth first) old (entry_at es w.row).literals w.literal (λ l a. more l (up_to-assigns w.depth first l a)) waits.rest)) refl)
]

pub AllForced-more : (old new : List Step) (ws : List Wait) → ((l : Signed) → Assigns old l → Assigns new l) → AllForced old ws → AllForced new ws
AllForced-more old new ws more h = All-weaker (λ (w : Wait). Assigns old w.literal) (λ (w : Wait). Assigns new w.literal) (λ w a. more w.literal a) ws h
