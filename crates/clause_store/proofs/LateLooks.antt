-- What a look at one clause gives at a lower depth.
use Rattle.std.proofs.Common.{◌≡◌, ℕ, ◌<◌, [], ◌∷◌, ◌++◌, set, true, false, Bool, List, Contains, subst, refl, inl, inr, ◌⊎◌}
use Rattle.std.proofs.lemmas.List.Elements.{All-contains}
use Rattle.literals.specs.Signed.{Signed, packed}
use Rattle.clause_store.specs.declared.trail.Step.{Step}
use Rattle.clause_store.specs.Stored.{IsFalseOn}
use Rattle.clause_store.specs.Entries.{Entry, entry_at, watches_of, IsKnown, IsOther}
use Rattle.clause_store.specs.Watching.{IsPair}
use Rattle.clause_store.specs.Visits.{Parts}
use Rattle.clause_store.specs.Forcing.{ForceGives}
use Rattle.clause_store.specs.Late.{IsPinned, PinGives, LateGives}
use Rattle.clause_store.specs.declared.lists.Watch.{Watch}
use Rattle.clause_store.specs.declared.waits.Wait.{Wait}
use Rattle.clause_store.specs.declared.sweep.Visit.{Visit}
use Rattle.clause_store.specs.declared.sweep.Visit.TheVariants.{Keep, Gone, False}

pub force-true : (w : Wait) (depth : ℕ) (old new : List Step) (b : Bool) → (IsFalseOn old w.literal → ⊥) → ForceGives w depth old new b → ForceGives w depth old new true
force-true w depth old new true never h = h
force-true w depth old new false never h = absurd (never h.0)

pub late-found : (f found o : Signed) (row depth : ℕ) (es es' : List Entry) (lists lists' : List (List Watch)) (steps : List Step) (ws : List Wait) → (entry_at es row).live ≡ true → IsOther (entry_at es row) f o
    → Contains (entry_at es row).literals found × (found ≡ o → ⊥) × (IsFalseOn steps found → ⊥) → es' ≡ set es row (record (entry_at es row) { first = o; second = found })
    → (let more : Watch = record { blocker = o; row = row } in lists' ≡ set lists (packed found) (watches_of lists found ++ more ∷ []))
    → LateGives f row depth (record { entries = es; lists = lists; steps = steps }) (record { entries = es'; lists = lists'; steps = steps }) ws ws Gone
late-found f found o row depth es es' lists lists' steps ws live other h e l =
    inr (inl (record { live = live; other = o; is_other = other; moves = record { found = found; apart = h.1; contained = h.0; not_false = h.2; entries = e; lists = l; steps = refl }; waits = refl }))

pub late-pinned : (f o s : Signed) (row depth from : ℕ) (old new : Parts) (ws ws' : List Wait) (v : Visit) → (entry_at old.entries row).live ≡ true → IsOther (entry_at old.entries row) f o → IsPinned old.steps (entry_at old.entries row).literals o s from
    → (let w : Wait = record { row = row; literal = o; depth = from } in PinGives f s w depth old new ws ws' v) → LateGives f row depth old new ws ws' v
late-pinned f o s row depth from old new ws ws' (Keep b) live other pinned g = record { live = live; other = o; is_other = other; second = s; from = from; pinned = pinned; gives = g }
late-pinned f o s row depth from old new ws ws' Gone live other pinned g = inr (inr (record { live = live; other = o; is_other = other; second = s; from = from; pinned = pinned; gives = g }))
late-pinned f o s row depth from old new ws ws' False live other pinned g = absurd g

pub other_contained : (e : Entry) (f o : Signed) → IsPair e → IsOther e f o → Contains e.literals o
other_contained e f o pair other = elim other.pair [ inl p ↦ subst (Contains e.literals) p.1 pair.second | inr p ↦ subst (Contains e.literals) p.1 pair.first ]

pub own_contained : (e : Entry) (f : Signed) → IsPair e → (e.first ≡ f) ⊎ (e.second ≡ f) → Contains e.literals f
own_contained e f pair (inl p) = subst (Contains e.literals) p pair.first
own_contained e f pair (inr p) = subst (Contains e.literals) p pair.second

pub known_in : (atoms : ℕ) (e : Entry) (l : Signed) → IsKnown atoms e → Contains e.literals l → l.atom < atoms
known_in atoms e l h c = All-contains (λ (x : Signed). x.atom < atoms) e.literals l h.literals c
