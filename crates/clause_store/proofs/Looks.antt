-- What a look at a clause gives.
use Rattle.std.proofs.Common.{◌≡◌, ℕ, List, [], ◌∷◌, ◌++◌, Some, All, Contains, ◌⊎◌, inl, inr, refl, subst, sym, ap, ◌∙◌}
use Rattle.std.proofs.lemmas.List.Elements.{All-weaker}
use Rattle.std.proofs.lemmas.List.{get_or_default}
use Rattle.std.proofs.Common.{get_or, set, length, ◌<◌, ◌≤◌, arith}
use Rattle.literals.specs.Signed.{Signed, packed}
use Rattle.clause_store.specs.declared.trail.Step.{Step}
use Rattle.clause_store.specs.Trail.{IsOpen}
use Rattle.clause_store.specs.Stored.{IsFalseOn, AllFalse}
use Rattle.clause_store.specs.Entries.{Entry, entry_at, watches_of}
use Rattle.clause_store.specs.Visits.{Parts, StepGives, IsFoundAt, NoneBetween}
use Rattle.clause_store.specs.declared.lists.Watch.{Watch}
use Rattle.clause_store.specs.declared.sweep.Visit.TheVariants.{Keep, Gone, False}

pub parts_same : (es es' : List Entry) (lists lists' : List (List Watch)) (steps : List Step) → es' ≡ es → lists' ≡ lists
    → let a : Parts = record { entries = es'; lists = lists'; steps = steps } in let b : Parts = record { entries = es; lists = lists; steps = steps } in a ≡ b
parts_same es es' lists lists' steps e l = ap (λ (x : List Entry). let p : Parts = record { entries = x; lists = lists'; steps = steps } in p) e ∙ ap (λ (x : List (List Watch)). let p : Parts = record { entries = es; lists = x; steps = steps } in p) l

pub step-moves : (found o : Signed) (row depth : ℕ) (es es' : List Entry) (lists lists' : List (List Watch)) (steps : List Step)
    → Contains (entry_at es row).literals found × (found ≡ o → ⊥) × (IsFalseOn steps found → ⊥) → es' ≡ set es row (record (entry_at es row) { first = o; second = found })
    → (let more : Watch = record { blocker = o; row = row } in lists' ≡ set lists (packed found) (watches_of lists found ++ more ∷ []))
    → StepGives o row depth (record { entries = es; lists = lists; steps = steps }) (record { entries = es'; lists = lists'; steps = steps }) Gone
step-moves found o row depth es es' lists lists' steps h e l = record { found = found; apart = h.1; contained = h.0; not_false = h.2; entries = e; lists = l; steps = refl }

pub all_false : (steps : List Step) (o : Signed) (ls : List Signed) → IsFalseOn steps o → All (λ m. (m ≡ o) ⊎ IsFalseOn steps m) ls → AllFalse steps ls
all_false steps o ls f h = All-weaker (λ m. (m ≡ o) ⊎ IsFalseOn steps m) (IsFalseOn steps) (λ m p. elim p [ inl e ↦ subst (IsFalseOn steps) (sym e) f | inr g ↦ g ]) ls h

below_or_past : (a b : ℕ) → (a < b) ⊎ (b ≤ a)
below_or_past a b = grind arith

pub none_at_all : (steps : List Step) (ls : List Signed) (o : Signed) (place : ℕ) → NoneBetween steps ls o place (length ls) → NoneBetween steps ls o 0 place → All (λ m. (m ≡ o) ⊎ IsFalseOn steps m) ls
none_at_all steps ls o place back front k d lt =
    rw (get_or_default ls k d o lt) (elim (below_or_past k place) [ inl below ↦ front.none k (omega arith) below | inr past ↦ back.none k past lt ])

pub step-implies : (o : Signed) (row depth : ℕ) (es es' : List Entry) (lists : List (List Watch)) (steps steps' : List Step) → es' ≡ es → IsOpen steps o
    → All (λ m. (m ≡ o) ⊎ IsFalseOn steps m) (entry_at es row).literals → (let step : Step = record { literal = o; depth = depth; reason = Some row } in steps' ≡ steps ++ step ∷ [])
    → StepGives o row depth (record { entries = es; lists = lists; steps = steps }) (record { entries = es'; lists = lists; steps = steps' }) (Keep o)
step-implies o row depth es es' lists steps steps' e open' rest gains = (refl, inr (record { was_open = open'; rest = rest; entries = e; lists = refl; steps = gains }))

pub step-false : (o : Signed) (row depth : ℕ) (es es' : List Entry) (lists : List (List Watch)) (steps : List Step) → es' ≡ es → IsFalseOn steps o → All (λ m. (m ≡ o) ⊎ IsFalseOn steps m) (entry_at es row).literals
    → StepGives o row depth (record { entries = es; lists = lists; steps = steps }) (record { entries = es'; lists = lists; steps = steps }) False
step-false o row depth es es' lists steps e f rest = record { same = parts_same es es' lists lists steps e refl; all_false = all_false steps o (entry_at es row).literals f rest }

pub found_at : (steps : List Step) (ls : List Signed) (o : Signed) (k : ℕ) (l : Signed) → IsFoundAt steps ls o k → l ≡ get_or ls k l → Contains ls l × (l ≡ o → ⊥) × (IsFalseOn steps l → ⊥)
found_at steps ls o k l h is =
    let e : l ≡ get_or ls k o = is ∙ get_or_default ls k l o h.within in
    ((k, h.within, sym is), λ same. h.apart (sym e ∙ same), λ f. h.not_false (subst (IsFalseOn steps) e f))
