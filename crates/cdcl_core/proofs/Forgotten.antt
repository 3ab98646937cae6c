-- A clause that is forgotten, and the marks of reasons.
use Rattle.std.proofs.Common.{◌≡◌, ℕ, ◌+◌, ◌<◌, ◌≤◌, ◌==◌, Bool, true, false, not, List, take, length, get_or, Contains, Some, eqb, eqb-true, subst, sym, ap, ◌∙◌, refl, inl, inr, arith}
use Rattle.std.proofs.lemmas.List.{take_more, get_or_default}
use Rattle.std.proofs.lemmas.List.Elements.{All-filter, All-contains, All-contains_itself, Contains-push_cases}
use Rattle.clause_store.specs.declared.trail.Step.{Step}
use Rattle.clause_store.specs.Stored.{HaveOwnIds, Kept, Stored, without}
use Rattle.clause_store.specs.Found.{HasKept}
use Rattle.cdcl_core.specs.Search.{AreAmong}
use Rattle.cdcl_core.specs.declared.forget.Forgetting.{Forgetting}
use Rattle.cdcl_core.specs.Turns.{IsLasting, IsTidied}
use Rattle.cdcl_core.specs.Forgetting.{AreMarked}
use Rattle.clause_store.proofs.Filters.{kept_by}

not_same : (a b : ℕ) → (a ≡ b → ⊥) → not (a == b) ≡ true
not_same a b h = by_test (eqb a b) refl
  where
    by_test : (v : Bool) → eqb a b ≡ v → not (eqb a b) ≡ true
    by_test true e = absurd (h (eqb-true a b e))
    by_test false e = rw e refl

pub without-among : (id : ℕ) (clauses : List Kept) → AreAmong (without id clauses) clauses
without-among id clauses k c =
    All-contains (Contains clauses) (without id clauses) k (All-filter (λ (x : Kept). not (x.id == id)) (Contains clauses) clauses (All-contains_itself clauses)) c

without-stay : (id : ℕ) (clauses : List Kept) (k : Kept) → Contains clauses k → (k.id ≡ id → ⊥) → Contains (without id clauses) k
without-stay id clauses k c h = kept_by (λ (x : Kept). not (x.id == id)) clauses k c (not_same k.id id h)

pub forgotten : (f : Forgetting) (id : ℕ) (old new : Stored) → new ≡ record { clauses = without id old.clauses; trail = old.trail } → f.allowed ≡ true → f.first ≤ id → HaveOwnIds old.clauses → HasKept old.clauses id (λ ls. 8 < length ls) → IsTidied f old new
forgotten f id old new e allowed late own h = subst (IsTidied f old) (sym e) record {
  trail = refl;
  of_old = without-among id old.clauses;
  stay = λ k c why. without-stay id old.clauses k c (λ same. elim why [
    | inl early ↦ absurd (omega arith)
    | inr short ↦
        let is : k ≡ h.0 = own k h.0 c h.1 (same ∙ sym h.2) in
        let few : length k.literals ≤ 8 = subst (λ b. IsLasting b k.literals) allowed short in
        let long : 8 < length k.literals = subst (λ (x : Kept). 8 < length x.literals) (sym is) h.3 in
        absurd (omega arith)
  ]);
}

pub marked-more : (steps : List Step) (i : ℕ) (s : Step) (marks more : List Bool) → i < length steps → s ≡ get_or steps i s → AreMarked (take i steps) marks → length more ≡ length marks
    → ((id : ℕ) → s.reason ≡ Some id → id < length marks → get_or more id false ≡ true) → ((id : ℕ) → get_or marks id false ≡ true → get_or more id false ≡ true) → AreMarked (take (i + 1) steps) more
marked-more steps i s marks more lt is h count here stay t id among e within =
    elim (Contains-push_cases (take i steps) (get_or steps i s) t (subst (λ (xs : List Step). Contains xs t) (take_more steps i s lt) among)) [
      | inl old ↦ stay id (h t id old e (omega arith))
      | inr same ↦ here id (ap (λ (x : Step). x.reason) (is ∙ same) ∙ e) (omega arith)
    ]

pub unmarked : (steps : List Step) (marks : List Bool) (id : ℕ) (v : Bool) → AreMarked steps marks → id < length marks → get_or marks id v ≡ false → (s : Step) → Contains steps s → s.reason ≡ Some id → ⊥
unmarked steps marks id v h lt off s c e = never (sym (sym (get_or_default marks id false v lt) ∙ h s id c e lt) ∙ off)
  where
    never : true ≡ false → ⊥
    never e = cc
