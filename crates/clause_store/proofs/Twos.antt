-- Clauses of two literals, or one.
use Rattle.std.proofs.Common.{◌≡◌, ◌≢◌, ℕ, ◌<◌, ◌≤◌, List, All, Contains, length, get_or, subst, sym, ap, ◌∙◌, inl, inr, ◌⊎◌, arith}
use Rattle.std.proofs.lemmas.List.{get_or_default}
use Rattle.std.proofs.lemmas.List.Elements.{All-weaker}
use Rattle.literals.specs.Signed.{Signed}
use Rattle.clause_store.specs.declared.trail.Step.{Step}
use Rattle.clause_store.specs.Stored.{IsFalseOn}
use Rattle.clause_store.specs.Entries.{Entry, IsOther}
use Rattle.clause_store.specs.Watching.{IsPair}
use Rattle.clause_store.specs.Rested.{OthersFalse}
use Rattle.clause_store.proofs.Sweeping.{equal_or_apart}

one_of_two : (i j k : ℕ) → i < 2 → j < 2 → k < 2 → i ≢ j → (k ≡ i) ⊎ (k ≡ j)
one_of_two i j k a b c ne = grind arith

-- two different literals of at most two are all
two_all : (ls : List Signed) (a b : Signed) → length ls ≤ 2 → Contains ls a → Contains ls b → (a ≡ b → ⊥) → All (λ m. (m ≡ a) ⊎ (m ≡ b)) ls
two_all ls a b few in-a in-b apart k d lt =
    let lt-a : in-a.0 < length ls = in-a.1 in
    let lt-b : in-b.0 < length ls = in-b.1 in
    let differ : in-a.0 ≢ in-b.0 = λ e. apart (sym in-a.2 ∙ (ap (λ n. get_or ls n a) e ∙ (get_or_default ls in-b.0 a b lt-b ∙ in-b.2))) in
    elim (one_of_two in-a.0 in-b.0 k (omega arith) (omega arith) (omega arith) differ) [
      | inl e ↦ inl (ap (λ n. get_or ls n d) e ∙ (get_or_default ls in-a.0 d a lt-a ∙ in-a.2))
      | inr e ↦ inr (ap (λ n. get_or ls n d) e ∙ (get_or_default ls in-b.0 d b lt-b ∙ in-b.2))
    ]

watched_all : (e : Entry) → IsPair e → length e.literals ≤ 2 → All (λ m. (m ≡ e.first) ⊎ (m ≡ e.second)) e.literals
watched_all e pair few = elim (equal_or_apart e.first e.second) [
  | inl same ↦ All-weaker (λ m. m ≡ e.first) (λ m. (m ≡ e.first) ⊎ (m ≡ e.second)) (λ m x. inl x) e.literals (pair.single same)
  | inr apart ↦ two_all e.literals e.first e.second few pair.first pair.second apart
]

-- where one of two watched literals is false, all but the other are
pub others_false : (steps : List Step) (e : Entry) (f o : Signed) → IsPair e → IsOther e f o → IsFalseOn steps f → length e.literals ≤ 2 → OthersFalse steps e.literals o
others_false steps e f o pair other is_false few =
    All-weaker (λ m. (m ≡ e.first) ⊎ (m ≡ e.second)) (λ m. (m ≡ o) ⊎ IsFalseOn steps m)
    (λ m p. elim other.pair [
      | inl q ↦ elim p [ inl x ↦ inr (subst (IsFalseOn steps) (sym (x ∙ q.0)) is_false) | inr x ↦ inl (x ∙ q.1) ]
      | inr q ↦ elim p [ inl x ↦ inl (x ∙ q.1) | inr x ↦ inr (subst (IsFalseOn steps) (sym (x ∙ q.0)) is_false) ]
    ])
    e.literals (watched_all e pair few)
