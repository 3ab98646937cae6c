-- Values that are put at the marked places.
use Rattle.std.proofs.Common.{◌≡◌, ℕ, zero, suc, ◌+◌, ◌<◌, ◌≤◌, Bool, true, false, List, [], ◌∷◌, ◌++◌, length, map, take, set, get_or, All, Contains, refl, sym, ap, subst, ◌∙◌, inl, inr, arith}
use Rattle.std.specs.Prelude.{◌⊎◌, IsTrue}
use Rattle.std.proofs.lemmas.Bool.{cases_eq}
use Rattle.std.proofs.lemmas.List.{take_more, get_or-map, get_or-set_same, get_or-set_other}
use Rattle.std.proofs.lemmas.List.Elements.{All-nil, All-cons, All-push, All-weaker, All-contains, Contains-append_right}
use Rattle.smt_meaning.specs.declared.values.Value.{Value}
use Rattle.smt_meaning.specs.declared.values.Value.TheVariants.{Truth}
use Rattle.smt_meaning.specs.Term.{Tree, tree_at, Interpretation, value, fits}
use Rattle.model_eval.specs.Walk.{is_marked}
use Rattle.exact_model.specs.Places.{value_at, marked_from, marked_places, AreValues, AllMarkedFit}

-- ---- one value more

value_set : (bp : List Value) (f : ℕ → Value) (p q : ℕ) → p < length bp → value_at bp q ≡ f q → value_at (set bp p (f p)) q ≡ f q
value_set bp f p q less e = by (cases_eq q p)
  where
    by : (q ≡ p) ⊎ (q ≡ p → ⊥) → value_at (set bp p (f p)) q ≡ f q
    by (inl same) = subst (λ r. value_at (set bp p (f p)) r ≡ f r) (sym same) (get_or-set_same bp p (f p) (Truth false) less)
    by (inr other) = get_or-set_other bp p q (f p) (Truth false) other ∙ e

pub spread_more : (places : List ℕ) (values bp : List Value) (k : ℕ) → length values ≡ length places → k < length places → get_or places k 0 < length bp
    → ((f : ℕ → Value) → values ≡ map f places → All (λ p. value_at bp p ≡ f p) (take k places))
    → (f : ℕ → Value) → values ≡ map f places → All (λ p. value_at (set bp (get_or places k 0) (get_or values k (Truth false))) p ≡ f p) (take (k + 1) places)
spread_more places values bp k size less inside each f e =
    let p : ℕ = get_or places k 0 in
    let here : get_or values k (Truth false) ≡ f p = ap (λ vs. get_or vs k (Truth false)) e ∙ get_or-map f places k 0 (Truth false) less in
    subst (λ ps. All (λ q. value_at (set bp p (get_or values k (Truth false))) q ≡ f q) ps) (sym (take_more places k 0 less))
    (subst (λ v. All (λ q. value_at (set bp p v) q ≡ f q) (take k places ++ p ∷ [])) (sym here)
    (All-push (λ q. value_at (set bp p (f p)) q ≡ f q) (take k places) p
    (All-weaker (λ q. value_at bp q ≡ f q) (λ q. value_at (set bp p (f p)) q ≡ f q) (λ q h. value_set bp f p q inside h) (take k places) (each f e))
    (get_or-set_same bp p (f p) (Truth false) inside)))

-- ---- the marked places

pub marked_within : (k n : ℕ) (marks : List Bool) → k + length marks ≤ n → All (λ p. p < n) (marked_from k marks)
marked_within k n [] h = All-nil (λ p. p < n)
marked_within k n (true ∷ marks) h = All-cons (λ p. p < n) k (marked_from (suc k) marks) (omega arith) (marked_within (suc k) n marks (omega arith))
marked_within k n (false ∷ marks) h = marked_within (suc k) n marks (omega arith)

contains_first : (x : ℕ) (xs : List ℕ) → Contains (x ∷ xs) x
contains_first x xs = (0, omega arith, refl)

pub marked_stands : (k : ℕ) (marks : List Bool) (p : ℕ) → is_marked marks p ≡ true → Contains (marked_from k marks) (k + p)
marked_stands k [] p h = absurd cc
marked_stands k (true ∷ marks) zero h = subst (Contains (k ∷ marked_from (suc k) marks)) (omega arith) (contains_first k (marked_from (suc k) marks))
marked_stands k (true ∷ marks) (suc p) h =
    Contains-append_right (k ∷ []) (marked_from (suc k) marks) (k + suc p) (subst (Contains (marked_from (suc k) marks)) (omega arith) (marked_stands (suc k) marks p h))
marked_stands k (false ∷ marks) zero h = absurd cc
marked_stands k (false ∷ marks) (suc p) h = subst (Contains (marked_from (suc k) marks)) (omega arith) (marked_stands (suc k) marks p h)

pub are_values : (trees : List Tree) (marks : List Bool) (I : Interpretation) (values : List Value) → length values ≡ length trees
    → All (λ p. value_at values p ≡ value I (tree_at trees p)) (marked_places marks) → AreValues trees marks I values
are_values trees marks I values size all = record {
  size = size;
  each = λ p m. All-contains (λ q. value_at values q ≡ value I (tree_at trees q)) (marked_places marks) p all (subst (Contains (marked_places marks)) (omega arith) (marked_stands 0 marks p m));
}

pub marked_fit : (trees : List Tree) (marks : List Bool) (I : Interpretation) → All (λ p. IsTrue (fits I (tree_at trees p))) (marked_places marks) → AllMarkedFit trees marks I
marked_fit trees marks I all p m = All-contains (λ q. IsTrue (fits I (tree_at trees q))) (marked_places marks) p all (subst (Contains (marked_places marks)) (omega arith) (marked_stands 0 marks p m))

-- a place from a number on, which is marked
abbrev IsMarkedFrom : ℕ → List Bool → ℕ → Type 0
IsMarkedFrom k marks q = (j : ℕ) × (q ≡ k + j) × (is_marked marks j ≡ true)

one_more : (k : ℕ) (b : Bool) (marks : List Bool) (q : ℕ) → IsMarkedFrom (suc k) marks q → IsMarkedFrom k (b ∷ marks) q
one_more k b marks q h = let e = h.1 in (suc h.0, omega (arith, e), h.2)

marked_from_are : (k : ℕ) (marks : List Bool) → All (IsMarkedFrom k marks) (marked_from k marks)
marked_from_are k [] = All-nil (IsMarkedFrom k [])
marked_from_are k (true ∷ marks) =
    All-cons (IsMarkedFrom k (true ∷ marks)) k (marked_from (suc k) marks) (0, omega arith, refl)
    (All-weaker (IsMarkedFrom (suc k) marks) (IsMarkedFrom k (true ∷ marks)) (one_more k true marks) (marked_from (suc k) marks) (marked_from_are (suc k) marks))
marked_from_are k (false ∷ marks) =
    All-weaker (IsMarkedFrom (suc k) marks) (IsMarkedFrom k (false ∷ marks)) (one_more k false marks) (marked_from (suc k) marks) (marked_from_are (suc k) marks)

pub marked_are : (marks : List Bool) → All (λ p. is_marked marks p ≡ true) (marked_places marks)
marked_are marks = All-weaker (IsMarkedFrom 0 marks) (λ p. is_marked marks p ≡ true) here (marked_places marks) (marked_from_are 0 marks)
  where
    here : (p : ℕ) → IsMarkedFrom 0 marks p → is_marked marks p ≡ true
    here p h = let e = h.1 in subst (λ q. is_marked marks q ≡ true) (omega (arith, e)) h.2
