-- The axioms are true, and over the bounds.
use Rattle.std.proofs.Common.{◌≡◌, ◌≢◌, ℕ, Bool, true, false, ◌||◌, List, [], ◌∷◌, map, All, Contains, refl, sym, ap, ◌∙◌, arith}
use Rattle.std.specs.Prelude.{not, if◌then◌else◌, ℤ, neg_ℤ, int_le, ◌≤ℤ◌}
use Rattle.std.proofs.lemmas.Int.{ints}
use Rattle.std.proofs.lemmas.List.Elements.{All-cons, All-nil, All-head, All-tail, All-append, All-weaker, All-contains_itself, Contains-append_left, Contains-append_right}
use Rattle.literals.specs.Signed.{Signed, sign, opposite, literal_true, some_true}
use Rattle.equality_clauses.specs.Laws.{IsOver, AllTrue}
use Rattle.bound_clauses.specs.declared.axioms.Bound.{Bound}
use Rattle.bound_clauses.specs.declared.axioms.Link.{Link}
use Rattle.bound_clauses.specs.Chain.{of_negation, chain_of, implication, between, between_neighbours, chain_clauses}
use Rattle.bound_clauses.specs.Laws.{Pairwise, AreRight, AxiomsAreTrue, AxiomsAreOver, numbers_of}
use Rattle.bound_clauses.proofs.Whole.{true_le, le_true, negation_turned}
use Rattle.bound_clauses.proofs.Pairs.{NotAfter, Differ, All-chain, All-unmap, chain_ascending, chain_apart}

-- the link's literal is true exactly where the sum is at most its threshold
abbrev pub IsRight : (ℕ → Bool) → ℤ → Link → Type 0
IsRight a s x = literal_true a x.literal ≡ int_le s x.threshold

pub opposite_true : (a : ℕ → Bool) (l : Signed) → literal_true a (opposite l) ≡ not (literal_true a l)
opposite_true a l = by_sign l.positive (a l.atom)
  where
    by_sign : (p b : Bool) → sign (not p) b ≡ not (sign p b)
    by_sign true b = refl
    by_sign false true = refl
    by_sign false false = refl

pub links_right : (a : ℕ → Bool) (s : ℤ) (bounds negated : List Bound) → AreRight a s bounds negated → All (IsRight a s) (chain_of bounds negated)
links_right a s bounds negated h =
    All-chain (IsRight a s) bounds negated h.of_sum
    (All-weaker (λ (b : Bound). a b.number ≡ int_le (neg_ℤ s) b.threshold) (λ b. IsRight a s (of_negation b)) (λ b e. ap not e ∙ negation_turned s b.threshold) negated h.of_negation)

module _ (a : ℕ → Bool) (s : ℤ) where
  abbrev IsTrueClause : List Signed → Type 0
  IsTrueClause ls = some_true a ls ≡ true

  le_after : (x y : ℤ) → x ≤ℤ y → s ≤ℤ x → s ≤ℤ y
  le_after x y h k = omega (arith, ints)

  implication_true : (x y : Link) → IsRight a s x → IsRight a s y → NotAfter x y → some_true a (implication x y) ≡ true
  implication_true x y hx hy le =
      ap (λ b. b || (literal_true a y.literal || false)) (opposite_true a x.literal ∙ ap not hx) ∙ ap (λ b. not (int_le s x.threshold) || (b || false)) hy
      ∙ either (int_le s x.threshold) (int_le s y.threshold) (λ e. le_true s y.threshold (le_after x.threshold y.threshold le (true_le s x.threshold e)))
    where
      either : (p q : Bool) → (p ≡ true → q ≡ true) → (not p || (q || false)) ≡ true
      either true q f = ap (λ b. b || false) (f refl)
      either false q f = refl

  back_true : (x y : Link) → IsRight a s x → IsRight a s y → (b : Bool) → int_le y.threshold x.threshold ≡ b → AllTrue a (if b then implication y x ∷ [] else [])
  back_true x y hx hy true e =
      All-cons IsTrueClause (implication y x) [] (implication_true y x hy hx (true_le y.threshold x.threshold e)) (All-nil IsTrueClause)
  back_true x y hx hy false e = All-nil IsTrueClause

  between_true : (x y : Link) → IsRight a s x → IsRight a s y → NotAfter x y → AllTrue a (between x y)
  between_true x y hx hy le =
      All-cons IsTrueClause (implication x y) (if int_le y.threshold x.threshold then implication y x ∷ [] else []) (implication_true x y hx hy le)
      (back_true x y hx hy (int_le y.threshold x.threshold) refl)

  neighbours_true : (x : Link) (xs : List Link) → All (IsRight a s) (x ∷ xs) → Pairwise NotAfter (x ∷ xs) → AllTrue a (between_neighbours x xs)
  neighbours_true x [] h k = All-nil IsTrueClause
  neighbours_true x (y ∷ ys) h k = let later : All (IsRight a s) (y ∷ ys) = All-tail (IsRight a s) x (y ∷ ys) h in
      All-append IsTrueClause (between x y) (between_neighbours y ys)
      (between_true x y (All-head (IsRight a s) x (y ∷ ys) h) (All-head (IsRight a s) y ys later) (All-head (NotAfter x) y ys k.0))
      (neighbours_true y ys later k.1)

  chain_true : (xs : List Link) → All (IsRight a s) xs → Pairwise NotAfter xs → AllTrue a (chain_clauses xs)
  chain_true [] h k = All-nil IsTrueClause
  chain_true (x ∷ xs) h k = neighbours_true x xs h k

pub axioms_true : AxiomsAreTrue
axioms_true a s bounds negated hb hn right =
    chain_true a s (chain_of bounds negated) (links_right a s bounds negated right) (chain_ascending bounds negated hb hn)

-- ---- the atoms that they are over

module _ (atoms : List ℕ) where
  abbrev IsOn : Link → Type 0
  IsOn x = Contains atoms x.literal.atom

  implication_over : (x y : Link) → IsOn x → IsOn y → Differ x y → IsOver atoms (implication x y)
  implication_over x y hx hy ne = record {
    over = All-cons (λ (l : Signed). Contains atoms l.atom) (opposite x.literal) (y.literal ∷ []) hx
        (All-cons (λ (l : Signed). Contains atoms l.atom) y.literal [] hy (All-nil (λ (l : Signed). Contains atoms l.atom)));
    once = (All-cons (λ (l : Signed). x.literal.atom ≢ l.atom) y.literal [] ne (All-nil (λ (l : Signed). x.literal.atom ≢ l.atom)), (All-nil (λ (l : Signed). y.literal.atom ≢ l.atom), tt));
  }

  back_over : (x y : Link) → IsOn x → IsOn y → Differ x y → (b : Bool) → All (IsOver atoms) (if b then implication y x ∷ [] else [])
  back_over x y hx hy ne true = All-cons (IsOver atoms) (implication y x) [] (implication_over y x hy hx (λ e. ne (sym e))) (All-nil (IsOver atoms))
  back_over x y hx hy ne false = All-nil (IsOver atoms)

  neighbours_over : (x : Link) (xs : List Link) → All IsOn (x ∷ xs) → Pairwise Differ (x ∷ xs) → All (IsOver atoms) (between_neighbours x xs)
  neighbours_over x [] h k = All-nil (IsOver atoms)
  neighbours_over x (y ∷ ys) h k =
      let later : All IsOn (y ∷ ys) = All-tail IsOn x (y ∷ ys) h in
      let first : IsOn x = All-head IsOn x (y ∷ ys) h in
      let second : IsOn y = All-head IsOn y ys later in
      let ne : Differ x y = All-head (Differ x) y ys k.0 in
      All-append (IsOver atoms) (between x y) (between_neighbours y ys)
      (All-cons (IsOver atoms) (implication x y) (if int_le y.threshold x.threshold then implication y x ∷ [] else []) (implication_over x y first second ne)
      (back_over x y first second ne (int_le y.threshold x.threshold)))
      (neighbours_over y ys later k.1)

  chain_over : (xs : List Link) → All IsOn xs → Pairwise Differ xs → All (IsOver atoms) (chain_clauses xs)
  chain_over [] h k = All-nil (IsOver atoms)
  chain_over (x ∷ xs) h k = neighbours_over x xs h k

abbrev number : Bound → ℕ
number b = b.number

pub axioms_over : AxiomsAreOver
axioms_over bounds negated h =
    chain_over (numbers_of bounds negated) (chain_of bounds negated)
    (All-chain (IsOn (numbers_of bounds negated)) bounds negated
    (All-unmap (Contains (numbers_of bounds negated)) number bounds
    (All-weaker (Contains (map number bounds)) (Contains (numbers_of bounds negated)) (λ n c. Contains-append_left (map number bounds) (map number negated) n c) (map number bounds)
    (All-contains_itself (map number bounds))))
    (All-unmap (Contains (numbers_of bounds negated)) number negated
    (All-weaker (Contains (map number negated)) (Contains (numbers_of bounds negated)) (λ n c. Contains-append_right (map number bounds) (map number negated) n c) (map number negated)
    (All-contains_itself (map number negated)))))
    (chain_apart bounds negated h)
