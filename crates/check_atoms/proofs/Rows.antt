-- The limits of the rows of divisions: over which places they are, whether their numbers are in the range, and which atoms they are.
use Rattle.std.proofs.Common.{◌≡◌, ◌≢◌, ℕ, zero, suc, Bool, true, false, ◌&&◌, List, [], ◌∷◌, ◌++◌, map, flat_map, All, Contains, subst, sym, ap, ap₂, ◌∙◌, refl, arith, inl, inr}
use Rattle.std.specs.Prelude.{ℤ, pos, negsuc, ◌-ℤ◌, neg_ℤ, Some, None}
use Rattle.std.specs.List.{list_all}
use Rattle.std.proofs.lemmas.List.{map-append}
use Rattle.std.proofs.lemmas.Int.{ints}
use Rattle.std.proofs.lemmas.List.Elements.{All-from_recursion, All-nil, All-head, All-tail, Contains-append_cases}
use Rattle.fraction128.specs.Whole.{InRange}
use Rattle.fraction128.specs.Division.{absolute}
use Rattle.smt_meaning.specs.declared.terms.Operator.{Operator}
use Rattle.smt_meaning.specs.declared.terms.Operator.TheVariants.{Divide, Modulo, Absolute, Divisible}
use Rattle.smt_meaning.specs.declared.terms.Head.TheVariants.{Theory}
use Rattle.smt_meaning.specs.declared.clauses.Atom.{Atom}
use Rattle.smt_meaning.specs.Declaration.{Declaration}
use Rattle.smt_meaning.specs.Term.{Tree, node, tree_at}
use Rattle.smt_meaning.specs.Nodes.{pick}
use Rattle.smt_meaning.specs.Division.{rows_at, rows_fit, limit_fits, row_fits}
use Rattle.smt_meaning.specs.Atoms.{limit_atom, row_atoms, division_atoms}
use Rattle.smt_meaning.specs.Comparisons.{comparison_fits}
use Rattle.smt_laws.specs.Rows.{place_form, place_divisor}
use Rattle.linear_forms.specs.declared.multiples.Multiple.{Multiple}
use Rattle.pair_bounds.specs.declared.rows.RowLimit.{RowLimit}
use Rattle.pair_bounds.specs.declared.rows.Row.{Row}
use Rattle.pair_bounds.specs.Rows.{multiples, limits, limit_of_row, row_of, placed_rows, RowsAreOf, RowsAreAtoms}
use Rattle.check_atoms.specs.declared.part.PartAtom.TheVariants.{Limit}
use Rattle.check_atoms.specs.PartAtoms.{atom_of, of_rows}

-- the limits of the rows of a term
abbrev pub limits_of : ℤ → Operator → ℕ → List ℕ → List RowLimit
limits_of n o p is = flat_map limits (placed_rows o n p is)

-- ---- the terms of limits

module _ (P : ℕ → Type 0) where
  abbrev HasTerm : Multiple → Type 0
  HasTerm m = P m.term

  abbrev pub HasTerms : RowLimit → Type 0
  HasTerms l = All (λ (m : Multiple). P m.term) (multiples l)

  two_terms : (m n : Multiple) → P m.term → P n.term → All HasTerm (m ∷ n ∷ [])
  two_terms m n h g = All-from_recursion HasTerm (m ∷ n ∷ []) (h, (g, tt))

  three_terms : (m n o : Multiple) → P m.term → P n.term → P o.term → All HasTerm (m ∷ n ∷ o ∷ [])
  three_terms m n o h g f = All-from_recursion HasTerm (m ∷ n ∷ o ∷ []) (h, (g, (f, tt)))

  quotient_terms : (n : ℤ) (p a d : ℕ) → P p → P a → All HasTerms (limits_of n Divide p (a ∷ d ∷ []))
  quotient_terms n p a d h g = All-from_recursion HasTerms (limits_of n Divide p (a ∷ d ∷ [])) (two_terms _ _ h g, (two_terms _ _ g h, tt))

  remainder_terms : (n : ℤ) (p a d q : ℕ) → P p → P a → P q → All HasTerms (limits_of n Modulo p (a ∷ d ∷ q ∷ []))
  remainder_terms n p a d q h g k =
      All-from_recursion HasTerms (limits_of n Modulo p (a ∷ d ∷ q ∷ [])) (two_terms _ _ k g, (two_terms _ _ g k, (three_terms _ _ _ h k g, (three_terms _ _ _ h g k, tt))))

  divisible_terms : (n : ℤ) (p a d q : ℕ) → P a → P q → All HasTerms (limits_of n Divisible p (a ∷ d ∷ q ∷ []))
  divisible_terms n p a d q g k =
      All-from_recursion HasTerms (limits_of n Divisible p (a ∷ d ∷ q ∷ [])) (two_terms _ _ k g, (two_terms _ _ g k, (two_terms _ _ k g, (two_terms _ _ g k, tt))))

  absolute_terms : (n : ℤ) (p a : ℕ) → P p → P a → All HasTerms (limits_of n Absolute p (a ∷ []))
  absolute_terms n p a h g =
      All-from_recursion HasTerms (limits_of n Absolute p (a ∷ [])) (two_terms _ _ g h, (two_terms _ _ g h, (two_terms _ _ h g, (two_terms _ _ h g, tt))))

  -- a limit is over the arguments and, but for a divisibility, the term itself
  pub all_terms : (n : ℤ) (o : Operator) (p : ℕ) (is : List ℕ) → (o ≢ Divisible → P p) → All P is → All HasTerms (limits_of n o p is)
  all_terms n Divide p (a ∷ d ∷ []) h g = quotient_terms n p a d (h (λ e. cc)) (All-head P a (d ∷ []) g)
  all_terms n Divide p is h g = All-nil HasTerms
  all_terms n Modulo p (a ∷ d ∷ q ∷ []) h g =
      remainder_terms n p a d q (h (λ e. cc)) (All-head P a (d ∷ q ∷ []) g) (All-head P q [] (All-tail P d (q ∷ []) (All-tail P a (d ∷ q ∷ []) g)))
  all_terms n Modulo p is h g = All-nil HasTerms
  all_terms n Divisible p (a ∷ d ∷ q ∷ []) h g =
      divisible_terms n p a d q (All-head P a (d ∷ q ∷ []) g) (All-head P q [] (All-tail P d (q ∷ []) (All-tail P a (d ∷ q ∷ []) g)))
  all_terms n Divisible p is h g = All-nil HasTerms
  all_terms n Absolute p (a ∷ []) h g = absolute_terms n p a (h (λ e. cc)) (All-head P a [] g)
  all_terms n Absolute p is h g = All-nil HasTerms
  all_terms n o p is h g = All-nil HasTerms

-- ---- their numbers

abbrev HasFactor : Multiple → Type 0
HasFactor m = InRange m.factor

pub record HasNumbers (l : RowLimit) : Type 0 where
  pub factors : All (λ (m : Multiple). InRange m.factor) (multiples l)
  pub most : InRange l.most

two_numbers : (m n : Multiple) (k : ℤ) → InRange m.factor → InRange n.factor → InRange k → HasNumbers (record { first = m; second = n; third = None; most = k })
two_numbers m n k h g r = record { factors = All-from_recursion HasFactor (m ∷ n ∷ []) (h, (g, tt)); most = r }

three_numbers : (m n o : Multiple) (k : ℤ) → InRange m.factor → InRange n.factor → InRange o.factor → InRange k → HasNumbers (record { first = m; second = n; third = Some o; most = k })
three_numbers m n o k h g f r = record { factors = All-from_recursion HasFactor (m ∷ n ∷ o ∷ []) (h, (g, (f, tt))); most = r }

zero_fits : InRange (pos 0)
zero_fits = omega arith

one_fits : InRange (pos 1)
one_fits = omega arith

less_fits : InRange (negsuc 0)
less_fits = omega arith

negated_fits : (n : ℤ) → InRange n → InRange (neg_ℤ n)
negated_fits n h = omega (arith, ints, h)

most_fits : (n : ℤ) → InRange n → InRange (absolute n -ℤ pos 1)
most_fits n h = omega (arith, ints, h)

pub all_numbers : (n : ℤ) (o : Operator) (p : ℕ) (is : List ℕ) → InRange n → All HasNumbers (limits_of n o p is)
all_numbers n Divide p (a ∷ d ∷ []) h =
    All-from_recursion HasNumbers (limits_of n Divide p (a ∷ d ∷ [])) (two_numbers _ _ _ h less_fits zero_fits, (two_numbers _ _ _ one_fits (negated_fits n h) (most_fits n h), tt))
all_numbers n Divide p is h = All-nil HasNumbers
all_numbers n Modulo p (a ∷ d ∷ q ∷ []) h =
    All-from_recursion HasNumbers (limits_of n Modulo p (a ∷ d ∷ q ∷ [])) (two_numbers _ _ _ h less_fits zero_fits, (two_numbers _ _ _ one_fits (negated_fits n h) (most_fits n h), (three_numbers _ _ _ _ one_fits h less_fits zero_fits, (three_numbers _ _ _ _ less_fits one_fits (negated_fits n h) zero_fits, tt))))
all_numbers n Modulo p is h = All-nil HasNumbers
all_numbers n Divisible p (a ∷ d ∷ q ∷ []) h =
    All-from_recursion HasNumbers (limits_of n Divisible p (a ∷ d ∷ q ∷ [])) (two_numbers _ _ _ h less_fits zero_fits, (two_numbers _ _ _ one_fits (negated_fits n h) (most_fits n h), (two_numbers _ _ _ h less_fits less_fits, (two_numbers _ _ _ one_fits (negated_fits n h) zero_fits, tt))))
all_numbers n Divisible p is h = All-nil HasNumbers
all_numbers n Absolute p (a ∷ []) h =
    All-from_recursion HasNumbers (limits_of n Absolute p (a ∷ [])) (two_numbers _ _ _ one_fits less_fits zero_fits, (two_numbers _ _ _ less_fits less_fits zero_fits, (two_numbers _ _ _ one_fits less_fits zero_fits, (two_numbers _ _ _ one_fits one_fits zero_fits, tt))))
all_numbers n Absolute p is h = All-nil HasNumbers
all_numbers n o p is h = All-nil HasNumbers

-- ---- their atoms

only_one : {X : Type 0} (y x : X) → Contains (y ∷ []) x → y ≡ x
only_one y x (zero, h, e) = e
only_one y x (suc k, h, e) = absurd (omega (arith, h))

module _ (ts : List Tree) where
  limit_atoms : (ls : List RowLimit) → map (atom_of ts) (map Limit ls) ≡ map (limit_atom (place_form ts)) (map limit_of_row ls)
  limit_atoms [] = refl
  limit_atoms (l ∷ ls) = ap (λ (xs : List Atom). limit_atom (place_form ts) (limit_of_row l) ∷ xs) (limit_atoms ls)

  placed_atoms : (rs : List Row) → map (atom_of ts) (map Limit (flat_map limits rs)) ≡ flat_map (row_atoms (place_form ts)) (map row_of rs)
  placed_atoms [] = refl
  placed_atoms (r ∷ rs) =
      ap (map (atom_of ts)) (map-append Limit (limits r) (flat_map limits rs)) ∙ map-append (atom_of ts) (map Limit (limits r)) (map Limit (flat_map limits rs))
      ∙ ap₂ (λ (xs ys : List Atom). xs ++ ys) (limit_atoms (limits r)) (placed_atoms rs)

  -- the bounds of a division's rows are its atoms
  pub rows_are : RowsAreAtoms → (o : Operator) (p : ℕ) (is : List ℕ) → tree_at ts p ≡ node (Theory o) (pick ts is)
      → map (atom_of ts) (of_rows (place_divisor ts is) o p is) ≡ division_atoms ts (Theory o) (pick ts is)
  rows_are law o p is e =
      let are : RowsAreOf ts o p is = law ts o p is e in
      placed_atoms (placed_rows o (place_divisor ts is) p is) ∙ ap (flat_map (row_atoms (place_form ts))) are.rows ∙ sym are.atoms

  -- ---- where one of them doesn't fit

  right_false : (a b : Bool) → b ≡ false → (a && b) ≡ false
  right_false true b e = e
  right_false false b e = refl

  one_limit : (ls : List RowLimit) (l : RowLimit) → Contains ls l → limit_fits (place_form ts) (limit_of_row l) ≡ false → list_all (limit_fits (place_form ts)) (map limit_of_row ls) ≡ false
  one_limit [] l c e = absurd (omega (arith, c.1))
  one_limit (k ∷ ls) l c e = elim (Contains-append_cases (k ∷ []) ls l c) [
    | inl here ↦ ap (λ b. b && list_all (limit_fits (place_form ts)) (map limit_of_row ls)) (subst (λ (x : RowLimit). limit_fits (place_form ts) (limit_of_row x) ≡ false) (sym (only_one k l here)) e)
    | inr later ↦ right_false (limit_fits (place_form ts) (limit_of_row k)) (list_all (limit_fits (place_form ts)) (map limit_of_row ls)) (one_limit ls l later e)
  ]

  one_row : (rs : List Row) (l : RowLimit) → Contains (flat_map limits rs) l → limit_fits (place_form ts) (limit_of_row l) ≡ false → list_all (row_fits (place_form ts)) (map row_of rs) ≡ false
  one_row [] l c e = absurd (omega (arith, c.1))
  one_row (r ∷ rs) l c e = elim (Contains-append_cases (limits r) (flat_map limits rs) l c) [
    | inl here ↦ ap (λ b. b && list_all (row_fits (place_form ts)) (map row_of rs)) (one_limit (limits r) l here e)
    | inr later ↦ right_false (row_fits (place_form ts) (row_of r)) (list_all (row_fits (place_form ts)) (map row_of rs)) (one_row rs l later e)
  ]

  module _ (ds : List Declaration) (law : RowsAreAtoms) (p : ℕ) (is : List ℕ) (l : RowLimit) (unfit : limit_fits (place_form ts) (limit_of_row l) ≡ false) where
    rows_unfit : (o : Operator) → tree_at ts p ≡ node (Theory o) (pick ts is) → Contains (limits_of (place_divisor ts is) o p is) l → rows_fit ts (rows_at ts (Theory o) (pick ts is)) ≡ false
    rows_unfit o e c =
        let are : RowsAreOf ts o p is = law ts o p is e in
        are.fits ∙ ap (list_all (row_fits (place_form ts))) (sym are.rows) ∙ one_row (placed_rows o (place_divisor ts is) p is) l c unfit

    -- what the term compares doesn't
    pub comparison_unfit : (o : Operator) → tree_at ts p ≡ node (Theory o) (pick ts is) → Contains (limits_of (place_divisor ts is) o p is) l → comparison_fits ts ds (Theory o) (pick ts is) ≡ false
    comparison_unfit Divide e c = rows_unfit Divide e c
    comparison_unfit Modulo e c = rows_unfit Modulo e c
    comparison_unfit Absolute e c = rows_unfit Absolute e c
    comparison_unfit Divisible e c = rows_unfit Divisible e c
    comparison_unfit o e c = absurd (omega (arith, c.1))
