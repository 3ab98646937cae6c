-- Which rows the table of divisions has for a term, by its head and arguments.
use Rattle.std.proofs.Common.{◌≡◌, ◌⊎◌, inl, inr, ℕ, suc, ◌+◌, ◌<◌, ◌≤◌, true, ◌&&◌, List, [], ◌∷◌, ◌++◌, length, map, All, refl, ap, sym, subst, ◌∙◌, arith}
use Rattle.std.specs.Prelude.{ℤ, slice_index_or, slice_get, Option, Some, None, Ok, option_map}
use Rattle.std.proofs.lemmas.Option.{slice_get-map, slice_get_within, get_or_from_slice_get}
use Rattle.std.proofs.lemmas.Bool.{cases_lt}
use Rattle.std.proofs.lemmas.List.{get_or_past, length_push, length-map}
use Rattle.std.proofs.lemmas.List.Elements.{All-nil, All-get_or, All-from_recursion}
use Rattle.fraction128.specs.Whole.{InRange}
use Rattle.smt_meaning.specs.declared.terms.Head.{Head}
use Rattle.smt_meaning.specs.declared.terms.Head.TheVariants.{Numeral, Theory}
use Rattle.smt_meaning.specs.declared.terms.Operator.{Operator}
use Rattle.smt_meaning.specs.declared.terms.Operator.TheVariants.{Divide, Modulo, Absolute, Divisible}
use Rattle.smt_meaning.specs.declared.nodes.Node.{Node}
use Rattle.smt_meaning.specs.Declaration.{Declaration}
use Rattle.smt_meaning.specs.Term.{Tree, Trees, node, none, more, tree_at}
use Rattle.smt_meaning.specs.TreeShape.{quotient_tree, place_of}
use Rattle.smt_meaning.specs.Nodes.{pick}
use Rattle.smt_meaning.specs.Linear.{Form, folding_fits, foldings_fit, linear_form}
use Rattle.smt_meaning.specs.Division.{Row, quotient_rows, remainder_rows, divisible_rows, absolute_rows}
use Rattle.smt_laws.proofs.Among.{Among}
use Rattle.smt_laws.proofs.SameTree.{found_again}
use Rattle.smt_laws.proofs.Both.{and_left, and_right}
use Rattle.term_store.specs.Terms.{tree_with, IsPlace, IsNew}
use Rattle.term_store.proofs.PlaceLemmas.{place_of-within}
use Rattle.pair_bounds.specs.declared.rows.Row.{Row as PlacedRow}
use Rattle.pair_bounds.specs.Rows.{placed_row, row_of, IsRow}
use Rattle.pair_bounds.proofs.RowLemmas.{all_rows}
use Rattle.proof_meaning.specs.Proof.{AreTerms}
use Rattle.proof_meaning.specs.Rules.{HasRows, of_quotient, of_last_quotient, of_remainder, of_divisibility, of_absolute, divisor_at}
use Rattle.proof_terms.specs.TermRows.{tree_row}
use Rattle.proof_terms.specs.declared.euclid.Division.{Division}
use Rattle.proof_terms.specs.declared.euclid.Division.TheVariants.{Quotient, Remainder, Divisibility, Magnitude}
use Rattle.proof_terms.proofs.TermForms.{EachPart}
use Rattle.proof_terms.proofs.TermBounds.{parts_among}
use Rattle.proof_terms.specs.EuclidRows.{division_rows, number_of, rows_here, IsWithin, IsItsRowOrNone, IsRowOrNone, IsQuotientBy, IsDivision, IsDivisionOrNone, HasNoRows, IsByNumeral}

-- ---- lists

pub one_of : (js : List ℕ) → length js ≡ 1 → js ≡ slice_index_or js 0 0 ∷ []
one_of [] e = absurd (omega arith)
one_of (j ∷ []) e = refl
one_of (j ∷ k ∷ js) e = absurd (omega arith)

pub two_of : (js : List ℕ) → length js ≡ 2 → js ≡ slice_index_or js 0 0 ∷ slice_index_or js 1 0 ∷ []
two_of [] e = absurd (omega arith)
two_of (j ∷ []) e = absurd (omega arith)
two_of (j ∷ k ∷ []) e = refl
two_of (j ∷ k ∷ l ∷ js) e = absurd (omega arith)

one_more : (js : List ℕ) (n : ℕ) → length (js ++ n ∷ []) ≡ length js + 1
one_more js n = length_push js n

same_ends : (is js : List ℕ) (m n : ℕ) → is ++ m ∷ [] ≡ js ++ n ∷ [] → (is ≡ js) × (m ≡ n)
same_ends [] [] m n e = (refl, cc)
same_ends [] (j ∷ js) m n e = absurd (let l : 1 ≡ suc (length (js ++ n ∷ [])) = ap length e in omega (arith, l, one_more js n))
same_ends (i ∷ is) [] m n e = absurd (let l : suc (length (is ++ m ∷ [])) ≡ 1 = ap length e in omega (arith, l, one_more is m))
same_ends (i ∷ is) (j ∷ js) m n e =
    let first : i ≡ j = cc in
    let rest : is ++ m ∷ [] ≡ js ++ n ∷ [] = cc in
    let both = same_ends is js m n rest in
    (ap (λ k. k ∷ is) first ∙ ap (λ ks. j ∷ ks) both.0, both.1)

-- ---- a head and arguments that have rows

abbrev HasShape : Head → List ℕ → Type 0
HasShape (Theory Divide) js = 2 ≤ length js
HasShape (Theory Modulo) js = length js ≡ 2
HasShape (Theory Absolute) js = length js ≡ 1
HasShape (Numeral n) js = length js ≡ 1
HasShape h js = ⊥

module _ (ts : List Tree) (i : ℕ) where
  pub shape : (h : Head) (js : List ℕ) (rows : List (Row ℕ)) → HasRows ts i h js rows → HasShape h js
  shape _ _ _ (of_quotient a n) = omega arith
  shape _ _ _ (of_last_quotient a n is two t) = omega (arith, two, one_more is n)
  shape _ _ _ (of_remainder a n q t) = refl
  shape _ _ _ (of_divisibility a q n t) = refl
  shape _ _ _ (of_absolute a) = refl

  pub no_operator : (o : Operator) (js : List ℕ) (rows : List (Row ℕ)) → (Theory o ≡ Theory Divide → ⊥) → (Theory o ≡ Theory Modulo → ⊥) → (Theory o ≡ Theory Absolute → ⊥) → HasRows ts i (Theory o) js rows → ⊥
  no_operator o js rows a b c h = by o a b c (shape (Theory o) js rows h)
    where
      by : (o : Operator) → (Theory o ≡ Theory Divide → ⊥) → (Theory o ≡ Theory Modulo → ⊥) → (Theory o ≡ Theory Absolute → ⊥) → HasShape (Theory o) js → ⊥
      by Divide a b c s = a refl
      by Modulo a b c s = b refl
      by Absolute a b c s = c refl
      by o a b c s = s

  quotient_only : (h : Head) (js : List ℕ) (rows : List (Row ℕ)) (a n : ℕ) → HasRows ts i h js rows → h ≡ Theory Divide → js ≡ a ∷ n ∷ [] → rows ≡ quotient_rows a (divisor_at ts n) i
  quotient_only _ _ _ a n (of_quotient b m) e f =
      let x : b ≡ a = cc in
      let y : m ≡ n = cc in
      ap (λ z. quotient_rows z (divisor_at ts m) i) x ∙ ap (λ z. quotient_rows a (divisor_at ts z) i) y
  quotient_only _ _ _ a n (of_last_quotient b m is two t) e f = absurd (let l : length (is ++ m ∷ []) ≡ 2 = ap length f in omega (arith, l, two, one_more is m))
  quotient_only _ _ _ a n (of_remainder b m q t) e f = absurd (cc)
  quotient_only _ _ _ a n (of_divisibility b q m t) e f = absurd (cc)
  quotient_only _ _ _ a n (of_absolute b) e f = absurd (cc)

  last_only : (h : Head) (js : List ℕ) (rows : List (Row ℕ)) (ks : List ℕ) (n : ℕ) → HasRows ts i h js rows → h ≡ Theory Divide → js ≡ ks ++ n ∷ [] → 2 ≤ length ks
      → (b : ℕ) × ((tree_at ts b ≡ node (Theory Divide) (pick ts ks)) × (rows ≡ quotient_rows b (divisor_at ts n) i))
  last_only _ _ _ ks n (of_quotient b m) e f two = absurd (let l : 2 ≡ length (ks ++ n ∷ []) = ap length f in omega (arith, l, two, one_more ks n))
  last_only _ _ _ ks n (of_last_quotient b m is more' t) e f two =
      let both = same_ends is ks m n f in
      (b, (t ∙ ap (λ xs. node (Theory Divide) (pick ts xs)) both.0, ap (λ z. quotient_rows b (divisor_at ts z) i) both.1))
  last_only _ _ _ ks n (of_remainder b m q t) e f two = absurd (cc)
  last_only _ _ _ ks n (of_divisibility b q m t) e f two = absurd (cc)
  last_only _ _ _ ks n (of_absolute b) e f two = absurd (cc)

  remainder_only : (h : Head) (js : List ℕ) (rows : List (Row ℕ)) (a n : ℕ) → HasRows ts i h js rows → h ≡ Theory Modulo → js ≡ a ∷ n ∷ []
      → (q : ℕ) × ((tree_at ts q ≡ quotient_tree (tree_at ts a) (tree_at ts n)) × (rows ≡ remainder_rows a (divisor_at ts n) q i))
  remainder_only _ _ _ a n (of_remainder b m q t) e f =
      let x : b ≡ a = cc in
      let y : m ≡ n = cc in (
        q,
        (
          t ∙ ap (λ z. quotient_tree (tree_at ts z) (tree_at ts m)) x ∙ ap (λ z. quotient_tree (tree_at ts a) (tree_at ts z)) y,
          ap (λ z. remainder_rows z (divisor_at ts m) q i) x ∙ ap (λ z. remainder_rows a (divisor_at ts z) q i) y,
        ),
      )
  remainder_only _ _ _ a n (of_quotient b m) e f = absurd (cc)
  remainder_only _ _ _ a n (of_last_quotient b m is two t) e f = absurd (cc)
  remainder_only _ _ _ a n (of_divisibility b q m t) e f = absurd (cc)
  remainder_only _ _ _ a n (of_absolute b) e f = absurd (cc)

  divisible_only : (h : Head) (js : List ℕ) (rows : List (Row ℕ)) (a : ℕ) (k : ℤ) → HasRows ts i h js rows → h ≡ Numeral k → js ≡ a ∷ []
      → (q : ℕ) × ((tree_at ts q ≡ quotient_tree (tree_at ts a) (node (Numeral k) none)) × (rows ≡ divisible_rows a k q))
  divisible_only _ _ _ a k (of_divisibility b q m t) e f =
      let x : b ≡ a = cc in
      let y : m ≡ k = cc in (
        q,
        (
          t ∙ ap (λ z. quotient_tree (tree_at ts z) (node (Numeral m) none)) x ∙ ap (λ z. quotient_tree (tree_at ts a) (node (Numeral z) none)) y,
          ap (λ z. divisible_rows z m q) x ∙ ap (λ z. divisible_rows a z q) y,
        ),
      )
  divisible_only _ _ _ a k (of_quotient b m) e f = absurd (cc)
  divisible_only _ _ _ a k (of_last_quotient b m is two t) e f = absurd (cc)
  divisible_only _ _ _ a k (of_remainder b m q t) e f = absurd (cc)
  divisible_only _ _ _ a k (of_absolute b) e f = absurd (cc)

  absolute_only : (h : Head) (js : List ℕ) (rows : List (Row ℕ)) (a : ℕ) → HasRows ts i h js rows → h ≡ Theory Absolute → js ≡ a ∷ [] → rows ≡ absolute_rows a i
  absolute_only _ _ _ a (of_absolute b) e f = let x : b ≡ a = cc in ap (λ z. absolute_rows z i) x
  absolute_only _ _ _ a (of_quotient b m) e f = absurd (cc)
  absolute_only _ _ _ a (of_last_quotient b m is two t) e f = absurd (cc)
  absolute_only _ _ _ a (of_remainder b m q t) e f = absurd (cc)
  absolute_only _ _ _ a (of_divisibility b q m t) e f = absurd (cc)

  -- ---- a quotient is a term

  pub inside : (q : ℕ) (us : Trees) → tree_at ts q ≡ node (Theory Divide) us → q < length ts
  inside q us e = by (cases_lt q (length ts))
    where
      by : (q < length ts) ⊎ (length ts ≤ q) → q < length ts
      by (inl less) = less
      by (inr past) = let f = get_or_past ts q _ past in absurd (let g = sym f ∙ e in cc)

  last_fits : (ks : List ℕ) (n : ℕ) → foldings_fit ts (pick ts (ks ++ n ∷ [])) ≡ true → folding_fits ts (tree_at ts n) ≡ true
  last_fits [] n h = and_left (folding_fits ts (tree_at ts n)) true h
  last_fits (k ∷ ks) n h = last_fits ks n (and_right (folding_fits ts (tree_at ts k)) (foldings_fit ts (pick ts (ks ++ n ∷ []))) h)

  second_fits : (t : Tree) (n : ℕ) → foldings_fit ts (more t (more (tree_at ts n) none)) ≡ true → folding_fits ts (tree_at ts n) ≡ true
  second_fits t n h = and_left (folding_fits ts (tree_at ts n)) true (and_right (folding_fits ts t) (folding_fits ts (tree_at ts n) && true) h)

  by_second : (q n : ℕ) (t : Tree) → tree_at ts q ≡ quotient_tree t (tree_at ts n) → IsQuotientBy ts q n
  by_second q n t e = record { arguments = more t (more (tree_at ts n) none); tree = e; divisor = second_fits t n }

  -- ---- the divisions

  pub quotient_division : (a n : ℕ) → a < length ts → n < length ts → IsDivision ts i (Theory Divide) (a ∷ n ∷ []) (Quotient a n)
  quotient_division a n h k = record {
    has = of_quotient a n;
    only = λ rows has. ap (map (tree_row ts)) (quotient_only (Theory Divide) (a ∷ n ∷ []) rows a n has refl refl);
    within = (h, k);
    quotient = λ e. by_second i n (tree_at ts a) e;
  }

  pub last_division : (a n : ℕ) (ks : List ℕ) → n < length ts → 2 ≤ length ks → IsPlace ts a (tree_with ts (Theory Divide) ks) → IsDivision ts i (Theory Divide) (ks ++ n ∷ []) (Quotient a n)
  last_division a n ks k two at = record {
    has = of_last_quotient a n ks two at.1;
    only = λ rows has.
        (let other = last_only (Theory Divide) (ks ++ n ∷ []) rows ks n has refl refl two in
        ap (map (tree_row ts)) other.1.1 ∙ ap (λ t. quotient_rows t (divisor_at ts n) (tree_at ts i)) (other.1.0 ∙ sym at.1));
    within = (at.0, k);
    quotient = λ e. record { arguments = pick ts (ks ++ n ∷ []); tree = e; divisor = last_fits ks n };
  }

  pub no_last : (n : ℕ) (ks : List ℕ) → 2 ≤ length ks → IsNew ts (tree_with ts (Theory Divide) ks) → HasNoRows ts i (Theory Divide) (ks ++ n ∷ [])
  no_last n ks two new rows has =
      let other = last_only (Theory Divide) (ks ++ n ∷ []) rows ks n has refl refl two in
      new other.0 (inside other.0 (pick ts ks) other.1.0) other.1.0

  pub remainder_division : (a n q : ℕ) → a < length ts → n < length ts → IsPlace ts q (tree_with ts (Theory Divide) (a ∷ n ∷ [])) → IsDivision ts i (Theory Modulo) (a ∷ n ∷ []) (Remainder a n q)
  remainder_division a n q h k at = record {
    has = of_remainder a n q at.1;
    only = λ rows has.
        (let other = remainder_only (Theory Modulo) (a ∷ n ∷ []) rows a n has refl refl in
        ap (map (tree_row ts)) other.1.1 ∙ ap (λ t. remainder_rows (tree_at ts a) (divisor_at ts n) t (tree_at ts i)) (other.1.0 ∙ sym at.1));
    within = (h, k, at.0);
    quotient = λ e. by_second q n (tree_at ts a) at.1;
  }

  pub no_remainder : (a n : ℕ) → IsNew ts (tree_with ts (Theory Divide) (a ∷ n ∷ [])) → HasNoRows ts i (Theory Modulo) (a ∷ n ∷ [])
  no_remainder a n new rows has =
      let other = remainder_only (Theory Modulo) (a ∷ n ∷ []) rows a n has refl refl in
      new other.0 (inside other.0 (more (tree_at ts a) (more (tree_at ts n) none)) other.1.0) other.1.0

  module _ (a m : ℕ) (k : ℤ) (numeral : tree_at ts m ≡ node (Numeral k) none) where
    number_is : divisor_at ts m ≡ k
    number_is = ap (λ t. let f : Form = linear_form ts t in f.constant) numeral

    divisible_division : (q : ℕ) → a < length ts → m < length ts → IsPlace ts q (quotient_tree (tree_at ts a) (tree_at ts m)) → IsDivision ts i (Numeral k) (a ∷ []) (Divisibility a m q)
    divisible_division q h l at =
        let tree : tree_at ts q ≡ quotient_tree (tree_at ts a) (node (Numeral k) none) = at.1 ∙ ap (quotient_tree (tree_at ts a)) numeral in
        record {
          has = subst (λ z. HasRows ts i (Numeral k) (a ∷ []) (divisible_rows a z q)) (sym number_is) (of_divisibility a q k tree);
          only = λ rows has.
              (let other = divisible_only (Numeral k) (a ∷ []) rows a k has refl refl in
              ap (map (tree_row ts)) other.1.1 ∙ ap (λ t. divisible_rows (tree_at ts a) k t) (other.1.0 ∙ sym tree)
              ∙ ap (λ z. divisible_rows (tree_at ts a) z (tree_at ts q)) (sym number_is));
          within = (h, l, at.0);
          quotient = λ e. by_second q m (tree_at ts a) at.1;
        }

    no_divisible : IsNew ts (quotient_tree (tree_at ts a) (tree_at ts m)) → HasNoRows ts i (Numeral k) (a ∷ [])
    no_divisible new rows has =
        let other = divisible_only (Numeral k) (a ∷ []) rows a k has refl refl in
        let tree : tree_at ts other.0 ≡ quotient_tree (tree_at ts a) (tree_at ts m) = other.1.0 ∙ ap (quotient_tree (tree_at ts a)) (sym numeral) in
        new other.0 (inside other.0 (more (tree_at ts a) (more (tree_at ts m) none)) tree) tree

    pub by_numeral_is : (o : Option Division) → a < length ts → m < length ts → IsByNumeral ts a m o → IsDivisionOrNone ts i (Numeral k) (a ∷ []) o
    by_numeral_is None h l new = no_divisible new
    by_numeral_is (Some d) h l s = subst (IsDivision ts i (Numeral k) (a ∷ [])) (sym s.1.1) (divisible_division s.0 h l s.1.0)

  -- a numeral that divides a term of the proof is one, too
  pub no_numeral : (ds : List Declaration) (ns : List Node) → AreTerms ds ns ts → (a : ℕ) (k : ℤ) → IsNew ts (node (Numeral k) none) → HasNoRows ts i (Numeral k) (a ∷ [])
  no_numeral ds ns terms a k new rows has =
      let numeral : Tree = node (Numeral k) none in
      let other = divisible_only (Numeral k) (a ∷ []) rows a k has refl refl in
      let within : other.0 < length ts = inside other.0 (more (tree_at ts a) (more numeral none)) other.1.0 in
      let parts : EachPart (λ u. Among u ts) (quotient_tree (tree_at ts a) numeral) = subst (EachPart (λ u. Among u ts)) other.1.0 (parts_among ds ns ts terms other.0 within) in
      let among : Among numeral ts = parts.1.1.0.0 in
      new (place_of numeral ts) (place_of-within numeral ts among) (found_again numeral ts among)

  pub magnitude_division : (a : ℕ) → a < length ts → IsDivision ts i (Theory Absolute) (a ∷ []) (Magnitude a)
  magnitude_division a h = record {
    has = of_absolute a;
    only = λ rows has. ap (map (tree_row ts)) (absolute_only (Theory Absolute) (a ∷ []) rows a has refl refl);
    within = h;
    quotient = λ e. tt;
  }

-- ---- the row of a number

-- as it is kept over places, and back
rows_back : (d : Division) (n : ℤ) (i : ℕ) → map row_of (map placed_row (division_rows d n i)) ≡ division_rows d n i
rows_back (Quotient a m) n i = refl
rows_back (Remainder a m q) n i = refl
rows_back (Divisibility a m q) n i = refl
rows_back (Magnitude a) n i = refl

abbrev AreBelow : ℕ → List ℕ → Type 0
AreBelow count js = All (λ j. j < count) js

rows_within : (d : Division) (n : ℤ) (i count : ℕ) → InRange n → i < count → IsWithin count d → All (IsRow count) (map placed_row (division_rows d n i))
rows_within (Quotient a m) n i count r l h =
    all_rows {E = Unit {0}} (Ok tt) Divide n i (a ∷ m ∷ []) [] (map placed_row (quotient_rows a n i)) r refl count l (All-from_recursion (λ j. j < count) (a ∷ m ∷ []) (h.0, (h.1, tt))) (All-nil (IsRow count))
rows_within (Remainder a m q) n i count r l h =
    all_rows {E = Unit {0}} (Ok tt) Modulo n i (a ∷ m ∷ q ∷ []) [] (map placed_row (remainder_rows a n q i)) r refl count l (All-from_recursion (λ j. j < count) (a ∷ m ∷ q ∷ []) (h.0, (h.1, (h.2, tt)))) (All-nil (IsRow count))
rows_within (Divisibility a m q) n i count r l h =
    all_rows {E = Unit {0}} (Ok tt) Divisible n i (a ∷ m ∷ q ∷ []) [] (map placed_row (divisible_rows a n q)) r refl count l (All-from_recursion (λ j. j < count) (a ∷ m ∷ q ∷ []) (h.0, (h.1, (h.2, tt)))) (All-nil (IsRow count))
rows_within (Magnitude a) n i count r l h =
    all_rows {E = Unit {0}} (Ok tt) Absolute n i (a ∷ []) [] (map placed_row (absolute_rows a i)) r refl count l (All-from_recursion (λ j. j < count) (a ∷ []) (h, tt)) (All-nil (IsRow count))

pub row_found : (ts : List Tree) (i : ℕ) (d : Division) (w : ℕ) (n : ℤ) (rows : List PlacedRow) (r : PlacedRow) → n ≡ number_of ts d → InRange n → rows ≡ map placed_row (division_rows d n i) → i < length ts
    → IsWithin (length ts) d → slice_get rows w ≡ Some r → IsItsRowOrNone ts i d w (Some r)
row_found ts i d w n rows r e range s l within at = (
  ap (λ z. slice_get (division_rows d z i) w) (sym e) ∙ ap (λ xs. slice_get xs w) (sym (rows_back d n i)) ∙ ap (λ xs. slice_get (map row_of xs) w) (sym s)
      ∙ slice_get-map row_of rows w ∙ ap (λ o. option_map row_of o) at,
  subst (IsRow (length ts)) (get_or_from_slice_get rows w r r at)
      (All-get_or (IsRow (length ts)) rows w r (slice_get_within rows w r at) (subst (All (IsRow (length ts))) (sym s) (rows_within d n i (length ts) range l within))),
)

-- ---- the rows of a term by those of its division

tree_rows_at : (ts : List Tree) (rows : List (Row ℕ)) (n : ℕ) (row : Row ℕ) → slice_get rows n ≡ Some row → slice_get (map (tree_row ts) rows) n ≡ Some (tree_row ts row)
tree_rows_at ts rows n row e = slice_get-map (tree_row ts) rows n ∙ ap (λ o. option_map (tree_row ts) o) e

module _ (ts : List Tree) (i : ℕ) (h : Head) (is : List ℕ) (d : Division) (division : IsDivision ts i h is d) (n : ℕ) where
  pub row_lifted : (o : Option PlacedRow) → IsItsRowOrNone ts i d n o → IsRowOrNone ts i h is n o
  row_lifted None past = λ rows has row at.
      (let counts : length rows ≡ length (rows_here ts d i) = sym (length-map rows (tree_row ts)) ∙ ap length (division.only rows has) ∙ length-map (rows_here ts d i) (tree_row ts) in
      omega (arith, counts, slice_get_within rows n row at))
  row_lifted (Some r) s = (
    record {
      rows = rows_here ts d i;
      has = division.has;
      row_is = s.0;
      only = λ others has other at.
          (let here : slice_get (map (tree_row ts) (rows_here ts d i)) n ≡ Some (tree_row ts (row_of r)) = tree_rows_at ts (rows_here ts d i) n (row_of r) s.0 in
          let there : slice_get (map (tree_row ts) others) n ≡ Some (tree_row ts other) = tree_rows_at ts others n other at in
          let same : Some (tree_row ts other) ≡ Some (tree_row ts (row_of r)) = sym there ∙ ap (λ xs. slice_get xs n) (division.only others has) ∙ here in
          cc);
    },
    s.1,
  )
