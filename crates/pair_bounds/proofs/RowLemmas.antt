-- The rows of divisions over places, and their bounds.
use Rattle.std.proofs.Common.{◌≡◌, ℕ, zero, suc, ◌<◌, ◌^◌, List, [], ◌∷◌, ◌++◌, map, All, OnOk, Ok, Err, Result, subst, sym, ap, ◌∙◌, arith, lit<}
use Rattle.std.specs.Prelude.{ℤ, pos, negsuc, ◌-ℤ◌, neg_ℤ, unsigned_abs}
use Rattle.std.proofs.lemmas.Int.{ints}
use Rattle.std.proofs.lemmas.List.Elements.{All-cons, All-nil, All-append}
use Rattle.fraction128.specs.Whole.{InRange, is_in_range}
use Rattle.fraction128.specs.Division.{absolute}
use Rattle.smt_laws.proofs.Both.{and_both, and_right}
use Rattle.smt_meaning.specs.declared.clauses.Summand.{Summand}
use Rattle.smt_meaning.specs.declared.terms.Operator.{Operator}
use Rattle.smt_meaning.specs.declared.terms.Operator.TheVariants.{Divide, Modulo, Absolute, Divisible}
use Rattle.smt_meaning.specs.Term.{Tree}
use Rattle.smt_meaning.specs.Linear.{Form}
use Rattle.smt_meaning.specs.Division.{Row, limit, always, beyond, left_by, limit_fits, combined, combined_fits, quotient_rows, remainder_rows, divisible_rows, absolute_rows}
use Rattle.smt_meaning.specs.Atoms.{normal_bound, most_atom, limit_atom}
use Rattle.smt_laws.specs.Rows.{place_form}
use Rattle.linear_forms.specs.Folding.{form_of}
use Rattle.linear_forms.specs.Multiples.{multiples_of, IsMultiple, IsCombination}
use Rattle.linear_forms.proofs.SumLemmas.{in_range_fits, fits_in_range}
use Rattle.linear_forms.proofs.FoldLemmas.{false_if}
use Rattle.pair_bounds.specs.declared.rows.RowLimit.{RowLimit}
use Rattle.pair_bounds.specs.declared.rows.Row.{Row as PlacedRow}
use Rattle.pair_bounds.specs.Pairs.{IsBound}
use Rattle.pair_bounds.specs.Rows.{multiples, limit_of_row, as_multiple, placed, placed_row, placed_rows, IsRowLimit, IsRow, IsRowBound, LimitLeavesRange}

-- ---- numbers

negation_in_range : (n : ℤ) → InRange n → InRange (neg_ℤ n)
negation_in_range (pos zero) h = h
negation_in_range (pos (suc n)) h = h
negation_in_range (negsuc n) h = h

one_less : (n : ℕ) → n < 2 ^ 127 → InRange (pos n -ℤ pos 1)
one_less zero h = lit< tt
one_less (suc n) h = let e : pos n ≡ pos (suc n) -ℤ pos 1 = omega (arith, ints) in subst InRange e (let l : n < 2 ^ 127 = omega arith in l)

-- ---- the terms and numbers of rows

module _ (count : ℕ) where
  two : (k l : ℤ) (i j : ℕ) (m : ℤ) → InRange k → i < count → InRange l → j < count → InRange m → IsRowLimit count (placed (limit ((k, i) ∷ (l, j) ∷ []) m))
  two k l i j m a b c d e = record {
    multiples_are =
        All-cons (IsMultiple count) (as_multiple (k, i)) (as_multiple (l, j) ∷ []) (record { in_range = a; within = b })
        (All-cons (IsMultiple count) (as_multiple (l, j)) [] (record { in_range = c; within = d }) (All-nil (IsMultiple count)));
    in_range = e;
  }

  three : (n k l : ℤ) (h i j : ℕ) (m : ℤ) → InRange n → h < count → InRange k → i < count → InRange l → j < count → InRange m → IsRowLimit count (placed (limit ((n, h) ∷ (k, i) ∷ (l, j) ∷ []) m))
  three n k l h i j m x y a b c d e = record {
    multiples_are =
        All-cons (IsMultiple count) (as_multiple (n, h)) (as_multiple (k, i) ∷ as_multiple (l, j) ∷ []) (record { in_range = x; within = y })
        (All-cons (IsMultiple count) (as_multiple (k, i)) (as_multiple (l, j) ∷ []) (record { in_range = a; within = b })
        (All-cons (IsMultiple count) (as_multiple (l, j)) [] (record { in_range = c; within = d }) (All-nil (IsMultiple count))));
    in_range = e;
  }

  alone : (l : RowLimit) → IsRowLimit count l → All (IsRowLimit count) (l ∷ [])
  alone l h = All-cons (IsRowLimit count) l [] h (All-nil (IsRowLimit count))

  abbrev AreWithin : List (Row ℕ) → Type 0
  AreWithin [] = Unit {0}
  AreWithin (r ∷ rs) = IsRow count (placed_row r) × AreWithin rs

  all_within : (rs : List (Row ℕ)) → AreWithin rs → All (IsRow count) (map placed_row rs)
  all_within [] h = All-nil (IsRow count)
  all_within (r ∷ rs) h = All-cons (IsRow count) (placed_row r) (map placed_row rs) h.0 (all_within rs h.1)

  module _ (n : ℤ) (in_range : InRange n) (a q : ℕ) (below_a : a < count) (below_q : q < count) where
    beyond_within : (m : ℤ) → InRange m → IsRowLimit count (placed (limit (beyond a n q) m))
    beyond_within m h = two n (negsuc 0) q a m in_range below_q (lit< tt) below_a h

    left_within : (m : ℤ) → InRange m → IsRowLimit count (placed (limit (left_by a n q) m))
    left_within m h = two (pos 1) (neg_ℤ n) a q m (lit< tt) below_a (negation_in_range n in_range) below_q h

    quotient_first : IsRow count (placed_row (always (beyond a n q) (pos 0)))
    quotient_first = alone (placed (limit (beyond a n q) (pos 0))) (beyond_within (pos 0) (lit< tt))

    quotient_second : IsRow count (placed_row (always (left_by a n q) (absolute n -ℤ pos 1)))
    quotient_second = alone (placed (limit (left_by a n q) (absolute n -ℤ pos 1))) (left_within (absolute n -ℤ pos 1) (one_less (unsigned_abs n) in_range))

    quotient_within : All (IsRow count) (map placed_row (quotient_rows a n q))
    quotient_within = all_within (quotient_rows a n q) (quotient_first, (quotient_second, tt))

    remainder_within : (m : ℕ) → m < count → All (IsRow count) (map placed_row (remainder_rows a n q m))
    remainder_within m l =
        all_within (remainder_rows a n q m) (
          quotient_first,
          (
            quotient_second,
            (
              alone (placed (limit ((pos 1, m) ∷ beyond a n q) (pos 0))) (three (pos 1) n (negsuc 0) m q a (pos 0) (lit< tt) l in_range below_q (lit< tt) below_a (lit< tt)),
              (
                alone (placed (limit ((negsuc 0, m) ∷ left_by a n q) (pos 0)))
                    (three (negsuc 0) (pos 1) (neg_ℤ n) m a q (pos 0) (lit< tt) l (lit< tt) below_a (negation_in_range n in_range) below_q (lit< tt)),
                tt,
              ),
            ),
          ),
        )

    divisible_within : All (IsRow count) (map placed_row (divisible_rows a n q))
    divisible_within =
        all_within (divisible_rows a n q) (
          quotient_first,
          (
            quotient_second,
            (
              alone (placed (limit (beyond a n q) (negsuc 0))) (beyond_within (negsuc 0) (lit< tt)),
              (alone (placed (limit (left_by a n q) (pos 0))) (left_within (pos 0) (lit< tt)), tt),
            ),
          ),
        )

  absolute_within : (a b : ℕ) → a < count → b < count → All (IsRow count) (map placed_row (absolute_rows a b))
  absolute_within a b h k =
      all_within (absolute_rows a b) (
        alone (placed (limit ((pos 1, a) ∷ (negsuc 0, b) ∷ []) (pos 0))) (two (pos 1) (negsuc 0) a b (pos 0) (lit< tt) h (lit< tt) k (lit< tt)),
        (
          alone (placed (limit ((negsuc 0, a) ∷ (negsuc 0, b) ∷ []) (pos 0))) (two (negsuc 0) (negsuc 0) a b (pos 0) (lit< tt) h (lit< tt) k (lit< tt)),
          (
            All-cons (IsRowLimit count) (placed (limit ((pos 1, b) ∷ (negsuc 0, a) ∷ []) (pos 0))) (placed (limit ((pos 1, b) ∷ (pos 1, a) ∷ []) (pos 0)) ∷ [])
                (two (pos 1) (negsuc 0) b a (pos 0) (lit< tt) k (lit< tt) h (lit< tt))
                (alone (placed (limit ((pos 1, b) ∷ (pos 1, a) ∷ []) (pos 0))) (two (pos 1) (pos 1) b a (pos 0) (lit< tt) k (lit< tt) h (lit< tt))),
            tt,
          ),
        ),
      )

  abbrev AreBelow : List ℕ → Type 0
  AreBelow is = All (λ i. i < count) is

  rows_within : (o : Operator) (n : ℤ) (p : ℕ) (is : List ℕ) → InRange n → p < count → AreBelow is → All (IsRow count) (placed_rows o n p is)
  rows_within Divide n p (a ∷ d ∷ []) r l h = quotient_within n r a p (h 0 0 (lit< tt)) l
  rows_within Modulo n p (a ∷ d ∷ q ∷ []) r l h = remainder_within n r a q (h 0 0 (lit< tt)) (h 2 0 (lit< tt)) p l
  rows_within Divisible n p (a ∷ d ∷ q ∷ []) r l h = divisible_within n r a q (h 0 0 (lit< tt)) (h 2 0 (lit< tt))
  rows_within Absolute n p (a ∷ []) r l h = absolute_within a p (h 0 0 (lit< tt)) l
  rows_within o n p is r l h = All-nil (IsRow count)

pub all_rows : {E : Type 0} (r : Result Unit E) (o : Operator) (n : ℤ) (p : ℕ) (is : List ℕ) (old new : List PlacedRow) → InRange n → OnOk r (new ≡ old ++ placed_rows o n p is) → (count : ℕ) → p < count
    → All (λ i. i < count) is → All (IsRow count) old → OnOk r (All (IsRow count) new)
all_rows (Ok u) o n p is old new r e count l h k = subst (All (IsRow count)) (sym e) (All-append (IsRow count) old (placed_rows o n p is) k (rows_within count o n p is r l h))
all_rows (Err x) o n p is old new r e count l h k = tt

-- ---- the bound of a limit

module _ (ts : List Tree) (l : RowLimit) (sum : List Summand) (constant : ℤ) (d : IsCombination ts (multiples l) (form_of sum constant)) where
  abbrev whole : Form
  whole = combined (place_form ts) (multiples_of (multiples l))

  same_most : l.most -ℤ constant ≡ l.most -ℤ whole.constant
  same_most = ap (λ (f : Form). l.most -ℤ f.constant) d.form

  pub is_row_bound : (k : ℤ) (out : List Summand) (m : ℤ) → k ≡ l.most -ℤ constant → InRange k → ((a : _) → normal_bound sum k ≡ a → IsBound ts a out m) → IsRowBound ts l out m
  is_row_bound k out m e r bound = record {
    terms_fit = d.terms_fit;
    fits = and_both (combined_fits (place_form ts) (multiples_of (multiples l))) (is_in_range (l.most -ℤ whole.constant)) d.fits (in_range_fits (l.most -ℤ whole.constant) (subst InRange (e ∙ same_most) r));
    bound = bound (limit_atom (place_form ts) (limit_of_row l)) (ap (normal_bound sum) e ∙ ap (λ f. most_atom f l.most) d.form);
  }

  pub most_outside : (InRange (l.most -ℤ constant) → ⊥) → LimitLeavesRange ts l
  most_outside out = record {
    terms_fit = d.terms_fit;
    outside =
        false_if (limit_fits (place_form ts) (limit_of_row l))
        (λ h.
        out (subst InRange (sym same_most) (fits_in_range (l.most -ℤ whole.constant) (and_right (combined_fits (place_form ts) (multiples_of (multiples l))) (is_in_range (l.most -ℤ whole.constant)) h))));
  }
