-- Grids of three variables with one row: two leaves, and a sum over both.
use Rattle.std.proofs.Common.{◌≡◌, ◌≢◌, ℕ, zero, suc, ◌<◌, ℤ, pos, negsuc, ap, sym, ◌∙◌, refl, arith, List, [], ◌∷◌, length, true, false, Some, None}
use Rattle.std.specs.Prelude.{slice_index_or}
use Rattle.std.proofs.lemmas.List.Elements.{All-nil, All-cons}
use Rattle.fraction128.proofs.RationalRing.{number, number_back, number_neg, rational_negation, rational_one, rational_one-is}
use Rattle.fraction128.proofs.RowValue.{ArePositive, dot, meets_from}
use Rattle.fraction128.proofs.SumValues.{sum_positive_value, number_leaf}
use Rattle.fraction128.specs.declared.ratio.Ratio.{Ratio}
use Rattle.fraction128.specs.declared.Summand.{Summand}
use Rattle.fraction128.specs.declared.TableRow.{TableRow}
use Rattle.fraction128.specs.declared.Column.{Column}
use Rattle.fraction128.specs.declared.Grid.{Grid}
use Rattle.fraction128.specs.Number.{whole, SameNumber}
use Rattle.fraction128.specs.Ratio.{IsFraction}
use Rattle.fraction128.specs.Gcd.{gcd_of}
use Rattle.fraction128.specs.Grid.{leaf, turned, column_at, is_basic, value_at, MeetsRow}
use Rattle.fraction128.specs.Lines.{Bounding, AreSums, HasSum, IsBoundedBy, IsResting, IsRow, IsSoundGrid, sum_value, IsPositive}
use Rattle.smt_meaning.specs.declared.values.Sort.TheVariants.{Int as Ints}
use Rattle.smt_meaning.specs.declared.clauses.Summand as Terms
use Rattle.smt_meaning.specs.declared.clauses.Atom.TheVariants.{AtMost}
use Rattle.smt_meaning.specs.Term.{Tree}
use Rattle.smt_meaning.specs.TreeShape.{place_of}
use Rattle.smt_meaning.specs.Signature.{tree_sort}
use Rattle.smt_meaning.specs.Stack.{Frame, signature_of}
use Rattle.smt_meaning.specs.CheckAtoms.{IsPartOfStack, IsLeaf, IsFirstAtom, IsKnownSum, grid_sum, is_leaf}

-- what holds of 0, 1 and 2 holds of each number below 3
pub below_three : (P : ℕ → Type 0) → P 0 → P 1 → P 2 → (i : ℕ) → i < 3 → P i
below_three P a b c zero lt = a
below_three P a b c (suc zero) lt = b
below_three P a b c (suc (suc zero)) lt = c
below_three P a b c (suc (suc (suc i))) lt = absurd (omega (arith, lt))

-- ---- the table

abbrev term_of : List Summand → ℕ
term_of [] = 7
term_of (p ∷ ps) = p.term

leaves_apart : leaf 0 ≡ leaf 1 → ⊥
leaves_apart e = let z : zero ≡ suc zero = ap term_of e in omega (arith, z)

filled : (p : Summand) (ps : List Summand) → p ∷ ps ≢ []
filled p ps e = cc

module _ (both : List Summand) (two : length both ≡ 2) where
  longer : (t : ℕ) → leaf t ≡ both → ⊥
  longer t e = omega (arith, two, ap length e)

  both_filled : both ≢ []
  both_filled e = omega (arith, two, ap length e)

  apart : (i j : ℕ) (d : List Summand) → i < j → j < 3 → slice_index_or (leaf 0 ∷ leaf 1 ∷ both ∷ []) i d ≢ slice_index_or (leaf 0 ∷ leaf 1 ∷ both ∷ []) j d
  apart zero (suc zero) d lt lj e = leaves_apart e
  apart zero (suc (suc zero)) d lt lj e = longer 0 e
  apart (suc zero) (suc (suc zero)) d lt lj e = longer 1 e
  apart zero zero d lt lj e = omega (arith, lt)
  apart (suc i) zero d lt lj e = omega (arith, lt)
  apart (suc i) (suc zero) d lt lj e = omega (arith, lt)
  apart (suc (suc i)) (suc (suc zero)) d lt lj e = omega (arith, lt)
  apart i (suc (suc (suc j))) d lt lj e = omega (arith, lj)

  table_of : (Known : List Summand → Type 0) → Known (leaf 0) → Known (leaf 1) → Known both → AreSums Known (leaf 0 ∷ leaf 1 ∷ both ∷ [])
  table_of Known x y s = record {
    apart = λ i j d lt lj. apart i j d lt lj;
    filled = All-cons (λ (ps : List Summand). ps ≢ []) (leaf 0) (leaf 1 ∷ both ∷ []) (filled _ _)
        (All-cons (λ (ps : List Summand). ps ≢ []) (leaf 1) (both ∷ []) (filled _ _) (All-cons (λ (ps : List Summand). ps ≢ []) both [] both_filled (All-nil _)));
    known = All-cons Known (leaf 0) (leaf 1 ∷ both ∷ []) x (All-cons Known (leaf 1) (both ∷ []) y (All-cons Known both [] s (All-nil _)));
  }

-- a leaf of the stack at this place
pub leaf_at : (ts : List Tree) (frames : List Frame) (t : Tree) (place : ℕ) → IsPartOfStack frames t → tree_sort (signature_of frames) t ≡ Some Ints → place_of t ts ≡ place → is_leaf t ≡ true → IsLeaf ts frames place
leaf_at ts frames t place part int place_is is = record { leaf = t; part = record { part = part; int = int; place_is = place_is }; is = is }

-- both leaves are the stack's, and the sum is that of an atom
pub stack_table : (ts : List Tree) (frames : List Frame) (both : List Summand) → length both ≡ 2 → IsLeaf ts frames 0 → IsLeaf ts frames 1
    → (qs : List Terms.Summand) (k : ℤ) → IsFirstAtom ts frames (AtMost qs k) → both ≡ turned (grid_sum qs) → AreSums (IsKnownSum ts frames) (leaf 0 ∷ leaf 1 ∷ both ∷ [])
stack_table ts frames both two x y qs k atom is = table_of both two (IsKnownSum ts frames) (IsKnownSum.of_leaf 0 x refl) (IsKnownSum.of_leaf 1 y refl) (IsKnownSum.of_atom qs k atom is)

-- ---- numbers

pub zero_fraction : IsFraction (whole (pos 0))
unfolding gcd_of
zero_fraction = record { positive = omega arith; lowest = refl; numerator_in = omega arith; denominator_in = omega arith }

pub one_fraction : IsFraction (whole (pos 1))
unfolding gcd_of
one_fraction = record { positive = omega arith; lowest = refl; numerator_in = omega arith; denominator_in = omega arith }

pub minus_fraction : IsFraction (whole (negsuc 0))
unfolding gcd_of
minus_fraction = record { positive = omega arith; lowest = refl; numerator_in = omega arith; denominator_in = omega arith }

pub minus_one_is : number (whole (negsuc 0)) ≡ rational_negation rational_one
minus_one_is = number_neg (whole (pos 1)) (omega arith) ∙ ap rational_negation (sym rational_one-is)

pub one_not_none : pos 1 ≢ pos 0
one_not_none e = cc

pub minus_not_none : negsuc 0 ≢ pos 0
minus_not_none e = cc

pub leaf_value : (w : ℕ → Ratio) (t : ℕ) → IsPositive w → SameNumber (sum_value w (leaf t)) (w t)
leaf_value w t p = number_back (sum_value w (leaf t)) (w t) (sum_positive_value w (leaf t) p) (p t) (number_leaf w t p)

-- ---- bounds

pub some_is : (j k : ℤ) → Some j ≡ Some k → j ≡ k
some_is j k e = cc

pub none_is : {X : Type 0} (k : ℤ) → None ≡ Some k → X
none_is k e = cc

-- the variable is basic
pub basic_is : {X : Type 0} → true ≡ false → X
basic_is e = cc

-- ---- grids

abbrev pub grid_with : Column → Column → Column → TableRow → Grid
grid_with c d e r = record { columns = c ∷ d ∷ e ∷ []; rows = r ∷ []; pending = None }

module _ (c d e : Column) (r : TableRow) where
  abbrev g : Grid
  g = grid_with c d e r

  -- the values that the sums of the variables have
  abbrev pub sums_at : (ℕ → Ratio) → ℕ → Ratio
  sums_at f i = sum_value f (column_at g i).sum

  -- what is free has the wanted value
  abbrev pub IsFreeAt : (ℕ → Ratio) → (ℕ → Ratio) → ℕ → Type 0
  IsFreeAt w v i = is_basic g.rows i ≡ false → SameNumber (sum_value w (column_at g i).sum) (v i)

  module _ (sums : List (List Summand)) (B : Bounding) (row : IsRow g r) (positive : ArePositive r.entries) (met : MeetsRow (value_at g) r)
      (identity : (f : ℕ → Ratio) → IsPositive f → number (sums_at f r.basic) ≡ dot (λ i. number (sums_at f i)) r.entries)
      (lifted : (ℕ → Ratio) → ℕ → Ratio) (lifted_positive : (v : ℕ → Ratio) → IsPositive v → IsPositive (lifted v)) (independent : (v : ℕ → Ratio) → IsPositive v → (i : ℕ) → i < 3 → IsFreeAt (lifted v) v i)
      (columns : (i : ℕ) → i < 3 → HasSum sums i (column_at g i)) (fractions : (i : ℕ) → i < 3 → IsFraction (value_at g i)) (bounded : (i : ℕ) → i < 3 → IsBoundedBy B (column_at g i))
      (resting : (i : ℕ) → i < 3 → is_basic g.rows i ≡ false → IsResting B (column_at g i)) where
    pub sound_grid : IsSoundGrid sums B g
    sound_grid = record {
      columns = columns;
      rows = record { each = All-cons (IsRow g) r [] row (All-nil _); apart = λ i j d lt lj e. omega (arith, lt, lj) };
      identities = λ f p. All-cons (MeetsRow (sums_at f)) r [] (meets_from (sums_at f) r (λ i. sum_positive_value f (column_at g i).sum p) positive (identity f p)) (All-nil _);
      independent = λ v p. (lifted v, lifted_positive v p, independent v p);
      fractions = fractions;
      meets = All-cons (MeetsRow (value_at g)) r [] met (All-nil _);
      bounded = bounded;
      resting = resting;
    }
