-- The divisions of a proof: their rows, and what a step on one of them comes to.
use Rattle.std.specs.Prelude.{◌≡◌, ◌<◌, ◌≤◌, ℕ, ℤ, pos, true, false, List, length, map, slice_get, Option, Some, None}
use Rattle.smt_meaning.specs.declared.terms.Head.{Head}
use Rattle.smt_meaning.specs.declared.terms.Head.TheVariants.{Theory}
use Rattle.smt_meaning.specs.declared.terms.Operator.TheVariants.{Divide}
use Rattle.smt_meaning.specs.Term.{Tree, Trees, node, tree_at}
use Rattle.smt_meaning.specs.Nodes.{pick}
use Rattle.smt_meaning.specs.TreeShape.{quotient_tree}
use Rattle.smt_meaning.specs.Linear.{folding_fits, foldings_fit}
use Rattle.smt_meaning.specs.Division.{Row, quotient_rows, remainder_rows, divisible_rows, absolute_rows}
use Rattle.pair_bounds.specs.declared.rows.Row.{Row as PlacedRow}
use Rattle.pair_bounds.specs.Rows.{row_of, IsRow}
use Rattle.proof_meaning.specs.Rules.{HasRows, divisor_at}
use Rattle.term_store.specs.Terms.{IsPlace, IsNew}
use Rattle.proof_terms.specs.Range.{row_stays}
use Rattle.proof_terms.specs.TermRows.{tree_row, DivisorLeaves}
use Rattle.proof_terms.specs.declared.euclid.Division.{Division}
use Rattle.proof_terms.specs.declared.euclid.Division.TheVariants.{Quotient, Remainder, Divisibility, Magnitude}

-- the rows of the division that a term is, where the divisor is a number
abbrev pub division_rows : Division → ℤ → ℕ → List (Row ℕ)
division_rows (Quotient a n) k i = quotient_rows a k i
division_rows (Remainder a n q) k i = remainder_rows a k q i
division_rows (Divisibility a n q) k i = divisible_rows a k q
division_rows (Magnitude a) k i = absolute_rows a i

abbrev pub number_of : List Tree → Division → ℤ
number_of ts (Quotient a n) = divisor_at ts n
number_of ts (Remainder a n q) = divisor_at ts n
number_of ts (Divisibility a n q) = divisor_at ts n
number_of ts (Magnitude a) = pos 0

abbrev pub rows_here : List Tree → Division → ℕ → List (Row ℕ)
rows_here ts d i = division_rows d (number_of ts d) i

-- its terms are among the first so many
abbrev pub IsWithin : ℕ → Division → Type 0
IsWithin count (Quotient a n) = (a < count) × (n < count)
IsWithin count (Remainder a n q) = (a < count) × (n < count) × (q < count)
IsWithin count (Divisibility a n q) = (a < count) × (n < count) × (q < count)
IsWithin count (Magnitude a) = a < count

-- a term is a quotient by another
pub record IsQuotientBy (ts : List Tree) (q n : ℕ) : Type 0 where
  pub arguments : Trees
  pub tree : tree_at ts q ≡ node (Theory Divide) arguments
  pub divisor : foldings_fit ts arguments ≡ true → folding_fits ts (tree_at ts n) ≡ true

abbrev pub HasQuotient : List Tree → ℕ → Division → Type 0
HasQuotient ts i (Quotient a n) = IsQuotientBy ts i n
HasQuotient ts i (Remainder a n q) = IsQuotientBy ts q n
HasQuotient ts i (Divisibility a n q) = IsQuotientBy ts q n
HasQuotient ts i (Magnitude a) = Unit {0}

-- the divisor isn't to be had
abbrev pub NumberLeaves : List Tree → Division → Type 0
NumberLeaves ts (Quotient a n) = DivisorLeaves ts n
NumberLeaves ts (Remainder a n q) = DivisorLeaves ts n
NumberLeaves ts (Divisibility a n q) = DivisorLeaves ts n
NumberLeaves ts (Magnitude a) = ⊥

-- a term with this head and these arguments is the division: it has these rows, and others only over the same trees
pub record IsDivision (ts : List Tree) (i : ℕ) (h : Head) (is : List ℕ) (d : Division) : Type 0 where
  pub has : HasRows ts i h is (rows_here ts d i)
  pub only : (rows : List (Row ℕ)) → HasRows ts i h is rows → map (tree_row ts) rows ≡ map (tree_row ts) (rows_here ts d i)
  pub within : IsWithin (length ts) d
  pub quotient : tree_at ts i ≡ node h (pick ts is) → HasQuotient ts i d

abbrev pub HasNoRows : List Tree → ℕ → Head → List ℕ → Type 0
HasNoRows ts i h is = (rows : List (Row ℕ)) → HasRows ts i h is rows → ⊥

abbrev pub IsDivisionOrNone : List Tree → ℕ → Head → List ℕ → Option Division → Type 0
IsDivisionOrNone ts i h is None = HasNoRows ts i h is
IsDivisionOrNone ts i h is (Some d) = IsDivision ts i h is d

-- the divisibility of a term by a numeral, if their quotient is a term
abbrev pub IsByNumeral : List Tree → ℕ → ℕ → Option Division → Type 0
IsByNumeral ts a n None = IsNew ts (quotient_tree (tree_at ts a) (tree_at ts n))
IsByNumeral ts a n (Some d) = (q : ℕ) × (IsPlace ts q (quotient_tree (tree_at ts a) (tree_at ts n)) × (d ≡ Divisibility a n q))

-- the row of a number, over the same trees whichever it is
pub record IsRowAt (ts : List Tree) (i : ℕ) (h : Head) (is : List ℕ) (n : ℕ) (row : Row ℕ) : Type 0 where
  pub rows : List (Row ℕ)
  pub has : HasRows ts i h is rows
  pub row_is : slice_get rows n ≡ Some row
  pub only : (others : List (Row ℕ)) → HasRows ts i h is others → (other : Row ℕ) → slice_get others n ≡ Some other → tree_row ts other ≡ tree_row ts row

-- there is none
abbrev pub HasNoRowAt : List Tree → ℕ → Head → List ℕ → ℕ → Type 0
HasNoRowAt ts i h is n = (rows : List (Row ℕ)) → HasRows ts i h is rows → (row : Row ℕ) → slice_get rows n ≡ Some row → ⊥

abbrev pub IsRowOrNone : List Tree → ℕ → Head → List ℕ → ℕ → Option PlacedRow → Type 0
IsRowOrNone ts i h is n None = HasNoRowAt ts i h is n
IsRowOrNone ts i h is n (Some r) = IsRowAt ts i h is n (row_of r) × IsRow (length ts) r

-- of a division
abbrev pub IsItsRowOrNone : List Tree → ℕ → Division → ℕ → Option PlacedRow → Type 0
IsItsRowOrNone ts i d n None = length (rows_here ts d i) ≤ n
IsItsRowOrNone ts i d n (Some r) = (slice_get (rows_here ts d i) n ≡ Some (row_of r)) × IsRow (length ts) r

-- folding it leaves the range
pub record RowLeaves (ts : List Tree) (i : ℕ) (h : Head) (is : List ℕ) (n : ℕ) : Type 0 where
  pub rows : List (Row ℕ)
  pub has : HasRows ts i h is rows
  pub row : Row ℕ
  pub row_is : slice_get rows n ≡ Some row
  pub outside : row_stays ts row ≡ false
