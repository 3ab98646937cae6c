-- The sums that variables stand for, as those of a table's atoms.
use Rattle.std.specs.Prelude.{◌≡◌, ◌≢◌, ℕ, ◌<◌, ◌⊎◌, List, [], ◌∷◌, ◌++◌, length, ℤ, All, Contains}
use Rattle.fraction128.specs.declared.Column.{Column}
use Rattle.fraction128.specs.declared.Summand.{Summand as GridSummand}
use Rattle.fraction128.specs.Grid.{leaf, turned}
use Rattle.smt_meaning.specs.declared.clauses.Summand.{Summand}
use Rattle.smt_meaning.specs.declared.clauses.Atom.{Atom}
use Rattle.smt_meaning.specs.declared.clauses.Atom.TheVariants.{AtMost}
use Rattle.sum_bounds.specs.Bounds as Bounds
use Rattle.sum_bounds.specs.Bounds.{sums}
use Rattle.sum_bounds.specs.Clauses.{plain}
use Rattle.bound_log.specs.Told.{State}

-- the sum is a term alone, which stands in the sum of an atom
pub record IsLeafOf (table : List Atom) (sum : List GridSummand) : Type 0 where
  pub terms : List Summand
  pub most : ℤ
  pub part : Summand
  pub atom : Contains table (AtMost terms most)
  pub among : Contains terms part
  pub sum_is : sum ≡ leaf part.term

-- the sum is that of an atom, or its negation, and isn't empty
pub record IsSumOf (table : List Atom) (sum : List GridSummand) : Type 0 where
  pub terms : List Summand
  pub most : ℤ
  pub atom : Contains table (AtMost terms most)
  pub filled : terms ≢ []
  pub sum_is : sum ≡ turned (plain terms)

abbrev pub IsColumnOf : List Atom → Column → Type 0
IsColumnOf table c = IsLeafOf table c.sum ⊎ IsSumOf table c.sum

-- each variable is of a term of an atom, or of the sum of an atom
abbrev pub HasColumnsOf : List Atom → State → Type 0
HasColumnsOf table s = All (IsColumnOf table) s.bounds.columns

-- whatever table the variables of the one state are of, those of the other are of it
abbrev pub KeepsColumns : State → State → Type 0
KeepsColumns old new = (table : List Atom) → HasColumnsOf table old → HasColumnsOf table new

-- and those of the other are of the table with an atom more
abbrev pub AddsColumns : State → Atom → State → Type 0
AddsColumns old a new = (table : List Atom) → HasColumnsOf table old → HasColumnsOf (table ++ a ∷ []) new

-- ---- how they come

-- the sum is a term alone, which stands in the other sum
abbrev pub IsLeafIn : List GridSummand → List GridSummand → Type 0
IsLeafIn ps sum = (p : GridSummand) × Contains ps p × (sum ≡ leaf p.term)

-- it is that, or the other sum itself, turned
abbrev pub IsPartIn : List GridSummand → List GridSummand → Type 0
IsPartIn ps sum = IsLeafIn ps sum ⊎ (sum ≡ turned ps)

-- each variable stands for the sum that it stood for, or for one of these
abbrev pub AddsSums : (List GridSummand → Type 0) → Bounds.State → Bounds.State → Type 0
AddsSums P old new = (i : ℕ) → i < length new.columns → ((i < length old.columns) × (sums new i ≡ sums old i)) ⊎ P (sums new i)
