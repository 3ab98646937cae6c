-- Equalities of Ints in a last check whose values are whole: each is told as the values have it.
use Rattle.std.specs.Prelude.{◌≡◌, ℕ, ◌<◌, ◌⊎◌, Bool, List, [], length, All, Contains, ℤ, pos, int_le}
use Rattle.literals.specs.Signed.{Signed, opposite}
use Rattle.smt_meaning.specs.declared.clauses.Atom.{Atom}
use Rattle.smt_meaning.specs.declared.clauses.Atom.TheVariants.{AtMost, Same}
use Rattle.smt_meaning.specs.Term.{Tree, tree_at, int_eq}
use Rattle.smt_meaning.specs.Linear.{linear_form}
use Rattle.smt_meaning.specs.Ranges.{form_at}
use Rattle.smt_meaning.specs.StackCommand.{Stack}
use Rattle.atom_form.specs.AtomTableNumbers.{IsAt}
use Rattle.search_port.specs.State.{IsMadeTrue, atom_at}
use Rattle.equality_clauses.specs.Ties.{literal}
use Rattle.bound_clauses.specs.Ties.{equal_clauses}
use Rattle.sum_bounds.specs.Bounds.{State}
use Rattle.closure_log.specs.Places.{ArePlaces}
use Rattle.bound_log.specs.Values.{numbers_of}
use Rattle.theory_combine.specs.declared.held.Held.{Held}
use Rattle.theory_combine.specs.declared.parts.Pair.{Pair}
use Rattle.theory_combine.specs.Pairs.{IsFit}

-- each atom that has a place is told, and stands there
pub record AreAllTold (h : Held) : Type 0 where
  pub told_at : ArePlaces h.closure.log.items h.scan.places.items
  pub full : (l : Signed) → l.atom < length h.scan.places.items → Contains h.closure.log.items l ⊎ Contains h.closure.log.items (opposite l)

-- the number of the term at a place: of its linear form, where the variables of terms have their values
abbrev pub number_there : List Tree → State → ℕ → ℤ
number_there ts b p = form_at (numbers_of b) (linear_form ts (tree_at ts p))

-- the equality of two places is told to be what it is of their numbers
abbrev pub IsToldAsIs : Stack → List Atom → Held → ℕ → ℕ → Type 0
IsToldAsIs s table h i j =
    (n : ℕ) → IsAt table n (Same i j) → Contains h.closure.log.items (literal (int_eq (number_there s.trees h.bounds.bounds i) (number_there s.trees h.bounds.bounds j)) n)

-- so is that of a pair, in both orders
pub record IsSettled (s : Stack) (table : List Atom) (h : Held) (p : Pair) : Type 0 where
  pub same : IsToldAsIs s table h p.left p.right
  pub turned : IsToldAsIs s table h p.right p.left

-- so it is where both are marked Ints
abbrev pub IsSettledWhereFit : Stack → List Bool → List Atom → Held → Pair → Type 0
IsSettledWhereFit s marks table h p = IsFit s marks p.left → IsFit s marks p.right → IsSettled s table h p

-- ---- no public contract speaks of it

-- where this is the number of a bound of the empty sum, it is told as it is
abbrev pub IsToldWhereEmpty : List Atom → List Signed → ℕ → Type 0
IsToldWhereEmpty table log n = (k : ℤ) → atom_at table n ≡ AtMost [] k → Contains log (literal (int_le (pos 0) k) n)

-- the log makes the clauses of an equality of two places and these bounds true
abbrev pub IsTiedIn : List Atom → List Signed → ℕ → ℕ → ℕ → ℕ → Type 0
IsTiedIn table log i j low high = (n : ℕ) → IsAt table n (Same i j) → All (IsMadeTrue log) (equal_clauses n low high)
