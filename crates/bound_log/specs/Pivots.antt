-- The lines of pivots that a check adds.
use Rattle.std.specs.Prelude.{◌≡◌, ℕ, Bool, true, false, List, [], ◌++◌, length, Contains, Some}
use Rattle.fraction128.specs.declared.Line.{Line}
use Rattle.fraction128.specs.Lines.{HasBasis, basis_along}
use Rattle.fraction128.specs.Chain.{PivotsLead}
use Rattle.smt_meaning.specs.declared.clauses.Atom.{Atom}
use Rattle.smt_meaning.specs.CheckAtoms.{IsBoundOf}
use Rattle.bound_log.specs.Told.{State, column_sums}
use Rattle.bound_log.specs.Atoms.{Knows}
use Rattle.bound_log.specs.Pending.{plain_grid}

-- the lines after those before: where lines are kept, one for each pivot, in a grid over the atoms that are known and from the basis that those before it leave; they lead from the grid before to the grid after
pub record AddsPivots (old new : State) (keep : Bool) (made : ℕ) (before now : List Line) : Type 0 where
  pub added : List Line
  pub is : now ≡ before ++ added
  pub count : keep ≡ true → length added ≡ made
  pub none : keep ≡ false → added ≡ []
  pub pivots : keep ≡ true → (table : List Atom) (is : ℕ → Bool) → Knows table old → HasBasis is (plain_grid old)
      → PivotsLead (column_sums old) (IsBoundOf (Contains table)) is (Some (plain_grid old)) added (Some (plain_grid new))
  pub basis : keep ≡ true → (is : ℕ → Bool) → HasBasis is (plain_grid old) → HasBasis (basis_along is added) (plain_grid new)
