-- The grid of the bounds: which bounds the literals told say of it, and where all of it but its bounds stays.
use Rattle.std.specs.Prelude.{◌≡◌, ℕ, ◌<◌, Bool, List, length}
use Rattle.fraction128.specs.declared.Grid.{Grid}
use Rattle.fraction128.specs.Grid.{column_at}
use Rattle.fraction128.specs.Lines.{IsBoundedBy, HasBasis}
use Rattle.fraction128.specs.Chain.{TakesIn, unbounded}
use Rattle.literals.specs.Signed.{Signed}
use Rattle.smt_meaning.specs.declared.clauses.Atom.{Atom}
use Rattle.search_port.specs.Pivots.{IsSaid}
use Rattle.bound_log.specs.Told.{State, column_sums}
use Rattle.bound_log.specs.Pending.{plain_grid}

-- each bound of the grid is said by a literal
abbrev pub BoundsAreSaid : List Atom → List Signed → Grid → Type 0
BoundsAreSaid table log g = (i : ℕ) → i < length g.columns → IsBoundedBy (IsSaid table log) (column_at g i)

-- each bound is said by a literal told, and whatever else such literals say of the same variables with their values and rows is taken in
pub record HasBoundsOf (table : List Atom) (log : List Signed) (b : State) : Type 0 where
  pub said : BoundsAreSaid table log (plain_grid b)
  pub taken : (g : Grid) → unbounded g ≡ unbounded (plain_grid b) → BoundsAreSaid table log g → TakesIn g (plain_grid b)

-- the variables keep their sums, the same of them are basic, and their values and rows stay
pub record KeepsGrid (old new : State) : Type 0 where
  pub sums : column_sums new ≡ column_sums old
  pub basis : (is : ℕ → Bool) → HasBasis is (plain_grid old) → HasBasis is (plain_grid new)
  pub grid : unbounded (plain_grid new) ≡ unbounded (plain_grid old)
