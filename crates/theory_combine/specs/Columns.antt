-- The variables of bounds, as those of leaves and of a table's atoms.
use Rattle.std.specs.List.{range_with_len}
use Rattle.std.specs.Prelude.{ℕ, ◌<◌, Bool, List, map, length, ◌++◌, pos, All, Option, Some, None}
use Rattle.fraction128.specs.declared.Grid.{Grid}
use Rattle.fraction128.specs.Grid.{is_basic}
use Rattle.fraction128.specs.Chain.{unbounded}
use Rattle.smt_meaning.specs.declared.clauses.Atom.{Atom}
use Rattle.smt_meaning.specs.StackCommand.{Stack}
use Rattle.smt_meaning.specs.Boxes.{term_at_most}
use Rattle.smt_meaning.specs.CheckAtoms.{IsLeaf}
use Rattle.smt_laws.specs.Flat.{flat}
use Rattle.search_port.specs.State.{Variables}
use Rattle.bound_log.specs.Told.{State, column_sums}
use Rattle.bound_log.specs.Columns.{HasColumnsOf}
use Rattle.bound_log.specs.Pending.{plain_grid}
use Rattle.sum_bounds.specs.Written.{HasLeaf}
use Rattle.theory_combine.specs.Shown.{IsMarkedLeaf}

-- a bound on the leaf alone
abbrev pub bound_on : ℕ → Atom
bound_on term = term_at_most term (pos 0)

-- the atoms of a table, behind bounds on these leaves alone
abbrev pub with_leaves : List ℕ → List Atom → List Atom
with_leaves own table = map bound_on own ++ table

-- each variable is of one of some leaves, of a term of an atom, or of the sum of an atom
pub record HasKnownColumns (s : Stack) (table : List Atom) (b : State) : Type 0 where
  pub own : List ℕ
  pub leaves : All (IsLeaf s.trees (flat s.frames)) own
  pub columns : HasColumnsOf (with_leaves own table) b

-- each marked leaf of the first places has a variable
abbrev pub HaveVariablesTo : Stack → List Bool → ℕ → State → Type 0
HaveVariablesTo s marks count b = (p : ℕ) → p < count → IsMarkedLeaf s marks p → HasLeaf b.bounds.columns p

-- each marked leaf has a variable
abbrev pub HaveVariables : Stack → List Bool → State → Type 0
HaveVariables s marks b = (p : ℕ) → IsMarkedLeaf s marks p → HasLeaf b.bounds.columns p

-- whether each variable is basic
abbrev pub basic_flags : State → List Bool
basic_flags b = map (is_basic b.bounds.table.rows) (range_with_len 0 (length (column_sums b)))

-- what is told of the variables: once the search has stopped, no longer which are basic, nor their values and rows
abbrev pub variables_of : Option ℕ → State → Variables
variables_of stopped_at b = record { sums = column_sums b; basic = basic_by stopped_at; grid = grid_by stopped_at }
  where
    basic_by : Option ℕ → Option (List Bool)
    basic_by None = Some (basic_flags b)
    basic_by (Some n) = None

    grid_by : Option ℕ → Option Grid
    grid_by None = Some (unbounded (plain_grid b))
    grid_by (Some n) = None
