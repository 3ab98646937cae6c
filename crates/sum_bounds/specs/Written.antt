-- Sums as they are kept, and their parts.
use Rattle.std.specs.Prelude.{◌≡◌, ◌≢◌, ℕ, ◌<◌, Bool, List, length, pos, neg_ℤ, if◌then◌else◌}
use Rattle.fraction128.specs.Whole.{InRange}
use Rattle.fraction128.specs.declared.Summand.{Summand}
use Rattle.fraction128.specs.declared.Column.{Column}
use Rattle.fraction128.specs.Grid.{leaf, variable_of}
use Rattle.tableau.specs.declared.sum.Part.{Part}
use Rattle.simplex_steps.specs.State.{column_in}

abbrev pub turned_summand : Bool → Summand → Summand
turned_summand turned p = record { coefficient = if turned then neg_ℤ p.coefficient else p.coefficient; term = p.term }

-- a term has a variable
abbrev pub HasLeaf : List Column → ℕ → Type 0
HasLeaf cs term = (i : ℕ) × (i < length cs) × ((column_in cs i).sum ≡ leaf term)

-- the summand with the variable of its term in the term's place
abbrev pub part_in : List Column → Summand → Part
part_in cs p = record { coefficient = p.coefficient; variable = variable_of cs p.term }

-- the term has a variable, and the coefficient is a number of the range other than 0
pub record IsKnown (cs : List Column) (p : Summand) : Type 0 where
  pub leaf : HasLeaf cs p.term
  pub in_range : InRange p.coefficient
  pub nonzero : p.coefficient ≢ pos 0
