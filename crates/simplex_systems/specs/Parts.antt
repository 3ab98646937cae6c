-- Summands with their parts.
use Rattle.std.specs.Prelude.{◌≡◌, ℕ, List}
use Rattle.fraction128.specs.declared.Column.{Column}
use Rattle.fraction128.specs.Grid.{leaf}
use Rattle.tableau.specs.Written.{IsPart}
use Rattle.simplex_steps.specs.State.{column_in}
use Rattle.simplex_systems.specs.declared.system.Picked.{Picked}

-- a summand, and its part: the same coefficient, and one of n variables, which stands for the term alone
pub record IsPicked (n : ℕ) (cs : List Column) (p : Picked) : Type 0 where
  pub part : IsPart n p.part
  pub same : p.part.coefficient ≡ p.summand.coefficient
  pub stands : (column_in cs p.part.variable).sum ≡ leaf p.summand.term
