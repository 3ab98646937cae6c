-- Units that hang together: their pivots, and neighbours among these.
use Rattle.std.proofs.Common.{ℕ, Bool, List, [], ◌∷◌, ◌++◌, Option, Some, None}
use Rattle.fraction128.specs.declared.Summand.{Summand}
use Rattle.fraction128.specs.declared.Line.{Line}
use Rattle.fraction128.specs.declared.Grid.{Grid}
use Rattle.fraction128.specs.Lines.{Bounding, IsPivotIn, exchanged}
use Rattle.fraction128.specs.Chain.{ComesFrom, left_by}
use Rattle.smt_meaning.specs.declared.reports.Unit.{Unit as Spent}
use Rattle.smt_meaning.specs.declared.reports.Unit.TheVariants.{Learnt, Numbered, Pivot}
use Rattle.smt_meaning.specs.Report.{AreChained}

module _ (sums : List (List Summand)) (B : Bounding) where
  -- a pivot among them is one from some basis
  pub record IsOne (l : Line) : Type 0 where
    pub basis : ℕ → Bool
    pub pivot : IsPivotIn sums B basis l

  -- of two neighbours the second comes from what the first left
  pub record AreNeighbours (l m : Line) : Type 0 where
    pub basis : ℕ → Bool
    pub first : IsPivotIn sums B basis l
    pub second : IsPivotIn sums B (exchanged l basis) m
    pub comes : ComesFrom (left_by first) second.grid

  pub pivot_in : (is : ℕ → Bool) (here : Option Grid) (before after : List Spent) (l : Line) → AreChained sums B is here (before ++ Pivot l ∷ after) → IsOne l
  pivot_in is here [] after l c = record { basis = is; pivot = c.0 }
  pivot_in is here (Learnt d ∷ before) after l c = pivot_in is None before after l c
  pivot_in is here (Numbered a ∷ before) after l c = pivot_in is None before after l c
  pivot_in is here (Pivot m ∷ before) after l c = pivot_in (exchanged m is) (Some (left_by c.0)) before after l c.2

  pub neighbours_in : (is : ℕ → Bool) (here : Option Grid) (before after : List Spent) (l m : Line) → AreChained sums B is here (before ++ Pivot l ∷ Pivot m ∷ after) → AreNeighbours l m
  neighbours_in is here [] after l m c = record { basis = is; first = c.0; second = c.2.0; comes = c.2.1 }
  neighbours_in is here (Learnt d ∷ before) after l m c = neighbours_in is None before after l m c
  neighbours_in is here (Numbered a ∷ before) after l m c = neighbours_in is None before after l m c
  neighbours_in is here (Pivot n ∷ before) after l m c = neighbours_in (exchanged n is) (Some (left_by c.0)) before after l m c.2
