-- Pivots under bounds that stay.
use Rattle.std.specs.Prelude.{◌≡◌, ℕ, zero, suc, ◌<◌, ◌^◌, ℤ, Bool, List, [], ◌∷◌, map, length, Option, Some}
use Rattle.fraction128.specs.declared.Summand.{Summand}
use Rattle.fraction128.specs.declared.Column.{Column}
use Rattle.fraction128.specs.declared.Grid.{Grid}
use Rattle.fraction128.specs.declared.Line.{Line}
use Rattle.fraction128.specs.Lines.{Bounding, exchanged}
use Rattle.fraction128.specs.Chain.{left_by}
use Rattle.smt_meaning.specs.declared.reports.Unit.{Unit as Spent}
use Rattle.smt_meaning.specs.declared.reports.Unit.TheVariants.{Learnt, Numbered, Pivot}
use Rattle.smt_meaning.specs.Term.{Tree}
use Rattle.smt_meaning.specs.Stack.{Frame}
use Rattle.smt_meaning.specs.CheckAtoms.{IsBoundOf, IsCheckAtom}
use Rattle.smt_meaning.specs.Report.{AreChained}

-- a lower and an upper bound
abbrev pub Bounds : Type 0
Bounds = Option ℤ × Option ℤ

abbrev pub column_bounds : Column → Bounds
column_bounds c = (c.lower, c.upper)

-- those of each variable
abbrev pub bounds_of : Grid → List Bounds
bounds_of g = map column_bounds g.columns

-- the first n of the units are pivots, each in a grid with these bounds
abbrev pub StayUnder : (bounds : List Bounds) (sums : List (List Summand)) (B : Bounding) (n : ℕ) (is : ℕ → Bool) (here : Option Grid) (us : List Spent) → AreChained sums B is here us → Type 0
StayUnder bounds sums B zero is here us c = Unit {0}
StayUnder bounds sums B (suc n) is here [] c = ⊥
StayUnder bounds sums B (suc n) is here (Learnt d ∷ us) c = ⊥
StayUnder bounds sums B (suc n) is here (Numbered a ∷ us) c = ⊥
StayUnder bounds sums B (suc n) is here (Pivot l ∷ us) c = (bounds_of c.0.grid ≡ bounds) × StayUnder bounds sums B n (exchanged l is) (Some (left_by c.0)) us c.2

-- of any units that hang together, so also from any place in a report: while the bounds of so many variables stay, pivots with no other unit between are fewer than 3 to that power
abbrev pub PivotsUnderBoundsAreFew : Type 0
PivotsUnderBoundsAreFew =
    (ts : List Tree) (frames : List Frame) (branches : List Line) (bounds : List Bounds) (sums : List (List Summand)) (n : ℕ) (is : ℕ → Bool) (here : Option Grid) (us : List Spent)
    (c : AreChained sums (IsBoundOf (IsCheckAtom ts frames branches)) is here us) → StayUnder bounds sums (IsBoundOf (IsCheckAtom ts frames branches)) n is here us c → n < 3 ^ length bounds
