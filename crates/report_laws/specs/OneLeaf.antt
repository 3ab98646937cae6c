-- What no stack's reports have, and stacks whose atoms bound one leaf.
use Rattle.std.specs.Prelude.{◌≡◌, ◌⊎◌, ℕ, ℤ, ◌<◌, List, [], ◌∷◌, ◌++◌, length}
use Rattle.fraction128.specs.declared.Summand.{Summand}
use Rattle.fraction128.specs.declared.Line.{Line}
use Rattle.fraction128.specs.declared.Grid.{Grid}
use Rattle.fraction128.specs.Grid.{leaf, column_at}
use Rattle.smt_meaning.specs.declared.reports.RangeSeen.{RangeSeen}
use Rattle.smt_meaning.specs.declared.reports.RangeSeen.TheVariants.{Step}
use Rattle.smt_meaning.specs.declared.reports.Cause.TheVariants.{Range}
use Rattle.smt_meaning.specs.declared.reports.Unit.{Unit as Spent}
use Rattle.smt_meaning.specs.declared.reports.Unit.TheVariants.{Pivot}
use Rattle.smt_meaning.specs.Term.{Tree}
use Rattle.smt_meaning.specs.Stack.{Frame}
use Rattle.smt_meaning.specs.CheckAtoms.{AreBranches, AreCheckSums, IsKnownSum}
use Rattle.smt_meaning.specs.Report.{AreAllSpent, Shows}

-- each sum that a variable may have is empty or the term alone
abbrev pub IsOverOneLeaf : List Tree → List Frame → ℕ → Type 0
IsOverOneLeaf ts frames t = (ps : List Summand) → IsKnownSum ts frames ps → (ps ≡ []) ⊎ (ps ≡ leaf t)

-- no worker shows that a number left the range, by whatever cause, under any limit and with any branches
abbrev pub NothingLeaves : List Tree → List Frame → Type 0
NothingLeaves ts frames = (limit : ℤ) (branches : List Line) (seen : RangeSeen) → Shows ts frames limit branches (Range seen) → ⊥

abbrev pub NoBranches : Type 0
NoBranches =
    (ts : List Tree) (frames : List Frame) (t : ℕ) → IsOverOneLeaf ts frames t
    → (sums : List (List Summand)) (branches : List Line) → AreCheckSums ts frames sums → AreBranches ts frames sums branches → branches ≡ []

abbrev pub NoPivots : Type 0
NoPivots =
    (ts : List Tree) (frames : List Frame) (t : ℕ) → IsOverOneLeaf ts frames t
    → (limit : ℤ) (branches : List Line) (us : List Spent) → AreAllSpent ts frames limit branches us
    → (before after : List Spent) (l : Line) → us ≡ before ++ Pivot l ∷ after → ⊥

-- on every stack: a grid with a column of the empty sum is refused
abbrev pub NoEmptySums : Type 0
NoEmptySums =
    (ts : List Tree) (frames : List Frame) (limit : ℤ) (branches : List Line) (g : Grid) (i : ℕ) → i < length g.columns → (column_at g i).sum ≡ []
    → Shows ts frames limit branches (Range (Step g)) → ⊥

-- and one with two columns of a sum
abbrev pub NoSumTwice : Type 0
NoSumTwice =
    (ts : List Tree) (frames : List Frame) (limit : ℤ) (branches : List Line) (g : Grid) (i j : ℕ) → i < j → j < length g.columns → (column_at g i).sum ≡ (column_at g j).sum
    → Shows ts frames limit branches (Range (Step g)) → ⊥
