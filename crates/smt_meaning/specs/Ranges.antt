-- What shows that a number left the range.
use Rattle.std.specs.Prelude.{◌≡◌, ◌⊎◌, ℕ, ◌<◌, false, List, [], ◌∷◌, length, ℤ, pos, ◌+ℤ◌, ◌*ℤ◌, Some, All}
use Rattle.fraction128.specs.declared.ratio.Ratio.{Ratio}
use Rattle.fraction128.specs.Number.{whole, SameNumber}
use Rattle.fraction128.specs.Whole.{is_in_range}
use Rattle.fraction128.specs.declared.Pending.{Pending}
use Rattle.fraction128.specs.declared.Summand.{Summand as GridSummand}
use Rattle.fraction128.specs.declared.Grid.{Grid}
use Rattle.fraction128.specs.Grid.{WithinBounds, value_at, variable_of}
use Rattle.fraction128.specs.Lines.{IsSoundGrid, NextFails}
use Rattle.smt_meaning.specs.declared.values.Table.{Table}
use Rattle.smt_meaning.specs.declared.terms.Head.TheVariants.{Symbol}
use Rattle.smt_meaning.specs.declared.clauses.Summand.{Summand}
use Rattle.smt_meaning.specs.declared.clauses.Atom.{Atom}
use Rattle.smt_meaning.specs.declared.clauses.Atom.TheVariants.{AtMost}
use Rattle.smt_meaning.specs.declared.reports.RangeSeen.{RangeSeen}
use Rattle.smt_meaning.specs.declared.reports.RangeSeen.TheVariants.{Coefficient, Pair, Argument, Step, Model}
use Rattle.smt_meaning.specs.Term.{Tree, Trees, node, fits, number_of, value}
use Rattle.smt_meaning.specs.TreeShape.{place_of}
use Rattle.smt_meaning.specs.Parts.{IsOneOf}
use Rattle.smt_meaning.specs.Interpretation.{meaning, AreTablesFor}
use Rattle.smt_meaning.specs.Stack.{Frame, signature_of, Holds}
use Rattle.smt_meaning.specs.Linear.{Form, linear_form, leaves, folding_fits}
use Rattle.smt_meaning.specs.Comparisons.{pair_fits, compared_fits}
use Rattle.smt_meaning.specs.CheckAtoms.{IsPartOfStack, IsIntPart, IsLeaf, IsBoundOf, grid_sum}

-- ---- folding

-- folding the part, or a pair that it compares, leaves the range
pub record LeavesInPart (ts : List Tree) (frames : List Frame) (place : ℕ) : Type 0 where
  pub tree : Tree
  pub part : IsPartOfStack frames tree
  pub place_is : place_of tree ts ≡ place
  pub leaves : (folding_fits ts tree ≡ false) ⊎ (compared_fits ts (signature_of frames) tree ≡ false)

-- folding the difference of the two Int parts leaves the range
pub record LeavesInPair (ts : List Tree) (frames : List Frame) (s t : ℕ) : Type 0 where
  pub left : Tree
  pub right : Tree
  pub left_part : IsIntPart ts frames left s
  pub right_part : IsIntPart ts frames right t
  pub leaves : pair_fits ts left right ≡ false

-- ---- values

-- the variable of the term has this value
pub record HasValue (g : Grid) (term : ℕ) (x : Ratio) : Type 0 where
  pub within : variable_of g.columns term < length g.columns
  pub value : SameNumber (value_at g (variable_of g.columns term)) x

-- the value of a form, where w gives each term its value
abbrev pub sum_at : (ℕ → ℤ) → List Summand → ℤ
sum_at w [] = pos 0
sum_at w (p ∷ ps) = (p.coefficient *ℤ w p.term) +ℤ sum_at w ps

abbrev pub form_at : (ℕ → ℤ) → Form → ℤ
form_at w f = sum_at w f.sum +ℤ f.constant

-- an argument of sort Int of an application of a declared symbol
pub record IsIntArgument (ts : List Tree) (frames : List Frame) (t : Tree) (place : ℕ) : Type 0 where
  pub symbol : ℕ
  pub arguments : Trees
  pub application : IsPartOfStack frames (node (Symbol symbol) arguments)
  pub among : IsOneOf t arguments
  pub int : IsIntPart ts frames t place

-- the grid gives the leaves of the argument whole values, at which its form has a value past the range
pub record LeavesInArgument (ts : List Tree) (frames : List Frame) (sums : List (List GridSummand)) (Is : Atom → Type 0) (place : ℕ) (g : Grid) : Type 0 where
  pub tree : Tree
  pub argument : IsIntArgument ts frames tree place
  pub grid : IsSoundGrid sums (IsBoundOf Is) g
  pub within : All WithinBounds g.columns
  pub numbers : ℕ → ℤ
  pub values : All (λ (t : Tree). HasValue g (place_of t ts) (whole (numbers (place_of t ts)))) (leaves tree)
  pub outside : is_in_range (form_at numbers (linear_form ts tree)) ≡ false

-- each assertion is true under the tables, the grid gives the leaves their values under them, and a number of the part's value leaves the range
pub record LeavesInModel (ts : List Tree) (frames : List Frame) (sums : List (List GridSummand)) (Is : Atom → Type 0) (i : List Table) (place : ℕ) (g : Grid) : Type 0 where
  pub tree : Tree
  pub part : IsPartOfStack frames tree
  pub place_is : place_of tree ts ≡ place
  pub tables : AreTablesFor (signature_of frames) i
  pub holds : Holds (meaning i) frames
  pub outside : fits (meaning i) tree ≡ false
  pub grid : IsSoundGrid sums (IsBoundOf Is) g
  pub values : (t : Tree) (p : ℕ) → IsIntPart ts frames t p → IsLeaf ts frames p → HasValue g p (whole (number_of (value (meaning i) t)))

-- ---- steps

-- the bound that waits to be taken in is on an atom
pub record IsOnAtom (Is : Atom → Type 0) (p : Pending) : Type 0 where
  pub terms : List Summand
  pub atom : Is (AtMost terms p.number)
  pub sum_is : p.sum ≡ grid_sum terms

-- the next step of the grid leaves the range
pub record LeavesInStep (ts : List Tree) (frames : List Frame) (sums : List (List GridSummand)) (Is : Atom → Type 0) (g : Grid) : Type 0 where
  pub grid : IsSoundGrid sums (IsBoundOf Is) g
  pub pending : (p : Pending) → g.pending ≡ Some p → IsOnAtom Is p
  pub next : NextFails g

-- ---- any of these, where the variables have these sums

abbrev pub LeavesRange : List Tree → List Frame → List (List GridSummand) → (Atom → Type 0) → RangeSeen → Type 0
LeavesRange ts frames sums Is (Coefficient t) = LeavesInPart ts frames t
LeavesRange ts frames sums Is (Pair s t) = LeavesInPair ts frames s t
LeavesRange ts frames sums Is (Argument t g) = LeavesInArgument ts frames sums Is t g
LeavesRange ts frames sums Is (Step g) = LeavesInStep ts frames sums Is g
LeavesRange ts frames sums Is (Model i t g) = LeavesInModel ts frames sums Is i t g
