-- One branch more.
use Rattle.std.proofs.Common.{List, [], ◌∷◌, ◌++◌, inl, inr, subst}
use Rattle.std.proofs.lemmas.List.{append-nil}
use Rattle.fraction128.specs.declared.Summand.{Summand as GridSummand}
use Rattle.fraction128.specs.declared.Line.{Line}
use Rattle.fraction128.specs.declared.Grid.{Grid}
use Rattle.fraction128.specs.Lines.{Bounding, IsSoundGrid, IsRowIn}
use Rattle.smt_meaning.specs.declared.clauses.Atom.{Atom}
use Rattle.smt_meaning.specs.declared.reports.RangeSeen.{RangeSeen}
use Rattle.smt_meaning.specs.declared.reports.RangeSeen.TheVariants.{Coefficient, Pair, Argument, Step, Model}
use Rattle.smt_meaning.specs.Term.{Tree}
use Rattle.smt_meaning.specs.Stack.{Frame}
use Rattle.smt_meaning.specs.CheckAtoms.{IsBoundOf, IsBranch, IsOfBranch, WithBranch, WithBranches, EachIsBranch}
use Rattle.smt_meaning.specs.Ranges.{LeavesRange}
use Rattle.search_port.proofs.Pivots.{grid_by, row_by, bound_by}

-- ---- lists of branches

-- an atom stays one
pub with_more : (Is : Atom → Type 0) (ls : List Line) (l : Line) (a : Atom) → WithBranches Is ls a → WithBranches Is (ls ++ l ∷ []) a
with_more Is [] l a h = inl h
with_more Is (m ∷ ls) l a h = with_more (WithBranch Is m) ls l a h

-- an atom before any branch is one
pub with_none : (Is : Atom → Type 0) (ls : List Line) (a : Atom) → Is a → WithBranches Is ls a
with_none Is [] a h = h
with_none Is (m ∷ ls) a h = with_none (WithBranch Is m) ls a (inl h)

-- an atom of the newest branch is one
pub with_newest : (Is : Atom → Type 0) (ls : List Line) (l : Line) (a : Atom) → IsOfBranch l a → WithBranches Is (ls ++ l ∷ []) a
with_newest Is [] l a h = inr h
with_newest Is (m ∷ ls) l a h = with_newest (WithBranch Is m) ls l a h

-- the newest is a branch over the atoms with those before it
pub each_more : (ts : List Tree) (frames : List Frame) (sums : List (List GridSummand)) (Is : Atom → Type 0) (ls : List Line) (l : Line) → EachIsBranch ts frames sums Is ls
    → IsBranch ts frames sums (WithBranches Is ls) l → EachIsBranch ts frames sums Is (ls ++ l ∷ [])
each_more ts frames sums Is [] l each one = (one, tt)
each_more ts frames sums Is (m ∷ ls) l each one = (each.0, each_more ts frames sums (WithBranch Is m) ls l each.1 one)

-- ---- grids and rows over more atoms

module _ (P Q : Atom → Type 0) (f : (a : Atom) → P a → Q a) (sums : List (List GridSummand)) where
  pub grid_over : (g : Grid) → IsSoundGrid sums (IsBoundOf P) g → IsSoundGrid sums (IsBoundOf Q) g
  grid_over g h = subst (λ xs. IsSoundGrid xs (IsBoundOf Q) g) (append-nil sums) (grid_by (IsBoundOf P) (IsBoundOf Q) (bound_by P Q f) sums [] g h)

  pub row_over : (l : Line) → IsRowIn sums (IsBoundOf P) l → IsRowIn sums (IsBoundOf Q) l
  row_over l h = subst (λ xs. IsRowIn xs (IsBoundOf Q) l) (append-nil sums) (row_by (IsBoundOf P) (IsBoundOf Q) (bound_by P Q f) sums [] l h)

-- ---- with more variables

module _ (sums more : List (List GridSummand)) where
  pub grid_longer : (B : Bounding) (g : Grid) → IsSoundGrid sums B g → IsSoundGrid (sums ++ more) B g
  grid_longer B g h = grid_by B B (λ sum side k b. b) sums more g h

  row_longer : (B : Bounding) (l : Line) → IsRowIn sums B l → IsRowIn (sums ++ more) B l
  row_longer B l h = row_by B B (λ sum side k b. b) sums more l h

  pub each_longer : (ts : List Tree) (frames : List Frame) (Is : Atom → Type 0) (ls : List Line) → EachIsBranch ts frames sums Is ls → EachIsBranch ts frames (sums ++ more) Is ls
  each_longer ts frames Is [] h = tt
  each_longer ts frames Is (l ∷ ls) h = (
    record { term = h.0.term; floor = h.0.floor; is_leaf = h.0.is_leaf; row = row_longer (IsBoundOf Is) l h.0.row; branches = h.0.branches; reached = h.0.reached },
    each_longer ts frames (WithBranch Is l) ls h.1,
  )

  pub range_longer : (ts : List Tree) (frames : List Frame) (Is : Atom → Type 0) (seen : RangeSeen) → LeavesRange ts frames sums Is seen → LeavesRange ts frames (sums ++ more) Is seen
  range_longer ts frames Is (Coefficient t) h = h
  range_longer ts frames Is (Pair s t) h = h
  range_longer ts frames Is (Argument t g) h = record {
    tree = h.tree;
    argument = h.argument;
    grid = grid_longer (IsBoundOf Is) g h.grid;
    within = h.within;
    numbers = h.numbers;
    values = h.values;
    outside = h.outside;
  }
  range_longer ts frames Is (Step g) h = record { grid = grid_longer (IsBoundOf Is) g h.grid; pending = h.pending; next = h.next }
  range_longer ts frames Is (Model i t g) h = record {
    tree = h.tree;
    part = h.part;
    place_is = h.place_is;
    tables = h.tables;
    holds = h.holds;
    outside = h.outside;
    grid = grid_longer (IsBoundOf Is) g h.grid;
    values = h.values;
  }
