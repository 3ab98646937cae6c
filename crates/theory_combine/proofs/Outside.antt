-- A model in which a number leaves the range, over the atoms of the check.
use Rattle.std.proofs.Common.{List, Contains}
use Rattle.std.proofs.lemmas.List.Elements.{All-contains}
use Rattle.std.specs.Prelude.{ℕ, Option}
use Rattle.fraction128.specs.declared.Summand.{Summand as GridSummand}
use Rattle.fraction128.specs.declared.Grid.{Grid}
use Rattle.fraction128.specs.declared.Line.{Line}
use Rattle.smt_meaning.specs.declared.values.Table.{Table}
use Rattle.smt_meaning.specs.declared.clauses.Atom.{Atom}
use Rattle.smt_meaning.specs.declared.reports.RangeSeen.{RangeSeen}
use Rattle.smt_meaning.specs.StackCommand.{Stack}
use Rattle.smt_meaning.specs.Ranges.{LeavesInModel}
use Rattle.smt_laws.specs.Flat.{flat}
use Rattle.theory_combine.specs.Shown.{AreShown, IsOfCheck}
use Rattle.theory_combine.proofs.Branching.{grid_over}

pub model_left : (s : Stack) (sums : List (List GridSummand)) (rows : List Line) (left : Option RangeSeen) (table : List Atom) → AreShown s sums rows left table → (tables : List Table) (place : ℕ) (g : Grid)
    → LeavesInModel s.trees (flat s.frames) sums (Contains table) tables place g → LeavesInModel s.trees (flat s.frames) sums (IsOfCheck s rows) tables place g
model_left s sums rows left table shown tables place g h = record {
  tree = h.tree;
  part = h.part;
  place_is = h.place_is;
  tables = h.tables;
  holds = h.holds;
  outside = h.outside;
  grid = grid_over (Contains table) (IsOfCheck s rows) (λ a c. All-contains (IsOfCheck s rows) table a shown.atoms c) sums g h.grid;
  values = h.values;
}
