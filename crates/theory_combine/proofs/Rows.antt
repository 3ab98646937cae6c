-- The row of a branch more.
use Rattle.std.proofs.Common.{◌≡◌, ℕ, Bool, ℤ, List, [], ◌∷◌, ◌++◌, Contains, refl, sym, subst, arith}
use Rattle.std.specs.Prelude.{Option, Some, None}
use Rattle.fraction128.specs.declared.ratio.Ratio.{Ratio}
use Rattle.fraction128.specs.declared.Member.{Member}
use Rattle.std.proofs.lemmas.List.Elements.{All-weaker, All-contains}
use Rattle.fraction128.specs.declared.Summand.{Summand as GridSummand}
use Rattle.fraction128.specs.declared.Line.{Line}
use Rattle.fraction128.specs.Lines.{IsRowIn, IsBranchLine}
use Rattle.smt_meaning.specs.declared.clauses.Atom.{Atom}
use Rattle.smt_meaning.specs.declared.reports.RangeSeen.{RangeSeen}
use Rattle.smt_meaning.specs.StackCommand.{Stack}
use Rattle.smt_meaning.specs.Boxes.{term_at_most}
use Rattle.smt_meaning.specs.CheckAtoms.{IsFirstAtom, IsBoundOf, IsReached, IsBranch}
use Rattle.term_store.specs.Terms.{AreDifferent}
use Rattle.smt_laws.specs.Flat.{flat, FlatSaysTheSame}
use Rattle.theory_combine.specs.Shown.{AreOfAssertions, AreShown, IsMarkedLeaf, IsOfCheck}
use Rattle.theory_combine.proofs.Branching.{each_more, row_over, with_more, with_newest}
use Rattle.theory_combine.proofs.Comparing.{leaf_part}

module _ (flat_law : FlatSaysTheSame) (s : Stack) (marks : List Bool) (of_assertions : AreOfAssertions s marks) (different : AreDifferent s.trees) (sums : List (List GridSummand)) (rows : List Line) (left : Option RangeSeen) (table : List Atom) (shown : AreShown s sums rows left table) (term : ℕ) (floor : ℤ) (leaf : IsMarkedLeaf s marks term) (l : Line) (branches : IsBranchLine term floor l) (row : IsRowIn sums (IsBoundOf (Contains table)) l)
    (x : Ratio) (value : (b : Member) → l.basic ≡ Some b → b.column.value ≡ x) (reached : IsReached s.trees (flat s.frames) term x) where
  is_branch : IsBranch s.trees (flat s.frames) sums (IsOfCheck s rows) l
  is_branch = record {
    term = term;
    floor = floor;
    is_leaf = leaf_part flat_law s marks of_assertions different term leaf;
    row = row_over (Contains table) (IsOfCheck s rows) (λ a c. All-contains (IsOfCheck s rows) table a shown.atoms c) sums l row;
    branches = branches;
    reached = subst (IsReached s.trees (flat s.frames) term) (sym (value branches.basic branches.is_basic)) reached;
  }

  pub shown_more : AreShown s sums (rows ++ l ∷ []) None table
  shown_more = record {
    sums_known = shown.sums_known;
    branches = each_more s.trees (flat s.frames) sums (IsFirstAtom s.trees (flat s.frames)) rows l shown.branches is_branch;
    atoms = All-weaker (IsOfCheck s rows) (IsOfCheck s (rows ++ l ∷ [])) (λ a h. with_more (IsFirstAtom s.trees (flat s.frames)) rows l a h) table shown.atoms;
    seen = tt;
    leaves = shown.leaves;
  }

  pub side_of_check : IsOfCheck s (rows ++ l ∷ []) (term_at_most term floor)
  side_of_check =
      with_newest (IsFirstAtom s.trees (flat s.frames)) rows l (term_at_most term floor) (record { term = term; floor = floor; branches = branches; among = (0, omega arith, refl) })
