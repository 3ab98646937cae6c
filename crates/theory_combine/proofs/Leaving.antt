-- Arguments whose values are past the range.
use Rattle.std.proofs.Common.{◌≡◌, ◌∙◌, ℕ, ◌<◌, Bool, true, List, length, ℤ, pos, ◌*ℤ◌, All, Contains, sym, ap, subst}
use Rattle.std.specs.Prelude.{Option, slice_index_or}
use Rattle.std.proofs.lemmas.List.Elements.{All-weaker, All-contains}
use Rattle.fraction128.specs.Number.{whole}
use Rattle.fraction128.specs.declared.Grid.{Grid}
use Rattle.fraction128.specs.declared.Line.{Line}
use Rattle.fraction128.specs.Grid.{WithinBounds}
use Rattle.fraction128.specs.Lines.{IsSoundGrid}
use Rattle.smt_meaning.specs.declared.terms.Head.{Head}
use Rattle.smt_meaning.specs.declared.terms.Head.TheVariants.{Symbol}
use Rattle.smt_meaning.specs.declared.clauses.Atom.{Atom}
use Rattle.smt_meaning.specs.declared.reports.RangeSeen.{RangeSeen}
use Rattle.smt_meaning.specs.Term.{Tree, tree_at}
use Rattle.smt_meaning.specs.TreeShape.{place_of}
use Rattle.smt_meaning.specs.Nodes.{pick}
use Rattle.smt_meaning.specs.Linear.{leaves}
use Rattle.smt_meaning.specs.StackCommand.{Stack}
use Rattle.smt_meaning.specs.CheckAtoms.{IsPartOfStack, IsBoundOf}
use Rattle.smt_meaning.specs.Ranges.{HasValue, LeavesInArgument}
use Rattle.term_store.specs.Terms.{tree_with, AreDifferent}
use Rattle.smt_laws.specs.Flat.{flat, FlatSaysTheSame}
use Rattle.first_clauses.proofs.Parts.{picked_is}
use Rattle.model_eval.specs.Walk.{is_marked}
use Rattle.simplex.specs.Sums.{HaveOwnSums}
use Rattle.sum_bounds.specs.Bounds.{State, leaf_values}
use Rattle.sum_bounds.proofs.Parts.{has_variable}
use Rattle.bound_log.specs.Values.{numbers_of}
use Rattle.bound_log.specs.Told as Told
use Rattle.bound_log.specs.Pending.{plain_grid}
use Rattle.theory_combine.specs.Argument.{HasWhole, IsPastInt, IsPastArgument}
use Rattle.theory_combine.specs.Shown.{AreOfAssertions, AreShown, IsOfCheck}
use Rattle.theory_combine.proofs.Branching.{grid_over}
use Rattle.theory_combine.proofs.Comparing.{part, int_part}

-- ---- values

number_same : (n : ℤ) (d : ℕ) → d ≡ 1 → n *ℤ pos 1 ≡ n *ℤ pos d
number_same n d e = ap (λ k. n *ℤ pos k) (sym e)

has_value : (s : Told.State) → HaveOwnSums s.bounds.columns → (term : ℕ) → HasWhole s.bounds term → HasValue (plain_grid s) term (whole (numbers_of s.bounds term))
has_value s apart term h = record {
  within = (has_variable s.bounds.columns term apart h.leaf).0;
  value = number_same (leaf_values s.bounds term).numerator (leaf_values s.bounds term).denominator h.is_whole;
}

-- ---- arguments

module _ (flat_law : FlatSaysTheSame) (s : Stack) (marks : List Bool) (of_assertions : AreOfAssertions s marks) (different : AreDifferent s.trees) (b : State) where
  -- one of the arguments of a marked application
  pub past_argument : (application : ℕ) (symbol : ℕ) (is : List ℕ) (h : Head) (k d : ℕ) → is_marked marks application ≡ true → tree_at s.trees application ≡ tree_with s.trees h is → h ≡ Symbol symbol → k < length is
      → IsPastInt s marks b (slice_index_or is k d) → IsPastArgument s b (slice_index_or is k d)
  past_argument application symbol is h k d marked tree head less int =
      let p = slice_index_or is k d in
      record {
        argument = record {
          symbol = symbol;
          arguments = pick s.trees is;
          application = subst (IsPartOfStack (flat s.frames)) (tree ∙ ap (λ (g : Head). tree_with s.trees g is) head) (part flat_law s marks of_assertions different application marked);
          among = picked_is s.trees is k d less;
          int = int_part flat_law s marks of_assertions different p int.within int.marked int.is_int;
        };
        whole = int.whole;
        past = int.past;
      }

-- of the check
pub argument_left : (s : Stack) (b : Told.State) (rows : List Line) (left : Option RangeSeen) (table : List Atom) → AreShown s (Told.column_sums b) rows left table → (p : ℕ) (g : Grid) → HaveOwnSums b.bounds.columns → g ≡ plain_grid b
    → IsSoundGrid (Told.column_sums b) (IsBoundOf (Contains table)) g → All WithinBounds g.columns → IsPastArgument s b.bounds p → LeavesInArgument s.trees (flat s.frames) (Told.column_sums b) (IsOfCheck s rows) p g
argument_left s b rows left table shown p g apart exact sound within h = record {
  tree = tree_at s.trees p;
  argument = h.argument;
  grid = grid_over (Contains table) (IsOfCheck s rows) (λ a c. All-contains (IsOfCheck s rows) table a shown.atoms c) (Told.column_sums b) g sound;
  within = within;
  numbers = numbers_of b.bounds;
  values =
      subst (λ (x : Grid). All (λ (t : Tree). HasValue x (place_of t s.trees) (whole (numbers_of b.bounds (place_of t s.trees)))) (leaves (tree_at s.trees p))) (sym exact)
      (All-weaker (λ (t : Tree). HasWhole b.bounds (place_of t s.trees)) (λ (t : Tree). HasValue (plain_grid b) (place_of t s.trees) (whole (numbers_of b.bounds (place_of t s.trees))))
      (λ t w. has_value b apart (place_of t s.trees) w) (leaves (tree_at s.trees p)) h.whole);
  outside = h.past;
}
