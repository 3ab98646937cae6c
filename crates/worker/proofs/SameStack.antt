-- What a check shows of a stack, where other levels have the same declarations and assertions.
use Rattle.std.proofs.Common.{◌≡◌, false, inl, inr, ℕ, List, [], ◌∷◌, All, Contains, subst, sym, ap, ◌∙◌}
use Rattle.std.specs.Prelude.{ℤ, Some, flat_map, neg_ℤ}
use Rattle.std.proofs.lemmas.List.{append-nil}
use Rattle.std.proofs.lemmas.List.Elements.{All-weaker}
use Rattle.fraction128.specs.declared.Summand.{Summand as GridSummand}
use Rattle.fraction128.specs.declared.Grid.{Grid}
use Rattle.fraction128.specs.declared.Line.{Line}
use Rattle.fraction128.specs.declared.ratio.Ratio.{Ratio}
use Rattle.fraction128.specs.Lines.{IsSoundGrid, IsRowIn}
use Rattle.smt_meaning.specs.declared.values.Sort.TheVariants.{Int as Ints}
use Rattle.smt_meaning.specs.declared.values.Table.{Table}
use Rattle.smt_meaning.specs.declared.clauses.Atom.{Atom}
use Rattle.smt_meaning.specs.declared.clauses.Atom.TheVariants.{AtMost}
use Rattle.smt_meaning.specs.declared.reports.RangeSeen.{RangeSeen}
use Rattle.smt_meaning.specs.declared.reports.RangeSeen.TheVariants.{Coefficient, Pair, Argument, Step, Model}
use Rattle.smt_meaning.specs.Declaration.{Declaration}
use Rattle.smt_meaning.specs.Term.{Tree}
use Rattle.smt_meaning.specs.Signature.{tree_sort}
use Rattle.smt_meaning.specs.Interpretation.{AreTablesFor, meaning}
use Rattle.smt_meaning.specs.Comparisons.{compared_fits}
use Rattle.smt_meaning.specs.Stack.{Frame, signature_of, assertions_of, Satisfies}
use Rattle.smt_meaning.specs.Atoms.{pair_atoms, atoms_of, stack_atoms, stack_atoms_are}
use Rattle.smt_meaning.specs.Boxes.{IsInBox, asserted_atoms, said_atoms, conjuncts, term_at_most, negation_at_most}
use Rattle.smt_meaning.specs.CheckAtoms.{IsPartOfStack, IsIntPart, IsLeaf, ComparesParts, BoundsInBox, IsFirstAtom, IsBoundOf, IsStanding, IsReached, IsBranch, WithBranch, WithBranches, EachIsBranch, IsCheckAtom, AreBranches, IsKnownSum, AreCheckSums}
use Rattle.smt_meaning.specs.Report.{IsPastRange}
use Rattle.search_port.proofs.Pivots.{grid_by, row_by, bound_by}
use Rattle.smt_meaning.specs.Ranges.{LeavesInPart, LeavesInPair, IsIntArgument, LeavesInArgument, LeavesInModel, IsOnAtom, LeavesInStep, LeavesRange}

-- ---- more atoms

module _ (Is Js : Atom → Type 0) (more : (a : Atom) → Is a → Js a) (sums : List (List GridSummand)) where
  pub grid_over : (g : Grid) → IsSoundGrid sums (IsBoundOf Is) g → IsSoundGrid sums (IsBoundOf Js) g
  grid_over g h = subst (λ xs. IsSoundGrid xs (IsBoundOf Js) g) (append-nil sums) (grid_by (IsBoundOf Is) (IsBoundOf Js) (bound_by Is Js more) sums [] g h)

  row_over : (l : Line) → IsRowIn sums (IsBoundOf Is) l → IsRowIn sums (IsBoundOf Js) l
  row_over l h = subst (λ xs. IsRowIn xs (IsBoundOf Js) l) (append-nil sums) (row_by (IsBoundOf Is) (IsBoundOf Js) (bound_by Is Js more) sums [] l h)

module _ (Is Js : Atom → Type 0) (more : (a : Atom) → Is a → Js a) where
  with_branch_by : (l : Line) (a : Atom) → WithBranch Is l a → WithBranch Js l a
  with_branch_by l a (inl h) = inl (more a h)
  with_branch_by l a (inr h) = inr h

with_branches_by : (Is Js : Atom → Type 0) → ((a : Atom) → Is a → Js a) → (ls : List Line) (a : Atom) → WithBranches Is ls a → WithBranches Js ls a
with_branches_by Is Js more [] a h = more a h
with_branches_by Is Js more (l ∷ ls) a h = with_branches_by (WithBranch Is l) (WithBranch Js l) (with_branch_by Is Js more l) ls a h

-- ---- parts by other levels

same_bounds : (ts : List Tree) (fs gs : List Frame) → signature_of fs ≡ signature_of gs → assertions_of fs ≡ assertions_of gs → asserted_atoms ts fs ≡ asserted_atoms ts gs
same_bounds ts fs gs signature assertions =
    ap (λ (ds : List Declaration). flat_map (said_atoms ts ds) (flat_map conjuncts (assertions_of fs))) signature
    ∙ ap (λ (us : List Tree). flat_map (said_atoms ts (signature_of gs)) (flat_map conjuncts us)) assertions

standing_by : (ts : List Tree) (fs gs : List Frame) → signature_of fs ≡ signature_of gs → assertions_of fs ≡ assertions_of gs → (standing : List Atom) → IsStanding ts fs standing → IsStanding ts gs standing
standing_by ts fs gs signature assertions standing (inl (a, asserted, e)) = inl (a, subst (λ (xs : List Atom). Contains xs a) (same_bounds ts fs gs signature assertions) asserted, e)
standing_by ts fs gs signature assertions standing (inr (t, part, clause)) =
    inr (t, record { assertion = part.assertion; asserted = subst (λ (us : List Tree). Contains us part.assertion) assertions part.asserted; part = part.part }, clause)

reached_by : (ts : List Tree) (fs gs : List Frame) → signature_of fs ≡ signature_of gs → assertions_of fs ≡ assertions_of gs → (t : ℕ) (x : Ratio) → IsReached ts fs t x → IsReached ts gs t x
reached_by ts fs gs signature assertions t x h =
    record { values = h.values; positive = h.positive; meets = λ standing s. h.meets standing (standing_by ts gs fs (sym signature) (sym assertions) standing s); value = h.value }

module _ (ts : List Tree) (fs gs : List Frame) (signature : signature_of fs ≡ signature_of gs) (assertions : assertions_of fs ≡ assertions_of gs) where
  part_by : (t : Tree) → IsPartOfStack fs t → IsPartOfStack gs t
  part_by t h = record { assertion = h.assertion; asserted = subst (λ (us : List Tree). Contains us h.assertion) assertions h.asserted; part = h.part }

  int_part_by : (t : Tree) (p : ℕ) → IsIntPart ts fs t p → IsIntPart ts gs t p
  int_part_by t p h = record { part = part_by t h.part; int = subst (λ (ds : List Declaration). tree_sort ds t ≡ Some Ints) signature h.int; place_is = h.place_is }

  leaf_by : (p : ℕ) → IsLeaf ts fs p → IsLeaf ts gs p
  leaf_by p h = record { leaf = h.leaf; part = int_part_by h.leaf p h.part; is = h.is }

  compares_by : (a : Atom) → ComparesParts ts fs a → ComparesParts ts gs a
  compares_by a h = record {
    left = h.left;
    right = h.right;
    left_part = part_by h.left h.left_part;
    right_part = part_by h.right h.right_part;
    one_sort = subst (λ (ds : List Declaration). tree_sort ds h.left ≡ tree_sort ds h.right) signature h.one_sort;
    among = subst (λ (ds : List Declaration). Contains (pair_atoms ts ds h.left h.right) a) signature h.among;
  }

  same_asserted : asserted_atoms ts fs ≡ asserted_atoms ts gs
  same_asserted = same_bounds ts fs gs signature assertions

  box_by : (t : ℕ) (k : ℤ) → IsInBox ts fs t k → IsInBox ts gs t k
  box_by t k h = record {
    least = h.least;
    greatest = h.greatest;
    has_least = subst (λ (xs : List Atom). Contains xs (negation_at_most t (neg_ℤ h.least))) same_asserted h.has_least;
    has_greatest = subst (λ (xs : List Atom). Contains xs (term_at_most t h.greatest)) same_asserted h.has_greatest;
    above = λ m c. h.above m (subst (λ (xs : List Atom). Contains xs (negation_at_most t m)) (sym same_asserted) c);
    below = λ m c. h.below m (subst (λ (xs : List Atom). Contains xs (term_at_most t m)) (sym same_asserted) c);
  }

  bounds_by : (a : Atom) → BoundsInBox ts fs a → BoundsInBox ts gs a
  bounds_by a h = record { term = h.term; number = h.number; leaf = leaf_by h.term h.leaf; in_box = box_by h.term h.number h.in_box; among = h.among }

  same_atoms : stack_atoms ts fs ≡ stack_atoms ts gs
  same_atoms =
      stack_atoms_are ts fs
      ∙ ap (λ (ds : List Declaration). flat_map (atoms_of ts ds) (assertions_of fs)) signature
      ∙ ap (λ (us : List Tree). flat_map (atoms_of ts (signature_of gs)) us) assertions
      ∙ sym (stack_atoms_are ts gs)

  first_by : (a : Atom) → IsFirstAtom ts fs a → IsFirstAtom ts gs a
  first_by a (inl h) = inl (subst (λ (xs : List Atom). Contains xs a) same_atoms h)
  first_by a (inr (inl h)) = inr (inl (compares_by a h))
  first_by a (inr (inr h)) = inr (inr (bounds_by a h))

  pub check_atom_by : (branches : List Line) (a : Atom) → IsCheckAtom ts fs branches a → IsCheckAtom ts gs branches a
  check_atom_by branches a h = with_branches_by (IsFirstAtom ts fs) (IsFirstAtom ts gs) first_by branches a h

  known_by : (ps : List GridSummand) → IsKnownSum ts fs ps → IsKnownSum ts gs ps
  known_by ps (IsKnownSum.of_leaf t h e) = IsKnownSum.of_leaf t (leaf_by t h) e
  known_by ps (IsKnownSum.of_atom qs k h e) = IsKnownSum.of_atom qs k (first_by (AtMost qs k) h) e

  pub sums_by : (sums : List (List GridSummand)) → AreCheckSums ts fs sums → AreCheckSums ts gs sums
  sums_by sums h = record { apart = h.apart; filled = h.filled; known = All-weaker (IsKnownSum ts fs) (IsKnownSum ts gs) known_by sums h.known }

  module _ (sums : List (List GridSummand)) where
    branch_by : (Is Js : Atom → Type 0) → ((a : Atom) → Is a → Js a) → (l : Line) → IsBranch ts fs sums Is l → IsBranch ts gs sums Js l
    branch_by Is Js more l h = record {
      term = h.term;
      floor = h.floor;
      is_leaf = leaf_by h.term h.is_leaf;
      row = row_over Is Js more sums l h.row;
      branches = h.branches;
      reached = reached_by ts fs gs signature assertions h.term h.branches.basic.column.value h.reached;
    }

    each_by : (Is Js : Atom → Type 0) → ((a : Atom) → Is a → Js a) → (ls : List Line) → EachIsBranch ts fs sums Is ls → EachIsBranch ts gs sums Js ls
    each_by Is Js more [] h = tt
    each_by Is Js more (l ∷ ls) h = (branch_by Is Js more l h.0, each_by (WithBranch Is l) (WithBranch Js l) (with_branch_by Is Js more l) ls h.1)

    pub branches_by : (branches : List Line) → AreBranches ts fs sums branches → AreBranches ts gs sums branches
    branches_by branches h = each_by (IsFirstAtom ts fs) (IsFirstAtom ts gs) first_by branches h

-- ---- where a number leaves the range

module _ (ts : List Tree) (fs gs : List Frame) (signature : signature_of fs ≡ signature_of gs) (assertions : assertions_of fs ≡ assertions_of gs) (Is Js : Atom → Type 0) (more : (a : Atom) → Is a → Js a)
    (sums : List (List GridSummand)) where
  in_part_by : (place : ℕ) → LeavesInPart ts fs place → LeavesInPart ts gs place
  in_part_by place h = record {
    tree = h.tree;
    part = part_by ts fs gs signature assertions h.tree h.part;
    place_is = h.place_is;
    leaves = elim h.leaves [ inl e ↦ inl e | inr e ↦ inr (subst (λ (ds : List Declaration). compared_fits ts ds h.tree ≡ false) signature e) ];
  }

  in_pair_by : (s t : ℕ) → LeavesInPair ts fs s t → LeavesInPair ts gs s t
  in_pair_by s t h = record {
    left = h.left;
    right = h.right;
    left_part = int_part_by ts fs gs signature assertions h.left s h.left_part;
    right_part = int_part_by ts fs gs signature assertions h.right t h.right_part;
    leaves = h.leaves;
  }

  int_argument_by : (t : Tree) (place : ℕ) → IsIntArgument ts fs t place → IsIntArgument ts gs t place
  int_argument_by t place h = record {
    symbol = h.symbol;
    arguments = h.arguments;
    application = part_by ts fs gs signature assertions _ h.application;
    among = h.among;
    int = int_part_by ts fs gs signature assertions t place h.int;
  }

  in_argument_by : (place : ℕ) (g : Grid) → LeavesInArgument ts fs sums Is place g → LeavesInArgument ts gs sums Js place g
  in_argument_by place g h = record {
    tree = h.tree;
    argument = int_argument_by h.tree place h.argument;
    grid = grid_over Is Js more sums g h.grid;
    within = h.within;
    numbers = h.numbers;
    values = h.values;
    outside = h.outside;
  }

  in_model_by : (i : List Table) (place : ℕ) (g : Grid) → LeavesInModel ts fs sums Is i place g → LeavesInModel ts gs sums Js i place g
  in_model_by i place g h = record {
    tree = h.tree;
    part = part_by ts fs gs signature assertions h.tree h.part;
    place_is = h.place_is;
    tables = subst (λ (ds : List Declaration). AreTablesFor ds i) signature h.tables;
    holds = subst (λ (us : List Tree). All (Satisfies (meaning i)) us) assertions h.holds;
    outside = h.outside;
    grid = grid_over Is Js more sums g h.grid;
    values = λ t p part leaf. h.values t p (int_part_by ts gs fs (sym signature) (sym assertions) t p part) (leaf_by ts gs fs (sym signature) (sym assertions) p leaf);
  }

  in_step_by : (g : Grid) → LeavesInStep ts fs sums Is g → LeavesInStep ts gs sums Js g
  in_step_by g h = record {
    grid = grid_over Is Js more sums g h.grid;
    pending = λ p e. (let o : IsOnAtom Is p = h.pending p e in record { terms = o.terms; atom = more (AtMost o.terms p.number) o.atom; sum_is = o.sum_is });
    next = h.next;
  }

  leaves_by : (seen : RangeSeen) → LeavesRange ts fs sums Is seen → LeavesRange ts gs sums Js seen
  leaves_by (Coefficient t) h = in_part_by t h
  leaves_by (Pair s t) h = in_pair_by s t h
  leaves_by (Argument t g) h = in_argument_by t g h
  leaves_by (Step g) h = in_step_by g h
  leaves_by (Model i t g) h = in_model_by i t g h

pub range_by : (ts : List Tree) (fs gs : List Frame) → signature_of fs ≡ signature_of gs → assertions_of fs ≡ assertions_of gs → (sums : List (List GridSummand)) (branches : List Line) (seen : RangeSeen)
    → LeavesRange ts fs sums (IsCheckAtom ts fs branches) seen → LeavesRange ts gs sums (IsCheckAtom ts gs branches) seen
range_by ts fs gs signature assertions sums branches seen h =
    leaves_by ts fs gs signature assertions (IsCheckAtom ts fs branches) (IsCheckAtom ts gs branches) (check_atom_by ts fs gs signature assertions branches) sums seen h

pub past_by : (ts : List Tree) (fs gs : List Frame) → signature_of fs ≡ signature_of gs → assertions_of fs ≡ assertions_of gs → (branches : List Line) (seen : RangeSeen)
    → IsPastRange ts fs branches seen → IsPastRange ts gs branches seen
past_by ts fs gs signature assertions branches seen h = record {
  sums = h.sums;
  known = sums_by ts fs gs signature assertions h.sums h.known;
  are_branches = branches_by ts fs gs signature assertions h.sums branches h.are_branches;
  leaves = range_by ts fs gs signature assertions h.sums branches seen h.leaves;
}
