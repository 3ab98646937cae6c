-- Atoms that compare two parts, and foldings of parts that leave the range.
use Rattle.std.proofs.Common.{◌≡◌, ◌∙◌, ℕ, ◌<◌, ◌&&◌, Bool, true, false, List, [], ◌∷◌, Some, length, All, Contains, refl, sym, ap, ap₂, subst, inl, inr, ◌⊎◌, arith}
use Rattle.std.specs.Prelude.{Option, if◌then◌else◌}
use Rattle.std.proofs.lemmas.List.Elements.{All-nil, All-weaker}
use Rattle.fraction128.specs.declared.Line.{Line}
use Rattle.smt_meaning.specs.declared.values.Sort.{Sort}
use Rattle.smt_meaning.specs.declared.values.Sort.TheVariants.{Int as Ints}
use Rattle.smt_meaning.specs.declared.clauses.Summand.{Summand}
use Rattle.smt_meaning.specs.declared.clauses.Atom.{Atom}
use Rattle.smt_meaning.specs.declared.clauses.Atom.TheVariants.{Same}
use Rattle.smt_meaning.specs.Declaration.{Declaration}
use Rattle.smt_meaning.specs.Term.{Tree, node, tree_at}
use Rattle.smt_meaning.specs.Signature.{tree_sort, is_int}
use Rattle.smt_meaning.specs.Linear.{linear_form, form_fits, folding_fits}
use Rattle.smt_meaning.specs.Clause.{sum_places}
use Rattle.smt_meaning.specs.Comparisons.{pair_fits}
use Rattle.smt_meaning.specs.Atoms.{pair_atoms, at_most_atom}
use Rattle.smt_meaning.specs.Stack.{signature_of}
use Rattle.smt_meaning.specs.StackCommand.{Stack}
use Rattle.smt_meaning.specs.CheckAtoms.{IsPartOfStack, IsIntPart, IsLeaf, ComparesParts, IsFirstAtom}
use Rattle.smt_meaning.specs.Ranges.{LeavesInPart, LeavesInPair}
use Rattle.term_store.specs.Terms.{AreDifferent}
use Rattle.term_store.proofs.PlaceLemmas.{place_of-is}
use Rattle.search_port.specs.State.{IsInt}
use Rattle.smt_laws.specs.Flat.{flat, SaysTheSame, FlatSaysTheSame}
use Rattle.check_atoms.proofs.Marking.{part_of_part}
use Rattle.check_atoms.specs.OfStack.{bound_terms}
use Rattle.linear_forms.specs.Table.{FoldsOutside, IsOutside}
use Rattle.linear_forms.specs.Differences.{difference_fits, LeavesRangeTogether}
use Rattle.pair_bounds.specs.Pairs.{at_most_fits}
use Rattle.model_eval.specs.Walk.{is_marked}
use Rattle.theory_combine.specs.Pairs.{IsFit}
use Rattle.theory_combine.specs.Shown.{AreOfAssertions, IsOfCheck, IsOverLeaves, IsMarkedLeaf, IsToShow}
use Rattle.theory_combine.proofs.Branching.{with_none}
use Rattle.theory_combine.proofs.Marking.{at_places}

-- ---- foldings

folds_outside : (ts : List Tree) (t : Tree) → FoldsOutside ts t → folding_fits ts t ≡ false
folds_outside ts (node h us) o = ap₂ (λ a b. a && b) o.0 o.1

last_of : (a b c x : Bool) → a ≡ true → b ≡ true → c ≡ true → ((a && (b && true)) && (c && x)) ≡ x
last_of a b c x p q r = rw (p, q, r) refl

pair_unfit : (ts : List Tree) (s t : Tree) → folding_fits ts s ≡ true → folding_fits ts t ≡ true → form_fits (linear_form ts s) ≡ true → difference_fits ts s t ≡ false → pair_fits ts s t ≡ false
pair_unfit ts s t left right form e = sym (last_of (folding_fits ts s) (folding_fits ts t) (form_fits (linear_form ts s)) (pair_fits ts s t) left right form) ∙ e

-- ---- parts

module _ (flat_law : FlatSaysTheSame) (s : Stack) (marks : List Bool) (of_assertions : AreOfAssertions s marks) (different : AreDifferent s.trees) where
  same : SaysTheSame s.frames
  same = flat_law s.frames

  pub part : (p : ℕ) → is_marked marks p ≡ true → IsPartOfStack (flat s.frames) (tree_at s.trees p)
  part p marked =
      let of : IsPartOfStack s.frames (tree_at s.trees p) = of_assertions p marked in
      record { assertion = of.assertion; asserted = subst (λ (us : List Tree). Contains us of.assertion) (sym same.assertions) of.asserted; part = of.part }

  int : (p : ℕ) → tree_sort (signature_of s.frames) (tree_at s.trees p) ≡ Some Ints → IsInt s.trees (flat s.frames) p
  int p is_int = subst (λ (ds : List Declaration). tree_sort ds (tree_at s.trees p) ≡ Some Ints) (sym same.signature) is_int

  pub int_part : (p : ℕ) → p < length s.trees → is_marked marks p ≡ true → tree_sort (signature_of s.frames) (tree_at s.trees p) ≡ Some Ints → IsIntPart s.trees (flat s.frames) (tree_at s.trees p) p
  int_part p within marked is_int = record {
    part = part p marked;
    int = int p is_int;
    place_is = place_of-is (tree_at s.trees p) s.trees p different within refl;
  }

  pub leaf_part : (p : ℕ) → IsMarkedLeaf s marks p → IsLeaf s.trees (flat s.frames) p
  leaf_part p h = record { leaf = tree_at s.trees p; part = int_part p h.within h.marked h.is_int; is = h.leaf }

  -- a bound over such leaves
  pub over_marked : (sum : List Summand) → All (λ (p : Summand). IsMarkedLeaf s marks p.term) sum → All (IsLeaf s.trees (flat s.frames)) (sum_places sum)
  over_marked sum h =
      All-weaker (IsMarkedLeaf s marks) (IsLeaf s.trees (flat s.frames)) leaf_part (sum_places sum) (at_places (IsMarkedLeaf s marks) sum h)

  -- a term of whose folding a part leaves the range
  pub part_left : (place below : ℕ) → place < length s.trees → is_marked marks place ≡ true → IsOutside s.trees place below → LeavesInPart s.trees (flat s.frames) below
  part_left place below within marked o =
      let order = o.before in
      let of : IsPartOfStack (flat s.frames) (tree_at s.trees place) = part place marked in
      record {
        tree = tree_at s.trees below;
        part = record { assertion = of.assertion; asserted = of.asserted; part = part_of_part (tree_at s.trees below) (tree_at s.trees place) of.assertion o.is_part of.part };
        place_is = place_of-is (tree_at s.trees below) s.trees below different (omega (arith, order, within)) refl;
        leaves = inl (folds_outside s.trees (tree_at s.trees below) o.own);
      }

  module _ (i j : ℕ) (left : IsFit s marks i) (right : IsFit s marks j) where
    left_part : IsIntPart s.trees (flat s.frames) (tree_at s.trees i) i
    left_part = int_part i left.within left.marked left.is_int

    right_part : IsIntPart s.trees (flat s.frames) (tree_at s.trees j) j
    right_part = int_part j right.within right.marked right.is_int

    abbrev low : Atom
    low = at_most_atom s.trees (tree_at s.trees i) (tree_at s.trees j)

    abbrev high : Atom
    high = at_most_atom s.trees (tree_at s.trees j) (tree_at s.trees i)

    atoms_are : pair_atoms s.trees (signature_of (flat s.frames)) (tree_at s.trees i) (tree_at s.trees j) ≡ Same i j ∷ low ∷ high ∷ []
    atoms_are =
        ap₂ (λ (x y : ℕ). Same x y ∷ (if is_int (tree_sort (signature_of (flat s.frames)) (tree_at s.trees i)) then low ∷ high ∷ [] else [])) left_part.place_is right_part.place_is
        ∙ ap (λ (r : Option Sort). Same i j ∷ (if is_int r then low ∷ high ∷ [] else [])) left_part.int

    compares : (branches : List Line) (a : Atom) → Contains (Same i j ∷ low ∷ high ∷ []) a → IsOfCheck s branches a
    compares branches a h =
        let one : ComparesParts s.trees (flat s.frames) a = record {
          left = tree_at s.trees i;
          right = tree_at s.trees j;
          left_part = left_part.part;
          right_part = right_part.part;
          one_sort = left_part.int ∙ sym right_part.int;
          among = subst (λ (xs : List Atom). Contains xs a) (sym atoms_are) h;
        } in
        with_none (IsFirstAtom s.trees (flat s.frames)) branches a (inr (inl one))

    same_of_check : (branches : List Line) → IsOfCheck s branches (Same i j)
    same_of_check branches = compares branches (Same i j) (0, omega arith, refl)

    pub same_to_show : (branches : List Line) → IsToShow s branches (Same i j)
    same_to_show branches = record { of_check = same_of_check branches; leaves = All-nil (IsLeaf s.trees (flat s.frames)); ints = (int i left.is_int, int j right.is_int) }

    pub low_of_check : (branches : List Line) → IsOfCheck s branches low
    low_of_check branches = compares branches low (1, omega arith, refl)

    pub pair_left : form_fits (linear_form s.trees (tree_at s.trees i)) ≡ true → LeavesRangeTogether s.trees (at_most_fits s.trees) i j → LeavesInPair s.trees (flat s.frames) i j
    pair_left form t = record {
      left = tree_at s.trees i;
      right = tree_at s.trees j;
      left_part = left_part;
      right_part = right_part;
      leaves = pair_unfit s.trees (tree_at s.trees i) (tree_at s.trees j) t.left_fits t.right_fits form t.outside;
    }

    pub either_left : (below : ℕ) → IsOutside s.trees i below ⊎ IsOutside s.trees j below → LeavesInPart s.trees (flat s.frames) below
    either_left below (inl o) = part_left i below left.within left.marked o
    either_left below (inr o) = part_left j below right.within right.marked o

-- ---- what a search begins with

-- a leaf of the stack is one of the levels as one
flat_leaf : FlatSaysTheSame → (s : Stack) (p : ℕ) → IsLeaf s.trees s.frames p → IsLeaf s.trees (flat s.frames) p
flat_leaf flat_law s p h =
    let same : SaysTheSame s.frames = flat_law s.frames in
    record {
      leaf = h.leaf;
      part = record {
        part = record {
          assertion = h.part.part.assertion;
          asserted = subst (λ (us : List Tree). Contains us h.part.part.assertion) (sym same.assertions) h.part.part.asserted;
          part = h.part.part.part;
        };
        int = subst (λ (ds : List Declaration). tree_sort ds h.leaf ≡ Some Ints) (sym same.signature) h.part.int;
        place_is = h.part.place_is;
      };
      is = h.is;
    }

pub over_leaves : FlatSaysTheSame → (s : Stack) (table : List Atom) → All (λ (a : Atom). All (IsLeaf s.trees s.frames) (bound_terms a)) table → All (IsOverLeaves s) table
over_leaves flat_law s table h =
    All-weaker (λ (a : Atom). All (IsLeaf s.trees s.frames) (bound_terms a)) (IsOverLeaves s)
    (λ a one. All-weaker (IsLeaf s.trees s.frames) (IsLeaf s.trees (flat s.frames)) (flat_leaf flat_law s) (bound_terms a) one) table h
