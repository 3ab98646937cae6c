-- The parts of a stack have their sorts, their arguments are parts, and those that are linear can be read.
use Rattle.std.proofs.Common.{◌≡◌, inl, inr, ℕ, ◌<◌, Bool, List, [], ◌∷◌, map, length, All, Contains, Some, subst, sym, ap, ◌∙◌, refl, arith}
use Rattle.std.specs.Prelude.{Option}
use Rattle.std.proofs.lemmas.List.Elements.{All-nil, All-cons, All-head, All-weaker, All-contains}
use Rattle.smt_meaning.specs.declared.values.Sort.{Sort}
use Rattle.smt_meaning.specs.declared.values.Sort.TheVariants.{Bool as Truths}
use Rattle.smt_meaning.specs.declared.terms.Head.{Head}
use Rattle.smt_meaning.specs.declared.clauses.Atom.{Atom}
use Rattle.smt_meaning.specs.declared.clauses.Atom.TheVariants.{Truth as TruthAtom}
use Rattle.smt_meaning.specs.Declaration.{Declaration}
use Rattle.smt_meaning.specs.Term.{Tree, Trees, node, none, more, tree_at}
use Rattle.smt_meaning.specs.Nodes.{pick}
use Rattle.smt_meaning.specs.Parts.{IsPart, IsPartOfOne, IsOneOf}
use Rattle.smt_meaning.specs.Signature.{tree_sort}
use Rattle.smt_meaning.specs.Stack.{signature_of, assertions_of}
use Rattle.smt_meaning.specs.StackCommand.{Stack}
use Rattle.term_store.specs.Terms.{tree_with}
use Rattle.scope_stack.specs.Facts.{AreSorts}
use Rattle.scope_stack.specs.Shown.{IsLawful}
use Rattle.linear_forms.specs.Table.{Known, AreForms, IsLinked}
use Rattle.check_atoms.specs.Parts.{IsMarked}
use Rattle.check_atoms.specs.Marks.{AreStackParts}
use Rattle.check_atoms.proofs.Sorting.{HasSort as HasSomeSort, part_has_sort}
use Rattle.check_atoms.proofs.Marking.{below, part_of_part}
use Rattle.check_atoms.specs.PartAtoms.{atom_of, truth_by_sort}
use Rattle.check_atoms.specs.OfStack.{IsNode, AreCheckAtoms}
use Rattle.order_clauses.specs.Clauses.{sort_at}
use Rattle.order_clauses.specs.Sound.{HasSort}

itself : (t : Tree) → IsPart t t
itself (node h us) = inl refl

one_of_them : (u : Tree) (us : Trees) → IsOneOf u us → IsPartOfOne u us
one_of_them u none c = absurd c
one_of_them u (more t us) (inl e) = inl (subst (IsPart u) e (itself u))
one_of_them u (more t us) (inr c) = inr (one_of_them u us c)

pub picked_is : (trees : List Tree) (is : List ℕ) → All (λ i. IsOneOf (tree_at trees i) (pick trees is)) is
picked_is trees [] = All-nil (λ i. IsOneOf (tree_at trees i) (pick trees []))
picked_is trees (j ∷ is) =
    All-cons (λ i. IsOneOf (tree_at trees i) (pick trees (j ∷ is))) j is (inl refl)
    (All-weaker (λ i. IsOneOf (tree_at trees i) (pick trees is)) (λ i. IsOneOf (tree_at trees i) (pick trees (j ∷ is))) (λ i c. inr c) is (picked_is trees is))

module _ (s : Stack) (marks : List Bool) (law : IsLawful s) (parts : AreStackParts s marks) (size : length marks ≡ length s.trees) where
  abbrev ds : List Declaration
  ds = signature_of s.frames

  pub within : (p : ℕ) → IsMarked marks p → p < length s.trees
  within p m = let short : p < length marks = below marks p m in omega (arith, short, size)

  -- ---- arguments

  argument_part : (p : ℕ) (h : Head) (is : List ℕ) → tree_at s.trees p ≡ tree_with s.trees h is → All (λ i. IsPart (tree_at s.trees i) (tree_at s.trees p)) is
  argument_part p h is e =
      All-weaker (λ i. IsOneOf (tree_at s.trees i) (pick s.trees is)) (λ i. IsPart (tree_at s.trees i) (tree_at s.trees p))
      (λ i c. subst (IsPart (tree_at s.trees i)) (sym e) (inr (one_of_them (tree_at s.trees i) (pick s.trees is) c))) is (picked_is s.trees is)

  marked_there : (i : ℕ) (p : ℕ) → IsMarked marks p → i < length s.trees → IsPart (tree_at s.trees i) (tree_at s.trees p) → IsMarked marks i
  marked_there i p m l q =
      let part = parts.only p m in
      let at = parts.each (tree_at s.trees i) (record { assertion = part.assertion; asserted = part.asserted; part = part_of_part (tree_at s.trees i) (tree_at s.trees p) part.assertion q part.part }) in
      subst (IsMarked marks) (law.in_order.different at.0 i (within at.0 at.1) l at.2) at.1

  pub arguments_marked : (p : ℕ) (h : Head) (is : List ℕ) → IsMarked marks p → tree_at s.trees p ≡ tree_with s.trees h is → All (λ i. i < length s.trees) is → All (IsMarked marks) is
  arguments_marked p h is m e l = λ k d j. marked_there _ p m (l k d j) (argument_part p h is e k d j)

  -- ---- sorts

  its_sort : (p : ℕ) → IsMarked marks p → HasSomeSort ds (tree_at s.trees p)
  its_sort p m =
      let part = parts.only p m in
      part_has_sort ds (tree_at s.trees p) part.assertion part.part
      (Truths, All-contains (λ (t : Tree). tree_sort ds t ≡ Some Truths) (assertions_of s.frames) part.assertion law.truths part.asserted)

  module _ (sorts : List Sort) (sorted : AreSorts ds s.trees (length s.trees) sorts) where
    pub has_sort : (p : ℕ) → IsMarked marks p → HasSort ds s.trees sorts p
    has_sort p m = let sort = its_sort p m in sort.1 ∙ ap Some (sym (sorted.each p sort.0 (within p m) sort.1))

    pub bool_sort : (p : ℕ) → IsMarked marks p → sort_at sorts p ≡ Truths → tree_sort ds (tree_at s.trees p) ≡ Some Truths
    bool_sort p m e = has_sort p m ∙ ap Some e

  -- ---- truths are numbered

  pub truth_numbered : (table : List Atom) (known : List Known) → AreCheckAtoms s marks table → AreForms s.trees known → (p : ℕ) → IsMarked marks p → tree_sort ds (tree_at s.trees p) ≡ Some Truths
      → Contains table (TruthAtom p)
  truth_numbered table known atoms forms p m bool =
      let linked : IsLinked s.trees p = forms.forms.linked p (within p m) in
      let inside : p < length s.trees = within p m in
      let term : IsNode s.trees p linked.head linked.arguments = record {
        within = inside;
        tree = linked.tree;
        arguments = All-weaker (λ i. i < p) (λ i. i < length s.trees) (λ i l. omega (arith, l, inside)) linked.arguments linked.earlier;
      } in
      All-head (Contains table) (TruthAtom p) []
      (subst (λ (o : Option Sort). All (Contains table) (map (atom_of s.trees) (truth_by_sort o p))) bool (atoms.each p linked.head linked.arguments m term).truth)
