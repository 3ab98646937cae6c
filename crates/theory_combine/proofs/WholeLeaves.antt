-- The leaves of marked Ints are marked, and have whole values where all variables do.
use Rattle.std.proofs.Common.{◌≡◌, ℕ, Bool, true, List, [], ◌∷◌, All, refl, inl, inr}
use Rattle.std.proofs.lemmas.List.Elements.{All-nil, All-cons, All-append}
use Rattle.smt_meaning.specs.declared.terms.Operator.TheVariants.{Add, Subtract, Multiply}
use Rattle.smt_meaning.specs.declared.terms.Head.TheVariants.{Numeral, Theory, Symbol, Place}
use Rattle.smt_meaning.specs.Declaration.{Declaration}
use Rattle.smt_meaning.specs.Term.{Tree, Trees, node, none, more, tree_at}
use Rattle.smt_meaning.specs.TreeShape.{place_of}
use Rattle.smt_meaning.specs.Parts.{IsPart, IsPartOfOne}
use Rattle.smt_meaning.specs.CheckAtoms.{is_leaf}
use Rattle.smt_meaning.specs.Linear.{leaves, leaves_of}
use Rattle.smt_meaning.specs.Stack.{signature_of}
use Rattle.smt_meaning.specs.StackCommand.{Stack}
use Rattle.term_store.specs.Terms.{AreDifferent}
use Rattle.check_atoms.specs.Marks.{AreStackParts}
use Rattle.check_atoms.proofs.Marking.{part_of_part}
use Rattle.model_eval.specs.Walk.{is_marked}
use Rattle.model_build.specs.Parts.{AreSortedParts}
use Rattle.simplex.specs.Sums.{HaveOwnSums}
use Rattle.sum_bounds.specs.Bounds.{State, AreWhole}
use Rattle.sum_bounds.specs.Written.{HasLeaf}
use Rattle.sum_bounds.proofs.Parts.{has_variable}
use Rattle.theory_combine.specs.Argument.{HasWhole, HaveWhole}
use Rattle.theory_combine.specs.Shown.{IsMarkedLeaf}
use Rattle.exact_model.proofs.Formed.{IsInt, AreInts, inner_ints}
use Rattle.theory_combine.proofs.Marked.{leaf_marked}

-- ---- leaves

module _ (P : Tree → Type 0) (ds : List Declaration) where
  abbrev OfLeaves : Tree → Type 0
  OfLeaves t = (u : Tree) → IsPart u t → is_leaf u ≡ true → IsInt ds u → P u

  one_leaf : (t : Tree) → P t → All P (t ∷ [])
  one_leaf t h = All-cons P t [] h (All-nil P)

  mutual
    -- what holds of the parts of an Int that are Int leaves holds of its leaves
    pub each_leaf : (t : Tree) → IsInt ds t → OfLeaves t → All P (leaves t)
    each_leaf (node (Numeral n) us) i f = All-nil P
    each_leaf (node (Theory Add) us) i f = each_leaf_of us (inner_ints ds Add us (λ ss. refl) i) (λ u q. f u (inr q))
    each_leaf (node (Theory Subtract) us) i f = each_leaf_of us (inner_ints ds Subtract us (λ ss. refl) i) (λ u q. f u (inr q))
    each_leaf (node (Theory Multiply) us) i f = each_leaf_of us (inner_ints ds Multiply us (λ ss. refl) i) (λ u q. f u (inr q))
    each_leaf (node (Theory o) us) i f = one_leaf (node (Theory o) us) (f (node (Theory o) us) (inl refl) refl i)
    each_leaf (node (Symbol g) us) i f = one_leaf (node (Symbol g) us) (f (node (Symbol g) us) (inl refl) refl i)
    each_leaf (node (Place k) us) i f = one_leaf (node (Place k) us) (f (node (Place k) us) (inl refl) refl i)

    each_leaf_of : (us : Trees) → AreInts ds us → ((u : Tree) → IsPartOfOne u us → is_leaf u ≡ true → IsInt ds u → P u) → All P (leaves_of us)
    each_leaf_of none i f = All-nil P
    each_leaf_of (more u us) i f = All-append P (leaves u) (leaves_of us) (each_leaf u i.0 (λ v q. f v (inl q))) (each_leaf_of us i.1 (λ v q. f v (inr q)))

-- ---- whole values

-- a variable's value is whole where all are
pub whole_leaf : (b : State) (term : ℕ) → HaveOwnSums b.columns → AreWhole b → HasLeaf b.columns term → HasWhole b term
whole_leaf b term apart whole leaf = let at = has_variable b.columns term apart leaf in record { leaf = leaf; is_whole = whole _ at.0 term at.1 }

module _ (s : Stack) (marks : List Bool) (sorted : AreSortedParts (signature_of s.frames) s.trees marks) (parts : AreStackParts s marks) (different : AreDifferent s.trees) (b : State) where
  -- so are those of the leaves of a marked Int
  pub whole_leaves : HaveOwnSums b.columns → AreWhole b → ((i : ℕ) → IsMarkedLeaf s marks i → HasLeaf b.columns i) → (p : ℕ) → is_marked marks p ≡ true → IsInt (signature_of s.frames) (tree_at s.trees p)
      → HaveWhole s.trees b (tree_at s.trees p)
  whole_leaves apart whole variables p marked int =
      each_leaf (λ u. HasWhole b (place_of u s.trees)) (signature_of s.frames) (tree_at s.trees p) int
      (λ u q leaf is_int. (
      let of = parts.only p marked in
      let at : IsMarkedLeaf s marks (place_of u s.trees) =
      leaf_marked s marks sorted parts different u (record { assertion = of.assertion; asserted = of.asserted; part = part_of_part u (tree_at s.trees p) of.assertion q of.part }) is_int leaf
      in
      whole_leaf b (place_of u s.trees) apart whole (variables (place_of u s.trees) at)
      ))
