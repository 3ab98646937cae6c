-- Terms that are no numeral, sum, difference or product, and those that are one, which are Ints.
use Rattle.std.proofs.Common.{◌≡◌, ℕ, ◌<◌, Bool, true, false, List, [], ◌∷◌, length, Contains, refl, sym, ap, subst, ◌∙◌}
use Rattle.std.specs.Prelude.{Option, Some, None, IsTrue, if◌then◌else◌}
use Rattle.std.proofs.lemmas.List.Elements.{All-contains}
use Rattle.smt_meaning.specs.declared.values.Value.{Value}
use Rattle.smt_meaning.specs.declared.values.Value.TheVariants.{Whole}
use Rattle.smt_meaning.specs.declared.values.Sort.{Sort}
use Rattle.smt_meaning.specs.declared.values.Sort.TheVariants.{Bool as Truths, Int as Ints}
use Rattle.smt_meaning.specs.declared.terms.Operator.TheVariants.{Add, Subtract, Multiply}
use Rattle.smt_meaning.specs.declared.terms.Head.{Head}
use Rattle.smt_meaning.specs.declared.terms.Head.TheVariants.{Numeral, Theory, Symbol, Place}
use Rattle.smt_meaning.specs.Declaration.{Declaration}
use Rattle.smt_meaning.specs.Term.{Tree, node, tree_at}
use Rattle.smt_meaning.specs.TreeShape.{place_of, is_among}
use Rattle.smt_meaning.specs.Linear.{linear_form}
use Rattle.smt_meaning.specs.Ranges.{form_at}
use Rattle.smt_meaning.specs.Parts.{IsPart}
use Rattle.smt_meaning.specs.Stack.{signature_of, assertions_of}
use Rattle.smt_meaning.specs.StackCommand.{Stack}
use Rattle.smt_meaning.specs.Signature.{tree_sort, tree_sorts, with_sorts, operator_sort, stands_with, if_so, all_of}
use Rattle.smt_meaning.specs.CheckAtoms.{is_leaf, is_leaf_head, IsLeaf}
use Rattle.smt_laws.specs.Flat.{flat, SaysTheSame, FlatSaysTheSame}
use Rattle.smt_laws.proofs.SameTree.{found_again}
use Rattle.term_store.specs.Terms.{AreDifferent}
use Rattle.term_store.proofs.PlaceLemmas.{place_of-is}
use Rattle.scope_stack.specs.Shown.{IsLawful}
use Rattle.order_clauses.proofs.Sorting.{if_so_true}
use Rattle.exact_model.specs.Exact.{exact, exact_at, listed, number_at}
use Rattle.exact_model.specs.Sums.{number_of_place}
use Rattle.exact_model.proofs.Heads.{leaf_by_head, sum_by_head}

stands_sort : (b : Bool) (x : Option Sort) (q : Sort) → (if b then x else None) ≡ Some q → x ≡ Some q
stands_sort true x q h = h
stands_sort false x q h = absurd cc

all_ints : (b : Bool) (q : Sort) → if_so b Ints ≡ Some q → q ≡ Ints
all_ints b q h = sym ((if_so_true b Ints q h).1)

-- a numeral, a sum, a difference and a product are Ints
pub sum_sort : (ds : List Declaration) (h : Head) (r : Option (List Sort)) (q : Sort) → is_leaf_head h ≡ false → with_sorts ds h r ≡ Some q → q ≡ Ints
sum_sort ds h None q e s = absurd cc
sum_sort ds (Numeral n) (Some []) q e s = cc
sum_sort ds (Numeral n) (Some (x ∷ xs)) q e s = absurd cc
sum_sort ds (Theory Add) (Some ss) q e s = all_ints (all_of Ints ss) q (stands_sort (stands_with Add (length ss)) (operator_sort Add ss) q s)
sum_sort ds (Theory Subtract) (Some ss) q e s = all_ints (all_of Ints ss) q (stands_sort (stands_with Subtract (length ss)) (operator_sort Subtract ss) q s)
sum_sort ds (Theory Multiply) (Some ss) q e s = all_ints (all_of Ints ss) q (stands_sort (stands_with Multiply (length ss)) (operator_sort Multiply ss) q s)
sum_sort ds (Theory o) (Some ss) q e s = absurd cc
sum_sort ds (Symbol f) (Some ss) q e s = absurd cc
sum_sort ds (Place k) (Some ss) q e s = absurd cc

-- so a Bool is a leaf
pub bool_leaf : (ds : List Declaration) (t : Tree) → tree_sort ds t ≡ Some Truths → is_leaf t ≡ true
bool_leaf ds (node h us) e = by (is_leaf_head h) refl
  where
    by : (b : Bool) → is_leaf_head h ≡ b → is_leaf_head h ≡ true
    by true leaf = leaf
    by false sum = absurd (let int : Truths ≡ Ints = sum_sort ds h (tree_sorts ds us) Truths sum e in cc)

by_place : (ts : List Tree) (vs : List Value) (t : Tree) → is_leaf t ≡ true → exact ts vs t ≡ listed vs (place_of t ts)
by_place ts vs (node h us) leaf = leaf_by_head ts vs h us leaf

-- a leaf's exact value is the one that is listed
pub listed_by_leaf : (ts : List Tree) (vs : List Value) (p : ℕ) → AreDifferent ts → p < length ts → is_leaf (tree_at ts p) ≡ true → exact_at ts vs p ≡ listed vs p
unfolding exact_at
listed_by_leaf ts vs p different less leaf = by_place ts vs (tree_at ts p) leaf ∙ ap (listed vs) (place_of-is (tree_at ts p) ts p different less refl)

-- another term is an Int, and its exact value the number of its form
pub sum_is_int : (ts : List Tree) (vs : List Value) (ds : List Declaration) (p : ℕ) (r : Sort) → is_leaf (tree_at ts p) ≡ false → tree_sort ds (tree_at ts p) ≡ Some r
    → (r ≡ Ints) × (exact_at ts vs p ≡ Whole (number_of_place ts vs p))
unfolding exact_at number_of_place
sum_is_int ts vs ds p r sum e = by (tree_at ts p) sum e
  where
    by : (t : Tree) → is_leaf t ≡ false → tree_sort ds t ≡ Some r → (r ≡ Ints) × (exact ts vs t ≡ Whole (form_at (number_at vs) (linear_form ts t)))
    by (node h us) k i = (sum_sort ds h (tree_sorts ds us) r k i, sum_by_head ts vs h us k)

-- at the place of an Int leaf of a stack's assertions there is one
pub leaf_there : FlatSaysTheSame → (s : Stack) → IsLawful s → (p : ℕ) → IsLeaf s.trees (flat s.frames) p
    → (is_leaf (tree_at s.trees p) ≡ true) × (tree_sort (signature_of s.frames) (tree_at s.trees p) ≡ Some Ints)
leaf_there flat_law s lawful p l =
    let same : SaysTheSame s.frames = flat_law s.frames in
    let part = l.part.part in
    let asserted : Contains (assertions_of s.frames) part.assertion = subst (λ (us : List Tree). Contains us part.assertion) same.assertions part.asserted in
    let among : is_among l.leaf s.trees ≡ true =
    All-contains (λ (t : Tree). (u : Tree) → IsPart u t → IsTrue (is_among u s.trees)) (assertions_of s.frames) part.assertion lawful.parts asserted l.leaf part.part in
    let tree : tree_at s.trees p ≡ l.leaf = ap (tree_at s.trees) (sym l.part.place_is) ∙ found_again l.leaf s.trees among in
    (ap is_leaf tree ∙ l.is, ap (tree_sort (signature_of s.frames)) tree ∙ subst (λ (ds : List Declaration). tree_sort ds l.leaf ≡ Some Ints) same.signature l.part.int)
