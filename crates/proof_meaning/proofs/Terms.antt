-- The terms of a proof: each stands in the list of terms, has a sort, is linear, and has its leaves among them.
use Rattle.std.proofs.Common.{◌≡◌, ℕ, ◌<◌, List, [], ◌∷◌, ◌++◌, length, All, map, Some, ap, sym, subst, ◌∙◌, refl, arith, inl, inr}
use Rattle.std.specs.Prelude.{IsTrue}
use Rattle.std.proofs.lemmas.List.{get_or_append_left, length_push}
use Rattle.std.proofs.lemmas.List.Elements.{All-nil, All-cons, All-head, All-tail, All-append, All-push, All-weaker, All-get_or}
use Rattle.std.proofs.Math.Seq.{get_or-append_seam}
use Rattle.std.proofs.lemmas.Bool.{cases_lt}
use Rattle.smt_meaning.specs.declared.values.Sort.{Sort}
use Rattle.smt_meaning.specs.declared.nodes.Node.{Node}
use Rattle.smt_meaning.specs.declared.terms.Head.{Head}
use Rattle.smt_meaning.specs.declared.terms.Head.TheVariants.{Numeral, Theory, Symbol, Place}
use Rattle.smt_meaning.specs.declared.terms.Operator.TheVariants.{Add, Subtract, Multiply}
use Rattle.smt_meaning.specs.Declaration.{Declaration}
use Rattle.smt_meaning.specs.Term.{Tree, Trees, node, tree_at, Interpretation, value, values}
use Rattle.smt_meaning.specs.TreeShape.{is_among}
use Rattle.smt_meaning.specs.Clause.{value_at}
use Rattle.smt_meaning.specs.Linear.{leaves, leaves_of}
use Rattle.smt_meaning.specs.Nodes.{pick, tree_of}
use Rattle.proof_meaning.specs.Proof.{term_sort, is_linear_term, meant, all_meant, AreTerms, no_terms, next_term, IsTerm, node_at}
use Rattle.smt_laws.proofs.Among.{among_append, among_last}
use Rattle.proof_meaning.proofs.Meant.{meant_value_at, meant_picked, apply_written, written_value}

pub record Stands (ts : List Tree) (n : Node) (i : ℕ) : Type 0 where
  pub tree : tree_at ts i ≡ tree_of ts n
  pub below : All (λ j. j < length ts) n.arguments

pub as_many : (ds : List Declaration) (ns : List Node) (ts : List Tree) → AreTerms ds ns ts → length ns ≡ length ts
as_many ds _ _ no_terms = refl
as_many ds _ _ (next_term {ns = ns} {ts = ts} h n k) = omega (arith, length_push ts (tree_of ts n), length_push ns n, as_many ds ns ts h)

pick_more : (ts : List Tree) (t : Tree) (is : List ℕ) → All (λ i. i < length ts) is → pick (ts ++ t ∷ []) is ≡ pick ts is
pick_more ts t [] all = refl
pick_more ts t (i ∷ is) all =
    let here : tree_at (ts ++ t ∷ []) i ≡ tree_at ts i = get_or_append_left ts (t ∷ []) _ i (All-head (λ j. j < length ts) i is all) in
    cc (here, pick_more ts t is (All-tail (λ j. j < length ts) i is all))

below_more : (ts : List Tree) (t : Tree) (is : List ℕ) → All (λ i. i < length ts) is → All (λ i. i < length (ts ++ t ∷ [])) is
below_more ts t is all = All-weaker (λ i. i < length ts) (λ i. i < length (ts ++ t ∷ [])) (λ i l. omega (arith, length_push ts t)) is all

later : (ts : List Tree) (t : Tree) (m : Node) (i : ℕ) → i < length ts → Stands ts m i → Stands (ts ++ t ∷ []) m i
later ts t m i h s = record {
  tree = get_or_append_left ts (t ∷ []) _ i h ∙ s.tree ∙ ap (node m.head) (sym (pick_more ts t m.arguments s.below));
  below = below_more ts t m.arguments s.below;
}

last : (ds : List Declaration) (ts : List Tree) (n : Node) → IsTerm ds ts n → Stands (ts ++ tree_of ts n ∷ []) n (length ts)
last ds ts n k = record {
  tree = get_or-append_seam ts (tree_of ts n) [] _ ∙ ap (node n.head) (sym (pick_more ts (tree_of ts n) n.arguments k.earlier));
  below = below_more ts (tree_of ts n) n.arguments k.earlier;
}

pub stands : (ds : List Declaration) (ns : List Node) (ts : List Tree) → AreTerms ds ns ts → (i : ℕ) → i < length ns → Stands ts (node_at ns i) i
stands ds _ _ no_terms i h = absurd (omega (arith, h))
stands ds _ _ (next_term {ns = ns} {ts = ts} hs n k) i h =
    let t : Tree = tree_of ts n in
    let count : length ns ≡ length ts = as_many ds ns ts hs in
    elim (cases_lt i (length ns)) [
      | inl earlier ↦
          subst (λ m. Stands (ts ++ t ∷ []) m i) (sym (get_or_append_left ns (n ∷ []) _ i earlier)) (later ts t (node_at ns i) i (omega arith) (stands ds ns ts hs i earlier))
      | inr above ↦
          let at_end : length ns ≡ i = omega (arith, length_push ns n) in
          subst (λ j. Stands (ts ++ t ∷ []) (node_at (ns ++ n ∷ []) j) j) at_end
          (subst (λ m. Stands (ts ++ t ∷ []) m (length ns)) (sym (get_or-append_seam ns n [] _)) (subst (λ j. Stands (ts ++ t ∷ []) n j) (sym count) (last ds ts n k)))
    ]

-- ---- leaves

abbrev AreAmong : List Tree → List Tree → Type 0
AreAmong ts us = All (λ u. IsTrue (is_among u ts)) us

-- what lets a term be read as a linear form
pub record IsReadable (ds : List Declaration) (ts : List Tree) (t : Tree) : Type 0 where
  pub sort : Sort
  pub has_sort : term_sort ds t ≡ Some sort
  pub linear : IsTrue (is_linear_term t)
  pub leaves_are : All (λ u. IsTrue (is_among u ts)) (leaves t)

picked_leaves : (ts : List Tree) → All (λ t. AreAmong ts (leaves t)) ts → (is : List ℕ) → All (λ i. i < length ts) is → AreAmong ts (leaves_of (pick ts is))
picked_leaves ts all [] below = All-nil (λ u. IsTrue (is_among u ts))
picked_leaves ts all (i ∷ is) below =
    All-append (λ u. IsTrue (is_among u ts)) (leaves (tree_at ts i)) (leaves_of (pick ts is))
    (All-get_or (λ t. AreAmong ts (leaves t)) ts i _ (All-head (λ j. j < length ts) i is below) all)
    (picked_leaves ts all is (All-tail (λ j. j < length ts) i is below))

more_among : (ts : List Tree) (t : Tree) (us : List Tree) → AreAmong ts us → AreAmong (ts ++ t ∷ []) us
more_among ts t us all = All-weaker (λ u. IsTrue (is_among u ts)) (λ u. IsTrue (is_among u (ts ++ t ∷ []))) (λ u h. among_append u ts (t ∷ []) h) us all

itself : (ts : List Tree) (t : Tree) → AreAmong (ts ++ t ∷ []) (t ∷ [])
itself ts t = All-cons (λ u. IsTrue (is_among u (ts ++ t ∷ []))) t [] (among_last t ts) (All-nil (λ u. IsTrue (is_among u (ts ++ t ∷ []))))

new_leaves : (ts : List Tree) (h : Head) (us : Trees) → AreAmong ts (leaves_of us) → AreAmong (ts ++ node h us ∷ []) (leaves (node h us))
new_leaves ts (Numeral n) us all = All-nil (λ u. IsTrue (is_among u (ts ++ node (Numeral n) us ∷ [])))
new_leaves ts (Theory Add) us all = more_among ts (node (Theory Add) us) (leaves_of us) all
new_leaves ts (Theory Subtract) us all = more_among ts (node (Theory Subtract) us) (leaves_of us) all
new_leaves ts (Theory Multiply) us all = more_among ts (node (Theory Multiply) us) (leaves_of us) all
new_leaves ts (Theory o) us all = itself ts (node (Theory o) us)
new_leaves ts (Symbol f) us all = itself ts (node (Symbol f) us)
new_leaves ts (Place k) us all = itself ts (node (Place k) us)

pub terms_readable : (ds : List Declaration) (ns : List Node) (ts : List Tree) → AreTerms ds ns ts → All (IsReadable ds ts) ts
terms_readable ds _ _ no_terms = All-nil (IsReadable ds [])
terms_readable ds _ _ (next_term {ns = ns} {ts = ts} hs n k) =
    let t : Tree = tree_of ts n in
    let before : All (IsReadable ds ts) ts = terms_readable ds ns ts hs in
    All-push (IsReadable ds (ts ++ t ∷ [])) ts t
    (All-weaker (IsReadable ds ts) (IsReadable ds (ts ++ t ∷ []))
    (λ u h. record { sort = h.sort; has_sort = h.has_sort; linear = h.linear; leaves_are = more_among ts t (leaves u) h.leaves_are }) ts before)
    (record {
      sort = k.sort;
      has_sort = k.has_sort;
      linear = k.linear;
      leaves_are = new_leaves ts n.head (pick ts n.arguments)
          (picked_leaves ts (All-weaker (IsReadable ds ts) (λ u. AreAmong ts (leaves u)) (λ u h. h.leaves_are) ts before) n.arguments k.earlier);
    })

pub readable_at : (ds : List Declaration) (ns : List Node) (ts : List Tree) → AreTerms ds ns ts → (i : ℕ) → i < length ts → IsReadable ds ts (tree_at ts i)
readable_at ds ns ts terms i h = All-get_or (IsReadable ds ts) ts i _ h (terms_readable ds ns ts terms)

-- ---- values

-- a term has the value that its head makes of those of its arguments
pub standing_value : (ds : List Declaration) (ns : List Node) (ts : List Tree) (I : Interpretation) → AreTerms ds ns ts → (i : ℕ) → i < length ns
    → value_at (map meant ts) I i ≡ apply_written I (node_at ns i).head (values I (pick (map meant ts) (node_at ns i).arguments))
standing_value ds ns ts I terms i h =
    let n : Node = node_at ns i in
    meant_value_at ts I i ∙ ap (λ t. value I (meant t)) (stands ds ns ts terms i h).tree ∙ written_value I n.head (all_meant (pick ts n.arguments))
    ∙ ap (λ us. apply_written I n.head (values I us)) (sym (meant_picked ts n.arguments))
