-- A list of nodes as a list of trees: one node more, the tree at a place, and different nodes as different trees.
use Rattle.std.proofs.Common.{◌≡◌, ℕ, zero, suc, ◌+◌, ◌<◌, ◌≤◌, List, [], ◌∷◌, ◌++◌, length, get_or, take, drop, add-zero, All, inl, inr, subst, sym, ap, ◌∙◌, arith, refl}
use Rattle.std.proofs.lemmas.List.{get_or_append_left, length_push, get_or_push, get_or-take, length-take-le, take-append-drop, take-take, take_at, take_all}
use Rattle.std.proofs.lemmas.List.Elements.{All-head, All-tail}
use Rattle.std.proofs.Math.Seq.{get_or-append_seam}
use Rattle.std.proofs.lemmas.Bool.{cases_lt}
use Rattle.smt_meaning.specs.declared.terms.Head.TheVariants.{Theory}
use Rattle.smt_meaning.specs.declared.terms.Operator.TheVariants.{False}
use Rattle.smt_meaning.specs.Term.{Tree, node, none, tree_at}
use Rattle.smt_meaning.specs.Nodes.{pick}
use Rattle.term_store.specs.Terms.{tree_with, IsPlace, IsNew, AreDifferent}
use Rattle.term_store.specs.Nodes.{HasNode, HasNoNode}
use Rattle.smt_meaning.specs.Nodes.{trees_from, trees_of, AreNodes}
use Rattle.smt_meaning.specs.declared.nodes.Node.{Node}
use Rattle.term_store.proofs.RowLemmas.{earlier_push, earlier_take}

pub length-trees_from : (ts : List Tree) (ns : List Node) → length (trees_from ts ns) ≡ length ts + length ns
length-trees_from ts [] = omega arith
length-trees_from ts (n ∷ ns) =
    let t : Tree = tree_with ts n.head n.arguments in
    omega (arith, length-trees_from (ts ++ t ∷ []) ns, length_push ts t)

pub length-trees_of : (ns : List Node) → length (trees_of ns) ≡ length ns
length-trees_of ns = omega (arith, length-trees_from [] ns)

pub trees_from-append : (ts : List Tree) (ns ms : List Node) → trees_from ts (ns ++ ms) ≡ trees_from (trees_from ts ns) ms
trees_from-append ts [] ms = refl
trees_from-append ts (n ∷ ns) ms = trees_from-append (ts ++ tree_with ts n.head n.arguments ∷ []) ns ms

pub trees_of-push : (ns : List Node) (n : Node) → trees_of (ns ++ n ∷ []) ≡ trees_of ns ++ tree_with (trees_of ns) n.head n.arguments ∷ []
trees_of-push ns n = trees_from-append [] ns (n ∷ [])

-- earlier places keep their trees
pub trees_from-keeps : (ts : List Tree) (ns : List Node) (k : ℕ) (d : Tree) → k < length ts → get_or (trees_from ts ns) k d ≡ get_or ts k d
trees_from-keeps ts [] k d h = refl
trees_from-keeps ts (n ∷ ns) k d h =
    let t : Tree = tree_with ts n.head n.arguments in
    trees_from-keeps (ts ++ t ∷ []) ns k d (omega (arith, length_push ts t)) ∙ get_or_append_left ts (t ∷ []) d k h

take_trees_from : (ts : List Tree) (ns : List Node) → take (length ts) (trees_from ts ns) ≡ ts
take_trees_from ts [] = take_all (length ts) ts (omega arith)
take_trees_from ts (n ∷ ns) =
    let t : Tree = tree_with ts n.head n.arguments in
    let us : List Tree = ts ++ t ∷ [] in
    sym (take-take (length ts) (length us) (trees_from us ns) (omega (arith, length_push ts t)))
    ∙ ap (take (length ts)) (take_trees_from us ns) ∙ take_at ts (t ∷ []) (length ts) refl

pub trees_of-take : (k : ℕ) (ns : List Node) → k ≤ length ns → trees_of (take k ns) ≡ take k (trees_of ns)
trees_of-take k ns h =
    let first : List Node = take k ns in
    let size : length (trees_of first) ≡ k = length-trees_of first ∙ length-take-le k ns h in
    sym (take_trees_from (trees_of first) (drop k ns))
    ∙ ap (λ n. take n (trees_from (trees_of first) (drop k ns))) size
    ∙ ap (take k) (sym (trees_from-append [] first (drop k ns)) ∙ ap trees_of (take-append-drop k ns))

pub pick-agree : (ts us : List Tree) (is : List ℕ) (m : ℕ) → ((i : ℕ) → i < m → tree_at us i ≡ tree_at ts i) → All (λ i. i < m) is → pick us is ≡ pick ts is
pick-agree ts us [] m same all = refl
pick-agree ts us (i ∷ is) m same all =
    cc (same i (All-head (λ j. j < m) i is all), pick-agree ts us is m same (All-tail (λ j. j < m) i is all))

pub tree_at-from : (ts : List Tree) (ns : List Node) (k : ℕ) (d : Node) → k < length ns → All (λ i. i < length ts + k) (get_or ns k d).arguments
    → tree_at (trees_from ts ns) (length ts + k) ≡ tree_with (trees_from ts ns) (get_or ns k d).head (get_or ns k d).arguments
tree_at-from ts [] k d h all = absurd (omega arith)
tree_at-from ts (n ∷ ns) zero d h all =
    let t : Tree = tree_with ts n.head n.arguments in
    let us : List Tree = ts ++ t ∷ [] in
    rw (add-zero (length ts))
    (trees_from-keeps us ns (length ts) _ (omega (arith, length_push ts t))
    ∙ get_or-append_seam ts t [] _
    ∙ ap (node n.head) (sym (pick-agree ts (trees_from us ns) n.arguments (length ts)
    (λ i below. trees_from-keeps us ns i _ (omega (arith, length_push ts t)) ∙ get_or_append_left ts (t ∷ []) _ i below)
    (rw add-zero at all))))
tree_at-from ts (n ∷ ns) (suc k) d h all =
    let t : Tree = tree_with ts n.head n.arguments in
    let us : List Tree = ts ++ t ∷ [] in
    let same : length us + k ≡ length ts + suc k = omega (arith, length_push ts t) in
    subst (λ j. tree_at (trees_from us ns) j ≡ tree_with (trees_from us ns) (get_or ns k d).head (get_or ns k d).arguments) same
    (tree_at-from us ns k d (omega arith) (subst (λ j. All (λ i. i < j) (get_or ns k d).arguments) (sym same) all))

pub tree_at-nodes : (ns : List Node) (k : ℕ) (d : Node) → AreNodes ns → k < length ns
    → tree_at (trees_of ns) k ≡ tree_with (trees_of ns) (get_or ns k d).head (get_or ns k d).arguments
tree_at-nodes ns k d nodes h =
    let zero_k : 0 + k ≡ k = omega arith in
    subst (λ j. tree_at (trees_of ns) j ≡ tree_with (trees_of ns) (get_or ns k d).head (get_or ns k d).arguments) zero_k
    (tree_at-from [] ns k d h (subst (λ j. All (λ i. i < j) (get_or ns k d).arguments) (sym zero_k) (nodes k d h)))

pub AreNodes-push : (ns : List Node) (n : Node) → AreNodes ns → All (λ i. i < length ns) n.arguments → AreNodes (ns ++ n ∷ [])
AreNodes-push = earlier_push (λ n. n.arguments)

pub AreNodes-take : (ns : List Node) (m : ℕ) → m ≤ length ns → AreNodes ns → AreNodes (take m ns)
AreNodes-take = earlier_take (λ n. n.arguments)

-- ---- different trees

blank : Tree
blank = node (Theory False) none

pub places_same : (ts : List Tree) (i j : ℕ) → AreDifferent ts → i < length ts → j < length ts → tree_at ts i ≡ tree_at ts j → i ≡ j
places_same ts i j different h k e =
    elim (cases_lt i j) [
      | inl less ↦ absurd (different i j less k e)
      | inr more' ↦ elim (cases_lt j i) [ inl less ↦ absurd (different j i less h (sym e)) | inr less ↦ omega arith ]
    ]

pick_injective : (ts : List Tree) (is js : List ℕ) → AreDifferent ts → All (λ i. i < length ts) is → All (λ i. i < length ts) js → pick ts is ≡ pick ts js → is ≡ js
pick_injective ts [] [] different a b e = refl
pick_injective ts [] (j ∷ js) different a b e = cc
pick_injective ts (i ∷ is) [] different a b e = cc
pick_injective ts (i ∷ is) (j ∷ js) different a b e =
    let first : tree_at ts i ≡ tree_at ts j = cc in
    let rest : pick ts is ≡ pick ts js = cc in
    let same : i ≡ j = places_same ts i j different (All-head (λ k. k < length ts) i is a) (All-head (λ k. k < length ts) j js b) first in
    let others : is ≡ js = pick_injective ts is js different (All-tail (λ k. k < length ts) i is a) (All-tail (λ k. k < length ts) j js b) rest in
    cc

same_plain : (n m : Node) → n.head ≡ m.head → n.arguments ≡ m.arguments → n ≡ m
same_plain n m h a =
    let heads : n ≡ record { head = m.head; arguments = n.arguments } = ap (λ k. record { head = k; arguments = n.arguments }) h in
    heads ∙ ap (λ is. record { head = m.head; arguments = is }) a

pub IsNew-nodes : (ns : List Node) (n : Node) → AreNodes ns → AreDifferent (trees_of ns) → All (λ i. i < length (trees_of ns)) n.arguments → HasNoNode ns n
    → IsNew (trees_of ns) (tree_with (trees_of ns) n.head n.arguments)
IsNew-nodes ns n nodes different below absent i short e =
    let within : i < length ns = omega (arith, length-trees_of ns) in
    let m : Node = get_or ns i n in
    let here : node m.head (pick (trees_of ns) m.arguments) ≡ node n.head (pick (trees_of ns) n.arguments) = sym (tree_at-nodes ns i n nodes within) ∙ e in
    let heads : m.head ≡ n.head = cc in
    let picks : pick (trees_of ns) m.arguments ≡ pick (trees_of ns) n.arguments = cc in
    let earlier : All (λ j. j < length (trees_of ns)) m.arguments = λ k d h. (let less = nodes i n within k d h in omega arith) in
    absent.nowhere i n within (same_plain m n heads (pick_injective (trees_of ns) m.arguments n.arguments different earlier below picks))

pub IsPlace-nodes : (ns : List Node) (i : ℕ) (n : Node) → AreNodes ns → HasNode ns i n → IsPlace (trees_of ns) i (tree_with (trees_of ns) n.head n.arguments)
IsPlace-nodes ns i n nodes has =
    let within : i < length ns = has.within in
    (omega (arith, length-trees_of ns), tree_at-nodes ns i n nodes within ∙ ap (λ (m : Node). tree_with (trees_of ns) m.head m.arguments) (has.here n))

pub AreDifferent-push : (ts : List Tree) (t : Tree) → AreDifferent ts → IsNew ts t → AreDifferent (ts ++ t ∷ [])
AreDifferent-push ts t different new j k less short e =
    let size : length (ts ++ t ∷ []) ≡ length ts + 1 = length_push ts t in
    let left : tree_at (ts ++ t ∷ []) j ≡ tree_at ts j = get_or_append_left ts (t ∷ []) _ j (omega arith) in
    elim (cases_lt k (length ts)) [
      | inl below ↦ different j k less below (sym left ∙ e ∙ get_or_append_left ts (t ∷ []) _ k below)
      | inr above ↦
          let at_end : length ts ≡ k = omega arith in
          new j (omega arith) (sym left ∙ e ∙ get_or_push ts t _ k at_end)
    ]

pub AreDifferent-take : (ts : List Tree) (m : ℕ) → m ≤ length ts → AreDifferent ts → AreDifferent (take m ts)
AreDifferent-take ts m short different j k less h e =
    let size : length (take m ts) ≡ m = length-take-le m ts short in
    different j k less (omega arith) (sym (get_or-take m ts j _ (omega arith)) ∙ e ∙ get_or-take m ts k _ (omega arith))
