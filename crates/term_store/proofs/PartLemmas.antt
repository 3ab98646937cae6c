-- The parts of the trees of a list of nodes are in the list.
use Rattle.std.proofs.Common.{◌≡◌, ℕ, zero, suc, ◌<◌, length, get_or, arith, List, [], ◌∷◌, All, ap, ◌∙◌, refl}
use Rattle.std.proofs.lemmas.List.Elements.{All-head, All-tail}
use Rattle.smt_meaning.specs.declared.terms.Head.{Head}
use Rattle.smt_meaning.specs.declared.terms.Head.TheVariants.{Numeral}
use Rattle.smt_meaning.specs.declared.nodes.Node.{Node}
use Rattle.smt_meaning.specs.Term.{Tree, tree_at}
use Rattle.smt_meaning.specs.TreeShape.{with_tree, with_parts, with_all_parts}
use Rattle.smt_meaning.specs.Nodes.{pick, trees_of, AreNodes}
use Rattle.std.specs.Prelude.{pos}
use Rattle.term_store.specs.Terms.{tree_with, AreComplete}
use Rattle.term_store.proofs.NodeLemmas.{length-trees_of, tree_at-nodes}
use Rattle.term_store.proofs.PlaceLemmas.{with_tree_old}

-- arguments whose parts are in the list add nothing
all_with : (ts : List Tree) (m : ℕ) (is : List ℕ) → ((i : ℕ) → i < m → with_parts ts (tree_at ts i) ≡ ts) → All (λ i. i < m) is → with_all_parts ts (pick ts is) ≡ ts
all_with ts m [] h a = refl
all_with ts m (i ∷ is) h a =
    ap (λ us. with_all_parts us (pick ts is)) (h i (All-head (λ j. j < m) i is a)) ∙ all_with ts m is h (All-tail (λ j. j < m) i is a)

pub parts_with : (ts : List Tree) (h : Head) (is : List ℕ) → AreComplete ts → All (λ i. i < length ts) is → with_parts ts (tree_with ts h is) ≡ with_tree ts (tree_with ts h is)
parts_with ts h is c a = ap (λ us. with_tree us (tree_with ts h is)) (all_with ts (length ts) is c a)

none_node : Node
none_node = record { head = Numeral (pos 0); arguments = [] }

complete_below : (ns : List Node) → AreNodes ns → (m i : ℕ) → i < m → i < length (trees_of ns) → with_parts (trees_of ns) (tree_at (trees_of ns) i) ≡ trees_of ns
complete_below ns a zero i h k = absurd (omega arith)
complete_below ns a (suc m) i h k =
    let short : i < length ns = omega (arith, length-trees_of ns) in
    let n : Node = get_or ns i none_node in
    let is : tree_at (trees_of ns) i ≡ tree_with (trees_of ns) n.head n.arguments = tree_at-nodes ns i none_node a short in
    ap (with_parts (trees_of ns)) is
    ∙ ap (λ us. with_tree us (tree_with (trees_of ns) n.head n.arguments)) (all_with (trees_of ns) i n.arguments (λ j below. complete_below ns a m j (omega arith) (omega arith)) (a i none_node short))
    ∙ with_tree_old (tree_with (trees_of ns) n.head n.arguments) (trees_of ns) i k is

pub nodes_complete : (ns : List Node) → AreNodes ns → AreComplete (trees_of ns)
nodes_complete ns a i h = complete_below ns a (suc i) i (omega arith) h
