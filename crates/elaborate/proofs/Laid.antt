-- Nodes in parts, one part after another.
use Rattle.std.proofs.Common.{◌≡◌, ℕ, ◌+◌, List, [], ◌∷◌, ◌++◌, length, take, sym, ◌∙◌}
use Rattle.smt_meaning.specs.declared.nodes.Node.{Node}
use Rattle.smt_meaning.specs.Term.{Tree, Trees}
use Rattle.smt_meaning.specs.Nodes.{AreNodes, AreNodesAfter, joined, trees_of as terms_of}
use Rattle.term_store.proofs.NodeLemmas.{length-trees_of}
use Rattle.term_store.proofs.Layers.{next_part}
use Rattle.elaborate.specs.declared.value.Value.{Value}
use Rattle.elaborate.specs.Putting.{ArePut}
use Rattle.elaborate.proofs.Puts.{count_put}

pub layer_nodes : (ps : List (List Node)) (i : ℕ) (p ns : List Node) (xs : Trees) (before : List Tree) (vs : List Value) (ts : List Tree) → take (i + 1) ps ≡ take i ps ++ p ∷ [] → ns ≡ p → AreNodes (joined ps)
    → ArePut xs before (terms_of (joined (take i ps))) vs ts → AreNodesAfter (length vs) ns
layer_nodes ps i p ns xs before vs ts t e a put = next_part ps i (length vs) p ns t e a (sym (length-trees_of (joined (take i ps))) ∙ sym (count_put xs before (terms_of (joined (take i ps))) vs ts put))
