-- How a store keeps its trees: a list of nodes, each of which names earlier ones as its arguments, as rows.
use Rattle.std.specs.Prelude.{◌≡◌, ◌≢◌, ℕ, ◌<◌, ◌≤◌, ◌^◌, List, length, map, slice_index_or}
use Rattle.smt_meaning.specs.declared.terms.Head.{Head}
use Rattle.smt_meaning.specs.declared.nodes.Node.{Node}
use Rattle.smt_meaning.specs.Nodes.{trees_of, AreNodes}
use Rattle.term_store.specs.Terms.{AreDifferent}
use Rattle.term_store.specs.Hash.{node_hash}

abbrev pub plain : Head → List ℕ → Node
plain head arguments = record { head = head; arguments = arguments }

abbrev pub nodes_of : List (Head × List ℕ) → List Node
nodes_of rows = map (λ r. plain r.0 r.1) rows

abbrev pub plain_hash : Node → ℕ
plain_hash n = node_hash n.head n.arguments

pub record IsStore (limit : ℕ) (rows : List (Head × List ℕ)) (hashes : List ℕ) : Type 0 where
  pub within : length rows ≤ limit
  pub bounded : limit < 2 ^ 32
  pub earlier : AreNodes (nodes_of rows)
  pub different : AreDifferent (trees_of (nodes_of rows))
  pub hashed : hashes ≡ map plain_hash (nodes_of rows)

-- the node is at this place
pub record HasNode (ns : List Node) (i : ℕ) (n : Node) : Type 0 where
  pub within : i < length ns
  pub here : (d : Node) → slice_index_or ns i d ≡ n

-- the node is at no place
pub record HasNoNode (ns : List Node) (n : Node) : Type 0 where
  pub nowhere : (i : ℕ) (d : Node) → i < length ns → slice_index_or ns i d ≢ n
