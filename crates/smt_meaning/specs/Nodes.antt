-- A list of nodes, each of which names earlier ones as its arguments, as a list of trees.
use Rattle.std.specs.Prelude.{ℕ, ◌+◌, ◌<◌, List, [], ◌∷◌, ◌++◌, length, All, slice_index_or}
use Rattle.smt_meaning.specs.declared.nodes.Node.{Node}
use Rattle.smt_meaning.specs.Term.{Tree, Trees, node, none, more, tree_at}

-- the trees at these places
abbrev pub pick : List Tree → List ℕ → Trees
pick ts [] = none
pick ts (i ∷ is) = more (tree_at ts i) (pick ts is)

-- the tree of a node, where its arguments are places among these trees
abbrev pub tree_of : List Tree → Node → Tree
tree_of ts n = node n.head (pick ts n.arguments)

abbrev pub trees_from : List Tree → List Node → List Tree
trees_from ts [] = ts
trees_from ts (n ∷ ns) = trees_from (ts ++ tree_of ts n ∷ []) ns

-- the tree at each place
abbrev pub trees_of : List Node → List Tree
trees_of ns = trees_from [] ns

-- each argument is an earlier place
abbrev pub AreNodes : List Node → Type 0
AreNodes ns = (k : ℕ) (d : Node) → k < length ns → All (λ i. i < k) (slice_index_or ns k d).arguments

-- each argument is an earlier place, where so many stand before
abbrev pub AreNodesAfter : ℕ → List Node → Type 0
AreNodesAfter m ns = (k : ℕ) (d : Node) → k < length ns → All (λ i. i < m + k) (slice_index_or ns k d).arguments

-- the nodes of these parts, in order
abbrev pub joined : List (List Node) → List Node
joined [] = []
joined (ns ∷ parts) = ns ++ joined parts
