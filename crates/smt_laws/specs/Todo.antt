-- The parts of a tree join a list, by steps.
use Rattle.std.specs.Prelude.{◌≡◌, ℕ, ◌<◌, true, List, [], ◌∷◌, length}
use Rattle.smt_meaning.specs.declared.terms.Head.{Head}
use Rattle.smt_meaning.specs.Term.{Tree, Trees, node, none, more, tree_at}
use Rattle.smt_meaning.specs.TreeShape.{is_among, with_tree, with_parts}

-- what is still to join
pub data Todo : Type 0 where
  -- a tree with its parts
  visit : (tree : Tree) → Todo
  -- a tree, whose parts are there
  keep : (tree : Tree) → Todo

-- the list after all of this
abbrev pub after : List Todo → List Tree → List Tree
after [] out = out
after (visit t ∷ todo) out = after todo (with_parts out t)
after (keep t ∷ todo) out = after todo (with_tree out t)

-- trees from left to right, before the rest
abbrev pub visits : Trees → List Todo → List Todo
visits none todo = todo
visits (more u us) todo = visit u ∷ visits us todo

-- a tree's arguments are visited before it is kept
abbrev pub VisitsParts : Type 0
VisitsParts = (h : Head) (us : Trees) (todo : List Todo) (out : List Tree) → after (visit (node h us) ∷ todo) out ≡ after (visits us (keep (node h us) ∷ todo)) out

-- a list that has the parts of each of its trees stays where one of these is visited
abbrev pub StoredTreesStay : Type 0
StoredTreesStay =
    (t : Tree) (todo : List Todo) (out : List Tree) → ((i : ℕ) → i < length out → with_parts out (tree_at out i) ≡ out) → is_among t out ≡ true → after (visit t ∷ todo) out ≡ after todo out
