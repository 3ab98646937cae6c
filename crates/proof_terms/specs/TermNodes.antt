-- The nodes of a proof's terms, by the rows that are kept of them.
use Rattle.std.specs.Prelude.{ℕ, List, map}
use Rattle.smt_meaning.specs.declared.terms.Head.{Head}
use Rattle.smt_meaning.specs.declared.nodes.Node.{Node}

abbrev pub written_node : Head → List ℕ → Node
written_node head arguments = record { head = head; arguments = arguments }

abbrev pub written : List (Head × List ℕ) → List Node
written rows = map (λ r. written_node r.0 r.1) rows
