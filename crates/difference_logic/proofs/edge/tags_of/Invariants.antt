use Rattle.difference_logic.specs.Edges.{AreTags}
use Rattle.difference_logic.proofs.edge.tags_of.Given as goal

abbrev pub invariant-loop-place : goal.invariant-loop-place
invariant-loop-place l = AreTags l.edges l.tags.items
