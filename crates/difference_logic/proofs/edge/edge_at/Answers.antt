use Rattle.std.proofs.lemmas.List.Elements.{Contains-get_or}
use Rattle.difference_logic.proofs.edge.edge_at.Goals as goal

pub returns-then-place-edges : goal.returns-then-place-edges
returns-then-place-edges c = Contains-get_or c.args.edges.now c.args.place _ c.if-place-edges.true
