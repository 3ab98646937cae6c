use Rattle.order_clauses.specs.Gathered.{AreGathered}
use Rattle.order_clauses.proofs.gather.gather.Given as goal

abbrev pub invariant-loop-number : goal.invariant-loop-number
invariant-loop-number l = AreGathered l.atoms.atoms l.number l.sums l.links.items
