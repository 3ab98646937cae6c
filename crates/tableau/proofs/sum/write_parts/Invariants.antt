use Rattle.tableau.proofs.Writing.{IsPartial}
use Rattle.tableau.proofs.sum.write_parts.Given as goal

abbrev pub invariant-loop-part : goal.invariant-loop-part
invariant-loop-part l = IsPartial l.tableau l.parts l.part-index l.sum.items
