use Rattle.simplex_steps.proofs.SuspectLemmas.{IsLeastOf, crosses}
use Rattle.simplex_steps.proofs.find.first_crossed.Given as goal

abbrev pub invariant-loop-variable : goal.invariant-loop-variable
invariant-loop-variable l = IsLeastOf (crosses l.columns) l.listed l.variable-index l.found
