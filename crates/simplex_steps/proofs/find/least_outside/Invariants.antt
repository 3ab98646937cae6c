use Rattle.simplex_steps.proofs.SuspectLemmas.{IsLeastOf, is_free_out}
use Rattle.simplex_steps.proofs.find.least_outside.Given as goal

abbrev pub invariant-loop-variable : goal.invariant-loop-variable
invariant-loop-variable l = IsLeastOf (is_free_out l.tableau.rows l.columns) l.listed l.variable-index l.found
