use Rattle.clause_form.specs.Signs.{negated}
use Rattle.clause_form.proofs.More.{forces_more}
use Rattle.clause_form.proofs.forced_clauses.more_force_as_much.Goals as goal

pub returns : goal.returns
returns c = forces_more negated
