use Rattle.std.proofs.Common.{ap}
use Rattle.proof_terms.specs.Kept.{Kept}
use Rattle.proof_form.proofs.whole.judge_steps.Goals as goal

pub judge_each-requires-clause-none : goal.judge_each-requires-clause-none
judge_each-requires-clause-none c = ap (λ (k : Kept). k.clauses) c.new-clauses.ensures
