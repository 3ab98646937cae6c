use Rattle.first_clauses.proofs.HoldingExamples.{decided, not_decided}
use Rattle.first_clauses.proofs.laws.negations_are_decided.Goals as goal

pub returns : goal.returns
returns c = record { decided = decided; not_decided = not_decided }
