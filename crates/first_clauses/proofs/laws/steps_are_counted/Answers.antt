use Rattle.first_clauses.proofs.StepExamples.{of_four, of_true, not_none}
use Rattle.first_clauses.proofs.laws.steps_are_counted.Goals as goal

pub returns : goal.returns
returns c = record { of_four = of_four; of_true = of_true; not_none = not_none }
