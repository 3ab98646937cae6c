use Rattle.smt_laws.proofs.Questions.{questions_are_assertions}
use Rattle.smt_laws.proofs.terms.questions_are_assertions.Goals as goal

pub returns : goal.returns
returns c = questions_are_assertions
