use Rattle.term_store.proofs.Uniform.{questions_join_alike}
use Rattle.term_store.proofs.questions_join_alike.Goals as goal

pub returns : goal.returns
returns c = questions_join_alike
