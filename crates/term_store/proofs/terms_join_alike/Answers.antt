use Rattle.term_store.proofs.Uniform.{terms_join_alike}
use Rattle.term_store.proofs.terms_join_alike.Goals as goal

pub returns : goal.returns
returns c = terms_join_alike
