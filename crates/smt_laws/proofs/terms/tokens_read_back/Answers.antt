use Rattle.smt_laws.proofs.SexpLaw.{sexp-tokens, is_sexp-tokens}
use Rattle.smt_laws.proofs.terms.tokens_read_back.Goals as goal

pub returns : goal.returns
returns c = λ s h. (is_sexp-tokens s h, sexp-tokens s h)
