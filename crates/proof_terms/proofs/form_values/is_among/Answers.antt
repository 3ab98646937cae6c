use Rattle.std.proofs.Common.{sym, ◌∙◌, inr}
use Rattle.proof_terms.proofs.FormChosen.{from_in}
use Rattle.proof_terms.proofs.form_values.is_among.Goals as goal

pub returns-clause-yes : goal.returns-clause-yes
returns-clause-yes c = λ e. inr (from_in c.args.sorted.now _ (sym c.has.ensures ∙ e))
