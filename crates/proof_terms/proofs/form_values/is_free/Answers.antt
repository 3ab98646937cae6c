use Rattle.std.proofs.Common.{sym, ◌∙◌, true, false}
use Rattle.proof_terms.proofs.FormChosen.{negative, positive}
use Rattle.proof_terms.proofs.FormForcing.{turn}
use Rattle.proof_terms.proofs.form_values.is_free.Goals as goal

pub returns-then-has-clause-given : goal.returns-then-has-clause-given
returns-then-has-clause-given c = λ _. (false, negative c.args.codes.now c.args.number (sym c.has.ensures ∙ c.if-has.true))

pub returns-clause-given : goal.returns-clause-given
returns-clause-given c = λ e. (true, positive c.args.codes.now c.args.number (sym c.has-2.ensures ∙ turn c.has-2.result false e))
