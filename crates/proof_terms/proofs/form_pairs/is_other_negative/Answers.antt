use Rattle.std.proofs.Common.{◌/◌, sym}
use Rattle.proof_terms.proofs.FormChosen.{half_twice, not_same}
use Rattle.proof_terms.proofs.form_pairs.is_other_negative.Goals as goal

pub returns-clause-yes : goal.returns-clause-yes
returns-clause-yes c = λ e. (c.args.code / 2, not_same (c.args.code / 2) c.args.own e, sym (half_twice c.args.code c.if-code-eq1.false))
