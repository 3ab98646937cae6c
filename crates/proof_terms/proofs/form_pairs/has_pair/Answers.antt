use Rattle.std.proofs.Common.{◌≡◌, true, sym, ◌∙◌}
use Rattle.proof_terms.proofs.FormChosen.{from_in}
use Rattle.proof_terms.proofs.FormNumbers.{extends_by}
use Rattle.proof_terms.proofs.form_pairs.has_pair.Goals as goal

pub returns-clause-yes : goal.returns-clause-yes
returns-clause-yes c = λ e.
    let is_true : c.has.result ≡ true = cc in
    record { code = c.in_ok-code.code; is_code = c.in_ok-code.ensures.code; inside = from_in c.args.codes.now c.in_ok-code.code (sym c.has.ensures ∙ is_true) }

pub returns-in_err-code-clause-more : goal.returns-in_err-code-clause-more
returns-in_err-code-clause-more c = extends_by c.args.clauses.now c.same.new.self c.same.ensures.atoms c.same.ensures.clauses

pub returns-clause-more : goal.returns-clause-more
returns-clause-more c = extends_by c.args.clauses.now c.same.new.self c.same.ensures.atoms c.same.ensures.clauses
