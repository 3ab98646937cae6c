use Rattle.proof_terms.proofs.FormNumbers.{extends_by}
use Rattle.proof_terms.proofs.form_parts.number_same.Goals as goal

pub returns-in_err-code-clause-more : goal.returns-in_err-code-clause-more
returns-in_err-code-clause-more c = extends_by c.args.clauses.now c.same.new.self c.same.ensures.atoms c.same.ensures.clauses

pub returns-clause-more : goal.returns-clause-more
returns-clause-more c = extends_by c.args.clauses.now c.same.new.self c.same.ensures.atoms c.same.ensures.clauses
