use Rattle.proof_terms.proofs.FormNumbers.{extends_by}
use Rattle.proof_terms.proofs.form_parts.number_truth.Goals as goal

pub returns-in_err-code-clause-more : goal.returns-in_err-code-clause-more
returns-in_err-code-clause-more c = extends_by c.args.clauses.now c.truth.new.self c.truth.ensures.atoms c.truth.ensures.clauses

pub returns-clause-more : goal.returns-clause-more
returns-clause-more c = extends_by c.args.clauses.now c.truth.new.self c.truth.ensures.atoms c.truth.ensures.clauses
