use Rattle.proof_terms.proofs.ClausesPlaces.{appended, ascend_after}
use Rattle.proof_terms.proofs.clauses_laid.append.Goals as goal

pub returns-clause-ascend : goal.returns-clause-ascend
returns-clause-ascend c = ascend_after c.args.rows.now c.args.clause.now c.requires.ascend c.requires.ascending c.push.new.self c.push.result c.push.ensures.ok c.push.ensures.err

pub returns-clause-ok : goal.returns-clause-ok
returns-clause-ok c = appended c.args.rows.now c.args.clause.now c.push.new.self c.push.result c.push.ensures.ok
