use Rattle.clause_form.proofs.Gathering.{put_ok}
use Rattle.clause_form.proofs.gates.put.Goals as goal

pub returns : goal.returns
returns c = put_ok c.push.result c.push.new.self c.args.clauses.now c.args.clause.now c.push.ensures.ok
