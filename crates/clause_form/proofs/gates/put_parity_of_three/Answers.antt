use Rattle.clause_form.proofs.Putting.{three_ok}
use Rattle.clause_form.proofs.gates.put_parity_of_three.Goals as goal

pub returns : goal.returns
returns c =
    three_ok c.put_excluding_all-2.result c.args.t c.args.x c.negated.result c.args.y c.args.z c.args.clauses.now c.put_excluding_all.new.clauses c.put_excluding_all-2.new.clauses
    c.requires.x c.negated.ensures c.in_ok-put_excluding_all.ensures c.put_excluding_all-2.ensures
