use Rattle.closure_log.specs.Whole.{KeepsApart}
use Rattle.closure_log.proofs.Wholeness.{gives_equalities}
use Rattle.closure_log.proofs.whole.whole_closure.Goals as goal

pub returns-in-None : goal.returns-in-None
returns-in-None c =
    let s = c.args.stack.now in
    let table = c.args.atoms.now.atoms in
    let log = c.args.log.now in
    let closure = c.in_ok-congruence.congruence in
    let apart : KeepsApart s.trees table log closure = rw c.in-None.is at c.in_ok-clause.ensures.found in
    record {
      grounded = c.in_ok-congruence.ensures.grounded;
      equalities = gives_equalities s.trees table log closure c.in_ok-congruence.ensures.all;
      apart = apart;
      classes = c.classes_are_said.ensures;
    }
