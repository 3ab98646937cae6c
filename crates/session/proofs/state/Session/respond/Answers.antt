use Rattle.std.proofs.lemmas.Result.{IfOk-weaker}
use Rattle.session.proofs.Replies.{assumed_reply, core_reply_so, assumptions_reply_so, minimum_reply}
use Rattle.session.proofs.state.Session.respond.Goals as goal

pub returns-in-CheckSatAssuming-clause-ok : goal.returns-in-CheckSatAssuming-clause-ok
returns-in-CheckSatAssuming-clause-ok g c =
    IfOk-weaker c.check_assuming.result _ _
    (λ a h. assumed_reply c.args.self.now c.args.command.now c.in-CheckSatAssuming.terms c.as_slice.result.now a.0 a.1 c.check_assuming.new.self c.in-CheckSatAssuming.is c.as_slice.ensures h)
    c.check_assuming.ensures.ok

pub returns-in-GetUnsatCore-clause-ok : goal.returns-in-GetUnsatCore-clause-ok
returns-in-GetUnsatCore-clause-ok g c =
    IfOk-weaker c.get_unsat_core.result _ _
    (λ a h. core_reply_so c.args.self.now c.args.command.now a.0 a.1 c.get_unsat_core.new.self c.in-GetUnsatCore.is h)
    c.get_unsat_core.ensures.ok

pub returns-in-GetUnsatAssumptions-clause-ok : goal.returns-in-GetUnsatAssumptions-clause-ok
returns-in-GetUnsatAssumptions-clause-ok g c =
    IfOk-weaker c.get_unsat_assumptions.result _ _
    (λ a h. assumptions_reply_so c.args.self.now c.args.command.now a.0 a.1 c.get_unsat_assumptions.new.self c.in-GetUnsatAssumptions.is h)
    c.get_unsat_assumptions.ensures.ok

pub returns-in-Minimize-clause-ok : goal.returns-in-Minimize-clause-ok
returns-in-Minimize-clause-ok g c =
    IfOk-weaker c.minimize.result _ _
    (λ a h. minimum_reply c.args.self.now c.args.command.now c.in-Minimize.term a.0 a.1 c.minimize.new.self c.in-Minimize.is h)
    c.minimize.ensures.ok
