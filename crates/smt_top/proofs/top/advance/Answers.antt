use Rattle.std.proofs.lemmas.Result.{err_from_is_err_and}
use Rattle.smt_top.proofs.Driving.{goes_on, cuts_off}
use Rattle.smt_top.proofs.top.advance.Goals as goal

pub returns-in_err-stage-clause-advances : goal.returns-in_err-stage-clause-advances
returns-in_err-stage-clause-advances g c =
    let p = err_from_is_err_and c.from_residual.result c.from_residual.ensures.1 in
    rw p.1 (cuts_off c.args.server.now c.serve.new.self _ _ _ _ _ _ c.serve.ensures.finished c.in_err-stage.field-0.0 p.0 p.2 c.in_err-stage.ensures.served c.in_err-stage.ensures.cause)

pub returns-clause-advances : goal.returns-clause-advances
returns-clause-advances g c = goes_on c.args.server.now c.serve.new.self _ _ _ _ _ _ c.serve.ensures.finished c.in_ok-stage.stage c.in_ok-stage.ensures.served c.serve.ensures.size c.in_ok-stage.ensures.numbered c.in_ok-stage.ensures.cause
