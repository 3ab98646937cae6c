use Rattle.std.proofs.Common.{subst, sym, arith}
use Rattle.literals.specs.Signed.{Signed}
use Rattle.cdcl_core.proofs.Spans.{open-lasts, true-lasts, false-lasts}
use Rattle.clause_store.specs.Trail.{Assigns}
use Rattle.cdcl_core.proofs.Full.{twice}
use Rattle.cdcl_core.proofs.quiet.span_of.Goals as goal
use Rattle.clause_store.specs.From.{IsFrom}

pub returns-in-Open : goal.returns-in-Open
returns-in-Open c = open-lasts c.args.store.now.trail.steps c.args.literal 4294967295 4294967295 (omega arith) (omega arith) c.in-Open.ensures

pub returns-in-True : goal.returns-in-True
returns-in-True c = true-lasts c.args.store.now.trail.steps c.args.literal 4294967295 c.depth_of.result (omega arith) c.in-True.ensures c.depth_of.ensures

pub returns-in-False : goal.returns-in-False
returns-in-False c = false-lasts c.args.store.now.trail.steps c.args.literal c.depth_of-in-False.result 4294967295 (omega arith) (λ on. c.in-False.ensures.1 (subst (Assigns c.args.store.now.trail.steps) (sym (twice c.args.literal)) on)) (subst (λ (x : Signed). IsFrom c.args.store.now.trail.steps x c.depth_of-in-False.result) c.negated.ensures c.depth_of-in-False.ensures)
