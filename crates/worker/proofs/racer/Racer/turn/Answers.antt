use Rattle.smt_meaning.specs.Stack.{depth}
use Rattle.worker.proofs.Steps.{only_looked, turned}
use Rattle.worker.proofs.racer.Racer.turn.Goals as goal

pub returns-in-Some-clause-turned : goal.returns-in-Some-clause-turned
returns-in-Some-clause-turned g c =
    only_looked (depth c.args.self.now.stack.now.frames) c.args.self.now.pass c.look.new.pass c.args.self.now.sent c.args.budget.now c.look.ensures.same c.look.ensures.adds

pub returns-clause-turned : goal.returns-clause-turned
returns-clause-turned g c =
    turned (depth c.args.self.now.stack.now.frames) c.args.self.now.pass c.look.new.pass c.share_next.new.self.pass c.take_clauses.new.pass c.args.self.now.sent c.share_next.new.self.sent c.args.budget.now
    c.look.ensures.same c.look.ensures.adds c.share_next.ensures.same c.share_next.ensures.shares c.take_clauses.ensures.same c.take_clauses.ensures.adds
