use Rattle.std.proofs.Common.{refl, subst}
use Rattle.worker.specs.Outcome.{IsOutcome, MemoryAloneIsReported}
use Rattle.portfolio.proofs.Parts.{with_report, with_winner}
use Rattle.portfolio.proofs.tally.Tally.add.Goals as goal

pub returns-in-Report-clause-tallied : goal.returns-in-Report-clause-tallied
returns-in-Report-clause-tallied c s limit cs claim part memory before =
    with_report s limit cs claim c.in-Report.report c.args.self.now _ refl refl c.push_reserved.ensures.items
    (subst (IsOutcome s limit claim) c.in-Report.is part) (subst (MemoryAloneIsReported s.frames limit) c.in-Report.is memory) before

pub returns-in-Cancelled-clause-tallied : goal.returns-in-Cancelled-clause-tallied
returns-in-Cancelled-clause-tallied c s limit cs claim part memory before =
    with_winner s limit cs claim c.in-Cancelled.winner c.args.self.now _ refl refl refl (subst (IsOutcome s limit claim) c.in-Cancelled.is part) before
