use Rattle.std.proofs.Common.{subst}
use Rattle.sum_bounds.specs.Bounds.{State, Judges}
use Rattle.sum_bounds.proofs.Conflicts.{judged}
use Rattle.sum_bounds.proofs.state.SumBounds.look.Goals as goal

pub returns-clause-judges : goal.returns-clause-judges
returns-clause-judges c =
    subst (λ (s : State). Judges s c.finding_of.result) c.self.view_is
    (judged c.self.inside.simplex c.in_ok-verdict.verdict c.finding_of.result c.facts.ensures c.self.invariant.apart c.in_ok-verdict.ensures.judges c.finding_of.ensures)
