use Rattle.std.proofs.Common.{subst, length}
use Rattle.sum_bounds.specs.Bounds.{IsState}
use Rattle.sum_bounds.proofs.Values.{known_told}
use Rattle.sum_bounds.proofs.Origins.{told_on, all_taken}
use Rattle.sum_bounds.proofs.state.SumBounds.facts.Goals as goal

pub returns : goal.returns
returns c =
    let s = c.self.inside.simplex in
    let h = c.facts.ensures in
    subst IsState c.self.view_is
    (record { solution = h.solution; meant = h.meant; known = known_told (length s.columns) s.bounds h.known; apart = c.self.invariant.apart; origins = told_on s h; taken = all_taken s h })
