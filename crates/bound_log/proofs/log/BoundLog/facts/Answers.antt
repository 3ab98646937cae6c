use Rattle.std.proofs.Common.{subst}
use Rattle.bound_log.specs.Told.{IsState}
use Rattle.bound_log.proofs.Telling.{state_is}
use Rattle.bound_log.proofs.log.BoundLog.facts.Goals as goal

pub returns : goal.returns
returns c =
    let s = c.self.inside in
    subst IsState c.self.view_is (state_is s.bounds s.said.items s.log.items s.starts.items c.facts.ensures c.self.invariant.0)
