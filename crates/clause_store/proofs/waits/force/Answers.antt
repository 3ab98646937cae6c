use Rattle.std.proofs.Common.{refl, inr}
use Rattle.clause_store.proofs.Kept.{Assigns-new}
use Rattle.clause_store.proofs.waits.force.Goals as goal

pub returns-in-Open-clause-gives : goal.returns-in-Open-clause-gives
returns-in-Open-clause-gives c = rw c.assign.ensures.steps (Assigns-new c.args.trail.now.steps _, inr refl)
