use Rattle.std.proofs.Common.{◌<◌, ◌⊎◌}
use Rattle.literals.specs.Signed.{Signed, opposite}
use Rattle.clause_store.specs.Trail.{Assigns}
use Rattle.cdcl_core.proofs.order.first_open.Given as goal

abbrev pub invariant-loop-atom : goal.invariant-loop-atom
invariant-loop-atom l = (m : Signed) → m.atom < l.atom → Assigns l.store.trail.steps m ⊎ Assigns l.store.trail.steps (opposite m)
