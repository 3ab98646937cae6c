use Rattle.std.proofs.Common.{sym, subst}
use Rattle.simplex_steps.specs.State.{AreRanged}
use Rattle.simplex.proofs.BoundLemmas.{ranged_of}
use Rattle.simplex.proofs.state.Simplex.look.Goals as goal

pub look-requires-clause-ranged : goal.look-requires-clause-ranged
look-requires-clause-ranged c = subst AreRanged (sym c.deref.ensures.value) (ranged_of c.self.inside.tableau c.self.inside.columns.items c.self.inside.trail c.self.invariant.core)
