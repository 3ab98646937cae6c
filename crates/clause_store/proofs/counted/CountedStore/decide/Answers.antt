use Rattle.std.proofs.Common.{◌+◌, None, refl}
use Rattle.clause_store.specs.Entries.{bare}
use Rattle.clause_store.specs.declared.trail.Step.{Step}
use Rattle.clause_store.proofs.Stores.{IsKept-decide}
use Rattle.clause_store.proofs.counted.CountedStore.decide.Goals as goal

pub invariant_of-self : goal.invariant_of-self
invariant_of-self c =
    let i = c.self.inside in
    let step : Step = record { literal = c.args.literal; depth = i.trail.depth + 1; reason = None } in
    rw c.decide.ensures (record { waits = c.self.invariant.waits; moves = c.self.invariant.moves; kept = IsKept-decide i.rows.entries (bare i.lists.items) i.trail i.head i.waiting.items i.empty step c.self.invariant.kept refl refl })
