use Rattle.smt_sorts.proofs.ListedLemmas.{IsListed-take}
use Rattle.smt_sorts.proofs.entries.Entries.truncate.Goals as goal

pub invariant_of-self : goal.invariant_of-self
invariant_of-self c =
    rw (c.truncate.ensures.items, c.truncate-2.ensures.items, c.truncate-3.ensures)
    (IsListed-take c.self.inside.declarations.items c.self.inside.levels.items c.self.inside.index c.self.inside.indexed c.min-self-inside.result c.args.len c.self.invariant c.min-self-inside.ensures)
