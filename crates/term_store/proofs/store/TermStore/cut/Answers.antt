use Rattle.std.proofs.Common.{ap}
use Rattle.term_store.proofs.StoreLemmas.{IsStore-cut}
use Rattle.term_store.proofs.store.TermStore.cut.Goals as goal

pub invariant_of-self : goal.invariant_of-self
invariant_of-self c = rw (c.truncate.ensures, c.truncate-2.ensures) (IsStore-cut c.self.inside.limit c.args.len c.self.inside.rows c.self.inside.index c.self.invariant).store

pub returns : goal.returns
returns c =
    rw (c.truncate.ensures, ← c.self.view_is)
    (ap (λ ts. record { limit = c.self.inside.limit; trees = ts }) (IsStore-cut c.self.inside.limit c.args.len c.self.inside.rows c.self.inside.index c.self.invariant).view)
