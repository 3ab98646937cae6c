use Rattle.clause_store.proofs.Fewer.{own_ids}
use Rattle.clause_store.proofs.counted.CountedStore.steps.Goals as goal

pub returns-clause-justified : goal.returns-clause-justified
returns-clause-justified c = rw (← c.self.view_is) c.self.invariant.kept.justified

pub returns-clause-unique : goal.returns-clause-unique
returns-clause-unique c = rw (← c.self.view_is) (own_ids c.self.inside.rows.entries)

pub returns-clause-fresh : goal.returns-clause-fresh
returns-clause-fresh c = rw (← c.self.view_is) c.steps.ensures.fresh

pub returns-clause-consistent : goal.returns-clause-consistent
returns-clause-consistent c = rw (← c.self.view_is) c.steps.ensures.consistent

pub returns-clause-in_order : goal.returns-clause-in_order
returns-clause-in_order c = rw (← c.self.view_is) c.steps.ensures.in_order

pub returns-clause-deepest : goal.returns-clause-deepest
returns-clause-deepest c = rw (← c.self.view_is) c.steps.ensures.deepest

pub returns-clause-decided : goal.returns-clause-decided
returns-clause-decided c = rw (← c.self.view_is) c.steps.ensures.decided
