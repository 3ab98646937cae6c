use Rattle.std.proofs.Common.{rules, drop, subst}
use Rattle.clause_store.specs.Empties.{IsEmptyAt, NamesEmpty}
use Rattle.clause_store.proofs.Stores.{Propagated-none}
use Rattle.clause_store.proofs.Fewer.{none_has, empty_false}
use Rattle.clause_store.proofs.Pairs.{LooksBy-none}
use Rattle.clause_store.proofs.counted.CountedStore.propagate.Goals as goal

pub by_watches-requires : goal.by_watches-requires
by_watches-requires c =
    let i = c.self.inside in
    rw (← c.self.view_is) (none_has i.rows.entries (subst (NamesEmpty i.rows.entries) c.in-None.is c.self.invariant.kept.empty_is))

pub returns-in-Some : goal.returns-in-Some
returns-in-Some c = record {
  reached = Propagated-none c.args.self.now.stored;
  looks = search rules;
  settled = search rules;
  bounded =
      (let i = c.self.inside in
      rw (← c.self.view_is) (LooksBy-none (drop i.head i.trail.steps) i.rows.entries i.rows.looks));
  outcome =
      (let i = c.self.inside in
      let at : IsEmptyAt i.rows.entries c.in-Some.row = subst (NamesEmpty i.rows.entries) c.in-Some.is c.self.invariant.kept.empty_is in
      rw (← c.self.view_is) (empty_false i.rows.entries c.in-Some.row i.trail.steps at));
}
