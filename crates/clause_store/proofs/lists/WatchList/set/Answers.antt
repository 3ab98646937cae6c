use Rattle.std.proofs.Common.{◌≡◌, List, set, sym, ap, ◌∙◌}
use Rattle.std.proofs.lemmas.List.{set-get_or}
use Rattle.clause_store.specs.Entries.{Listing}
use Rattle.clause_store.specs.declared.lists.Watch.{Watch}
use Rattle.clause_store.proofs.lists.WatchList.set.Goals as goal

pub returns-else-not-is_at : goal.returns-else-not-is_at
returns-else-not-is_at c =
    let x : Listing = c.args.self.now in
    let same : set x.watches c.args.k c.args.watch ≡ x.watches = ap (λ (w : Watch). set x.watches c.args.k w) (c.is_at.ensures c.if-not-is_at.false) ∙ set-get_or x.watches c.args.k c.args.watch in
    sym (ap (λ (ws : List Watch). let y : Listing = record { watches = ws; room = x.room } in y) same)
