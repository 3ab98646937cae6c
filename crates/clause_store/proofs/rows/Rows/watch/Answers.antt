use Rattle.std.proofs.Common.{◌<◌, length, arith, map}
use Rattle.std.proofs.lemmas.List.{length-map}
use Rattle.clause_store.specs.Entries.{entry_of}
use Rattle.clause_store.proofs.Views.{watch-view}
use Rattle.clause_store.proofs.rows.Rows.watch.Goals as goal

pub returns-clause-entries : goal.returns-clause-entries
returns-clause-entries c =
    let within : c.args.i < length (map (entry_of c.self.inside.literals.items) c.self.inside.rows.items) = rw (← c.self.view_is) at c.requires in
    let lt : c.args.i < length c.self.inside.rows.items = omega (arith, length-map c.self.inside.rows.items (entry_of c.self.inside.literals.items)) in
    rw (← c.self.view_is) (watch-view c.self.inside.literals.items c.self.inside.rows.items c.args.i c.index-row.result.now c.args.first c.args.second lt c.index-row.ensures)
