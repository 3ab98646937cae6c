use Rattle.std.proofs.Common.{◌<◌, length, arith, map, ap, ◌∙◌}
use Rattle.std.proofs.lemmas.List.{length-map}
use Rattle.clause_store.specs.Entries.{Held, entry_of}
use Rattle.clause_store.proofs.Views.{place-view}
use Rattle.clause_store.proofs.rows.Rows.go_on.Goals as goal

pub returns-clause-entries : goal.returns-clause-entries
returns-clause-entries c =
    let within : c.args.i < length (map (entry_of c.self.inside.literals.items) c.self.inside.rows.items) = rw (← c.self.view_is) at c.requires in
    let lt : c.args.i < length c.self.inside.rows.items = omega (arith, length-map c.self.inside.rows.items (entry_of c.self.inside.literals.items)) in
    place-view c.self.inside.literals.items c.self.inside.rows.items c.args.i c.if-place.place c.index_mut-row.result.now lt c.index_mut-row.ensures.value ∙ ap (λ (h : Held). h.entries) c.self.view_is
