use Rattle.std.proofs.Common.{◌≡◌, ◌∙◌, sym, ap, Some, None}
use Rattle.smt_meaning.specs.Interpretation.{meaning}
use Rattle.model_eval.specs.Tables.{first_place}
use Rattle.model_eval.proofs.TableLemmas.{first_place_within, meaning_at, meaning_none}
use Rattle.model_eval.proofs.tables.look_up.Goals as goal

pub table_at-table-requires : goal.table_at-table-requires
table_at-table-requires c =
    let place : first_place c.tables.inside.tables.now c.args.symbol ≡ Some c.in-Some.place = sym c.place_of.ensures ∙ c.in-Some.is in
    first_place_within c.tables.inside.tables.now c.args.symbol c.in-Some.place place

pub index_at-requires-clause-within : goal.index_at-requires-clause-within
index_at-requires-clause-within c =
    let place : first_place c.tables.inside.tables.now c.args.symbol ≡ Some c.in-Some.place = sym c.place_of.ensures ∙ c.in-Some.is in
    first_place_within c.tables.inside.tables.now c.args.symbol c.in-Some.place place

pub returns-in-Some : goal.returns-in-Some
returns-in-Some c =
    let place : first_place c.tables.inside.tables.now c.args.symbol ≡ Some c.in-Some.place = sym c.place_of.ensures ∙ c.in-Some.is in
    c.value_in.ensures
    ∙ sym (meaning_at c.tables.inside.tables.now c.args.symbol c.args.arguments.now c.in-Some.place c.table_at-table.result.now place c.table_at-table.ensures)
    ∙ ap (λ ts. meaning ts c.args.symbol c.args.arguments.now) c.tables.view_is

pub returns-in-None : goal.returns-in-None
returns-in-None c =
    let place : first_place c.tables.inside.tables.now c.args.symbol ≡ None = sym c.place_of.ensures ∙ c.in-None.is in
    sym (meaning_none c.tables.inside.tables.now c.args.symbol c.args.arguments.now place) ∙ ap (λ ts. meaning ts c.args.symbol c.args.arguments.now) c.tables.view_is
