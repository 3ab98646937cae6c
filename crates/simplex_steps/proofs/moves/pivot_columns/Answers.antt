use Rattle.std.proofs.Common.{◌≡◌, ◌∙◌, ap, sym, subst, refl, arith, rules, List}
use Rattle.std.proofs.lemmas.Int.{to_z-of_z}
use Rattle.std.specs.Int.{w128}
use Rattle.fraction128.specs.declared.ratio.Ratio.{Ratio}
use Rattle.fraction128.specs.Number.{whole}
use Rattle.fraction128.specs.Listed.{sum_of}
use Rattle.tableau.specs.Table.{row_at}
use Rattle.simplex_steps.specs.Moved.{shifts, AreShifts, landed, row_distance}
use Rattle.simplex_steps.specs.State.{values}
use Rattle.simplex_steps.proofs.Columns.{entry_not_zero}
use Rattle.simplex_steps.specs.Suspects.{Covers, AreListed}
use Rattle.simplex_steps.specs.declared.moves.Moved.{Moved}
use Rattle.simplex_steps.proofs.Shifts.{moves_known, shifts_landed, pivot_landed}
use Rattle.simplex_steps.proofs.SuspectLemmas.{covers_set, covers_landed}
use Rattle.simplex_steps.proofs.moves.pivot_columns.Goals as goal

pub list_pivot-requires-clause-nonzero : goal.list_pivot-requires-clause-nonzero
list_pivot-requires-clause-nonzero c = entry_not_zero c.args.entering _ (c.facts.ensures.ascending c.args.place c.requires.pivot.in_rows) c.requires.pivot.entry

pub suspect-requires-clause-moved : goal.suspect-requires-clause-moved
suspect-requires-clause-moved c =
    let dist = row_distance c.args.tableau.now.rows c.args.columns.now c.args.place c.args.number c.args.entering in
    moves_known c.args.tableau.now c.args.columns.now c.args.entering dist c.deref.result.now c.facts.ensures c.requires.pivot.count
    (subst (AreShifts c.args.columns.now c.args.entering dist c.args.tableau.now.rows) (sym c.deref.ensures.value)
    (subst (λ n. AreShifts c.args.columns.now c.args.entering (row_distance c.args.tableau.now.rows c.args.columns.now c.args.place n c.args.entering) c.args.tableau.now.rows c.list_pivot.new.moved.items) (to_z-of_z w128 c.args.number c.ranges.number)
    c.in_ok-value.ensures.moved))

pub land-requires-clause-moved : goal.land-requires-clause-moved
land-requires-clause-moved c =
    let dist = row_distance c.args.tableau.now.rows c.args.columns.now c.args.place c.args.number c.args.entering in
    moves_known c.args.tableau.now c.args.columns.now c.args.entering dist c.deref-2.result.now c.facts.ensures c.requires.pivot.count
    (subst (AreShifts c.args.columns.now c.args.entering dist c.args.tableau.now.rows) (sym c.deref-2.ensures.value)
    (subst (λ n. AreShifts c.args.columns.now c.args.entering (row_distance c.args.tableau.now.rows c.args.columns.now c.args.place n c.args.entering) c.args.tableau.now.rows c.list_pivot.new.moved.items) (to_z-of_z w128 c.args.number c.ranges.number)
    c.in_ok-value.ensures.moved))

pub returns-clause-columns : goal.returns-clause-columns
returns-clause-columns c =
    let cs = c.args.columns.now in
    let dist = row_distance c.args.tableau.now.rows cs c.args.place c.args.number c.args.entering in
    let number : c.from_whole.result ≡ whole c.args.number = search rules in
    let ds = landed (shifts cs c.args.entering dist c.args.tableau.now.rows) cs c.args.entering (sum_of (values cs c.args.entering) dist) in
    pivot_landed c.land.new.columns ds c.basic-basic.result (row_at c.args.tableau.now.rows c.args.place).basic c.index-columns-basic.result c.from_whole.result c.args.number
    (c.land.ensures
    ∙ shifts_landed c.args.tableau.now cs c.args.entering dist c.deref-2.result.now c.args.entering c.in_ok-value.value c.facts.ensures
    (subst (AreShifts cs c.args.entering dist c.args.tableau.now.rows) (sym c.deref-2.ensures.value)
    (subst (λ n. AreShifts cs c.args.entering (row_distance c.args.tableau.now.rows cs c.args.place n c.args.entering) c.args.tableau.now.rows c.list_pivot.new.moved.items) (to_z-of_z w128 c.args.number c.ranges.number)
    c.in_ok-value.ensures.moved))
    ∙ ap (λ (x : Ratio). landed (shifts cs c.args.entering dist c.args.tableau.now.rows) cs c.args.entering x)
    (subst (λ n. c.in_ok-value.value ≡ sum_of (values cs c.args.entering) (row_distance c.args.tableau.now.rows cs c.args.place n c.args.entering)) (to_z-of_z w128 c.args.number c.ranges.number) c.in_ok-value.ensures.value))
    c.basic-basic.ensures.value (omega (arith, c.basic-basic.ensures.known, c.requires.pivot.count, c.land.auto.columns)) number

pub returns-clause-covers : goal.returns-clause-covers
returns-clause-covers c =
    let listed = subst (λ (ms : List Moved). AreListed c.suspect.new.suspects.variables ms c.args.entering c.basic-basic.result) (c.deref.ensures.value ∙ sym c.deref-2.ensures.value) c.in_ok-suspect.ensures.listed in
    covers_set c.suspect.new.suspects c.land.new.columns c.basic-basic.result _
    (subst (Covers c.suspect.new.suspects) (sym c.land.ensures)
    (covers_landed c.suspect.new.suspects c.deref-2.result.now c.args.columns.now c.args.entering c.args.entering c.basic-basic.result c.in_ok-value.value c.suspect.ensures.covers listed refl))
    listed.second
