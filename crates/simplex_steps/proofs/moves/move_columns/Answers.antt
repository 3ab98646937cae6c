use Rattle.std.proofs.Common.{◌≡◌, sym, subst, ap, ◌∙◌, refl, rules, List}
use Rattle.std.proofs.lemmas.Int.{to_z-of_z}
use Rattle.std.specs.Int.{w128}
use Rattle.fraction128.specs.declared.ratio.Ratio.{Ratio}
use Rattle.fraction128.specs.Number.{whole}
use Rattle.fraction128.specs.Grid.{distance}
use Rattle.simplex_steps.specs.Moved.{shifts, AreShifts, landed}
use Rattle.simplex_steps.specs.State.{values}
use Rattle.simplex_steps.specs.Suspects.{Covers, AreListed}
use Rattle.simplex_steps.specs.declared.moves.Moved.{Moved}
use Rattle.simplex_steps.proofs.Shifts.{moves_known, shifts_landed}
use Rattle.simplex_steps.proofs.SuspectLemmas.{covers_landed}
use Rattle.simplex_steps.proofs.moves.move_columns.Goals as goal

pub suspect-requires-clause-moved : goal.suspect-requires-clause-moved
suspect-requires-clause-moved c =
    let dist = distance c.args.number (values c.args.columns.now c.args.variable) in
    moves_known c.args.tableau.now c.args.columns.now c.args.variable dist c.deref.result.now c.facts.ensures c.requires.count
    (subst (AreShifts c.args.columns.now c.args.variable dist c.args.tableau.now.rows) (sym c.deref.ensures.value)
    (subst (λ n. AreShifts c.args.columns.now c.args.variable (distance n (values c.args.columns.now c.args.variable)) c.args.tableau.now.rows c.list_move.new.moved.items) (to_z-of_z w128 c.args.number c.ranges.number)
    c.in_ok-list_move.ensures.ok))

pub land-requires-clause-moved : goal.land-requires-clause-moved
land-requires-clause-moved c =
    let dist = distance c.args.number (values c.args.columns.now c.args.variable) in
    moves_known c.args.tableau.now c.args.columns.now c.args.variable dist c.deref-2.result.now c.facts.ensures c.requires.count
    (subst (AreShifts c.args.columns.now c.args.variable dist c.args.tableau.now.rows) (sym c.deref-2.ensures.value)
    (subst (λ n. AreShifts c.args.columns.now c.args.variable (distance n (values c.args.columns.now c.args.variable)) c.args.tableau.now.rows c.list_move.new.moved.items) (to_z-of_z w128 c.args.number c.ranges.number)
    c.in_ok-list_move.ensures.ok))

pub returns-clause-ok : goal.returns-clause-ok
returns-clause-ok c =
    let dist = distance c.args.number (values c.args.columns.now c.args.variable) in
    let number : c.from_whole.result ≡ whole c.args.number = search rules in
    c.land.ensures
    ∙ shifts_landed c.args.tableau.now c.args.columns.now c.args.variable dist c.deref-2.result.now c.args.variable c.from_whole.result c.facts.ensures
    (subst (AreShifts c.args.columns.now c.args.variable dist c.args.tableau.now.rows) (sym c.deref-2.ensures.value)
    (subst (λ n. AreShifts c.args.columns.now c.args.variable (distance n (values c.args.columns.now c.args.variable)) c.args.tableau.now.rows c.list_move.new.moved.items) (to_z-of_z w128 c.args.number c.ranges.number)
    c.in_ok-list_move.ensures.ok))
    ∙ ap (λ (x : Ratio). landed (shifts c.args.columns.now c.args.variable dist c.args.tableau.now.rows) c.args.columns.now c.args.variable x) number

pub returns-clause-covers : goal.returns-clause-covers
returns-clause-covers c =
    subst (Covers c.suspect.new.suspects) (sym c.land.ensures)
    (covers_landed c.suspect.new.suspects c.deref-2.result.now c.args.columns.now c.args.variable c.args.variable c.args.variable c.from_whole.result c.suspect.ensures.covers
    (subst (λ (ms : List Moved). AreListed c.suspect.new.suspects.variables ms c.args.variable c.args.variable) (c.deref.ensures.value ∙ sym c.deref-2.ensures.value) c.in_ok-suspect.ensures.listed) refl)
