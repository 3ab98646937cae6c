use Rattle.std.proofs.Common.{◌≡◌, false, sym, subst}
use Rattle.fraction128.specs.Whole.{InRange}
use Rattle.fraction128.proofs.Integers.{same_bits}
use Rattle.tableau.proofs.RowLemmas.{if_err_then}
use Rattle.simplex_steps.specs.Moved.{moved_fits}
use Rattle.simplex_steps.specs.State.{column_in}
use Rattle.simplex_steps.proofs.Next.{missed_ranged}
use Rattle.simplex_steps.proofs.Sound.{move_done, move_fails}
use Rattle.simplex_steps.proofs.turn.make_move.Goals as goal

pub move_columns-requires-clause-number : goal.move_columns-requires-clause-number
move_columns-requires-clause-number c =
    let r = c.requires.sound.ranged c.args.variable in
    let q : InRange c.args.number = missed_ranged (column_in c.args.columns.now c.args.variable) c.args.number r.0 r.1 c.requires.outside in
    subst InRange (sym (same_bits c.args.number q)) q

pub returns-clause-moved : goal.returns-clause-moved
returns-clause-moved c =
    let r = c.requires.sound.ranged c.args.variable in
    let same = same_bits c.args.number (missed_ranged (column_in c.args.columns.now c.args.variable) c.args.number r.0 r.1 c.requires.outside) in
    move_done c.move_columns.result c.args.tableau.now c.args.columns.now c.move_columns.new.columns c.args.variable c.args.number _ c.facts.ensures c.requires.sound c.requires.known c.requires.free c.requires.outside
    c.requires.settled same c.move_columns.ensures.ok c.move_columns.ensures.fits

pub returns-clause-range : goal.returns-clause-range
returns-clause-range c =
    let r = c.requires.sound.ranged c.args.variable in
    let same = same_bits c.args.number (missed_ranged (column_in c.args.columns.now c.args.variable) c.args.number r.0 r.1 c.requires.outside) in
    if_err_then c.move_columns.result
    (λ e h w. move_fails c.args.tableau.now c.args.columns.now c.args.variable c.args.number c.requires.sound c.requires.known c.requires.free c.requires.outside c.requires.settled
    (subst (λ n. moved_fits c.args.tableau.now.rows c.args.columns.now c.args.variable n ≡ false) same (h w)))
    c.move_columns.ensures.range
