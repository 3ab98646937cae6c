use Rattle.std.proofs.Common.{◌+◌, ◌<◌, ◌∙◌, ap, sym, length, arith, rules}
use Rattle.std.proofs.lemmas.List.{get_or_default}
use Rattle.fraction128.specs.Grid.{missed}
use Rattle.simplex_steps.specs.State.{no_column}
use Rattle.simplex_steps.proofs.Sound.{settles_moved, settles_none, settled_within, settled_basic}
use Rattle.simplex_steps.proofs.turn.settle_one.Goals as goal

pub returns-in-None-place_of-clause-settles : goal.returns-in-None-place_of-clause-settles
returns-in-None-place_of-clause-settles c =
    settles_moved c.args.tableau.now c.args.columns.now c.make_move.new.columns (c.args.variable + 1) c.make_move.result c.requires.sound c.make_move.ensures.moved c.make_move.ensures.range c.make_move.ensures.err

pub returns-in-Some-place_of-clause-settles : goal.returns-in-Some-place_of-clause-settles
returns-in-Some-place_of-clause-settles c =
    settles_none c.args.tableau.now c.args.columns.now (c.args.variable + 1) _ c.requires.sound (settled_basic c.args.tableau.now c.args.columns.now c.args.variable c.requires.settled (search rules))

pub returns-in-None-clause-settles : goal.returns-in-None-clause-settles
returns-in-None-clause-settles c =
    let inside : c.args.variable < length c.args.columns.now = let count = c.requires.sound.solution.count in omega (arith, c.requires.known, count) in
    let within = ap missed (get_or_default c.args.columns.now c.args.variable no_column c.index-columns-variable.result inside) ∙ sym c.missed.ensures ∙ c.in-None.is in
    settles_none c.args.tableau.now c.args.columns.now (c.args.variable + 1) _ c.requires.sound (settled_within c.args.tableau.now c.args.columns.now c.args.variable c.requires.settled within)
