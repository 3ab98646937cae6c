use Rattle.std.proofs.Common.{◌+◌, length, arith}
use Rattle.simplex_steps.proofs.Sound.{kept_through, settles_failed}
use Rattle.simplex_steps.proofs.turn.settle_suspects.Goals as goal

pub settle_one-requires-clause-sound : goal.settle_one-requires-clause-sound
settle_one-requires-clause-sound c = c.loop-variable.invariant.0.sound

pub settle_one-requires-clause-covers : goal.settle_one-requires-clause-covers
settle_one-requires-clause-covers c = c.loop-variable.invariant.3

pub returns-in_err-settle_one-clause-settles : goal.returns-in_err-settle_one-clause-settles
returns-in_err-settle_one-clause-settles c =
    settles_failed c.args.tableau.now c.args.columns.now c.loop-variable.columns c.settle_one.new.columns (c.in-Some.variable + 1) (length c.settle_one.new.columns) c.in_err-settle_one.field-0.0 c.settle_one.result c.from_residual.result
    c.loop-variable.invariant.0 c.in_err-settle_one.was c.settle_one.ensures.settles c.from_residual.ensures.1

pub loop-variable-preserved : goal.loop-variable-preserved
loop-variable-preserved c =
    let known = c.in-Some.ensures.known in
    let count = c.loop-variable.invariant.0.sound.solution.count in (
      kept_through c.args.tableau.now c.args.columns.now c.loop-variable.columns c.settle_one.new.columns c.loop-variable.invariant.0 c.settle_one.ensures.settles.kept,
      c.in_ok-settle_one.ensures.settles.settled,
      omega (arith, known, count),
      c.settle_one.ensures.covers,
    )
