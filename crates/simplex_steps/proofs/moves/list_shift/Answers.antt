use Rattle.std.proofs.Common.{subst}
use Rattle.fraction128.specs.Ratio.{IsFraction}
use Rattle.simplex_steps.proofs.Columns.{lacking_fits, value_in}
use Rattle.simplex_steps.proofs.moves.list_shift.Goals as goal

pub returns-in-None-clause-fits : goal.returns-in-None-clause-fits
returns-in-None-clause-fits c =
    lacking_fits c.args.tableau.now.rows c.args.columns.now c.args.place c.args.variable c.args.distance
    (subst IsFraction (value_in c.args.tableau.now c.args.columns.now c.args.place c.basic-basic.result c.index-columns-basic.result c.requires.count c.basic-basic.ensures.value c.basic-basic.ensures.known) c.ratio-value.ensures.lowest)
    c.ratio-distance.ensures.lowest c.in-None.ensures.none
