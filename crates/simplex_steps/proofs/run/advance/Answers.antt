use Rattle.std.proofs.Common.{subst}
use Rattle.simplex_steps.specs.Run.{IsFound}
use Rattle.simplex_steps.proofs.LineLemmas.{records_turn}
use Rattle.simplex_steps.proofs.run.advance.Goals as goal

pub returns-in-Ok-clause-advances : goal.returns-in-Ok-clause-advances
returns-in-Ok-clause-advances c = (
  c.in-Ok.ensures.advanced,
  records_turn c.args.kept.now.keep c.args.tableau.now c.record_turn.new.tableau c.args.columns.now c.record_turn.new.columns c.args.kept.now.lines.items c.record_turn.new.kept.lines.items c.in-Ok-Pivot.turn
      (subst (IsFound c.args.tableau.now c.args.columns.now) c.in-Ok-Pivot.field-0-is c.in-Ok-Pivot.ensures) c.in-Ok.ensures.advanced c.in-Ok.ensures.lines,
)
