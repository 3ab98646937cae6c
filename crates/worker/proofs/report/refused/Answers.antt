use Rattle.std.proofs.Common.{[], subst, sym}
use Rattle.smt_meaning.specs.Report.{Shows}
use Rattle.worker.proofs.RefusalShown.{shown}
use Rattle.worker.proofs.report.refused.Goals as goal

pub plain_report-requires : goal.plain_report-requires
plain_report-requires c =
    let s = c.args.stack.now in
    subst (Shows s.trees s.frames c.args.settings.now.units []) (sym c.cause_of.ensures)
    (shown c.refused_term_leaves_range.ensures c.lawful_pairs_leave_range.ensures c.lawful_limits_leave_range.ensures s c.args.settings.now.units c.args.refusal c.laws.ensures c.requires)
