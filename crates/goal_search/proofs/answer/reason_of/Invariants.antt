use Rattle.std.proofs.Common.{◌≡◌, drop}
use Rattle.std.specs.List.{list_any}
use Rattle.smt_meaning.specs.Report.{wants_memory}
use Rattle.goal_search.proofs.answer.reason_of.Given as goal

abbrev pub invariant-loop-report : goal.invariant-loop-report
invariant-loop-report l = list_any wants_memory (drop l.report-index l.reports) ≡ list_any wants_memory l.reports
