use Rattle.std.proofs.Common.{◌≡◌, drop}
use Rattle.smt_meaning.specs.Interpretation.{look}
use Rattle.model_eval.proofs.rows.scan.Given as goal

abbrev pub invariant-loop-row : goal.invariant-loop-row
invariant-loop-row l = look (drop l.row-index l.rows) l.default l.arguments ≡ look l.rows l.default l.arguments
