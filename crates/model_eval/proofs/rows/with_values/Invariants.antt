use Rattle.std.proofs.Common.{◌≡◌, drop}
use Rattle.model_eval.specs.Rows.{values_state}
use Rattle.model_eval.proofs.rows.with_values.Given as goal

abbrev pub invariant-loop-value : goal.invariant-loop-value
invariant-loop-value l = values_state l.state (drop l.value-index l.values) ≡ values_state l.start l.values
