use Rattle.std.proofs.Common.{◌≡◌, ℕ, ◌+◌, ◌<◌, ◌≤◌}
use Rattle.first_clauses.specs.PartClausesFirst.{IsBegun}
use Rattle.first_clauses.specs.CheckClausesFirst.{reading_of, HasPartAt}
use Rattle.first_clauses.specs.Counted.{parts_below, pairs_below, TakesStepsBelow}
use Rattle.first_clauses.proofs.nodes.keep_parts.Given as goal

abbrev pub invariant-loop-place : goal.invariant-loop-place
invariant-loop-place g l = record {
  begun : IsBegun (reading_of l.stack l.atoms.atoms) l.store;
  has : (p : ℕ) → p < l.place → HasPartAt l.stack l.marks l.sorts l.atoms.atoms l.store.clauses p;
  same : l.forms ≡ l.fn.forms;
  rise : l.fn.steps ≤ l.steps;
  few : l.steps ≤ l.fn.steps + parts_below l.marks l.place + pairs_below l.stack.trees l.marks l.place;
  counted : TakesStepsBelow l.stack l.marks l.sorts l.place l.fn.steps l.steps;
}
