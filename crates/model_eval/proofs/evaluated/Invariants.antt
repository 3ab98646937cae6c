use Rattle.std.proofs.Common.{◌≡◌, ◌+◌, length}
use Rattle.smt_meaning.specs.Interpretation.{meaning}
use Rattle.model_eval.specs.Walk.{AreKept, parts_below}
use Rattle.model_eval.proofs.evaluated.Given as goal

abbrev pub invariant-loop-id : goal.invariant-loop-id
invariant-loop-id g l = record {
  next : length l.found.slots.items ≡ l.id;
  kept : AreKept (meaning l.interp) l.store.trees l.marks.items l.found.slots.items l.found.values.items;
  steps : l.steps ≡ l.fn.steps + length (parts_below l.store.trees l.marks.items l.id);
}
