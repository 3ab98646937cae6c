use Rattle.std.proofs.Common.{◌≡◌, take, length}
use Rattle.cdcl_core.specs.Forgetting.{AreMarked}
use Rattle.cdcl_core.proofs.forget.mark.Given as goal

abbrev pub invariant-loop-step : goal.invariant-loop-step
invariant-loop-step l = record {
  marked : AreMarked (take l.step-index l.steps) l.marks.items;
  count : length l.marks.items ≡ length l.initial.marks.items;
}
