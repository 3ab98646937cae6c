use Rattle.std.proofs.Common.{◌≤◌, length}
use Rattle.model_eval.specs.Walk.{AreMarked}
use Rattle.model_eval.proofs.marks.mark_parts.Given as goal

abbrev pub invariant-loop-bound : goal.invariant-loop-bound
invariant-loop-bound l = record { within : l.bound ≤ length l.initial.marks; marked : AreMarked l.store.trees l.terms (length l.initial.marks) l.bound l.marks }

abbrev pub decreases-loop-bound : goal.decreases-loop-bound
decreases-loop-bound l = l.bound
