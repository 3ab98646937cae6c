use Rattle.std.proofs.Common.{◌-◌}
use Rattle.look_ahead.specs.Marks.{AreMarked}
use Rattle.look_ahead.proofs.marks.ends.Given as goal

abbrev pub invariant-loop-back : goal.invariant-loop-back
invariant-loop-back l = AreMarked l.term (l.count - l.back) l.ends.items l.closing.items
