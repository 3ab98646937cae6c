use Rattle.std.proofs.Common.{◌≡◌, ◌<◌, ℕ, All}
use Rattle.point_closure.specs.Rest.{Begins, Puts, PutsBelow}
use Rattle.point_closure.proofs.points.put_uses.Given as goal

abbrev pub invariant-loop-argument : goal.invariant-loop-argument
invariant-loop-argument l = record {
  count : l.uses.count ≡ l.fn.uses.count;
  begins : Begins l.fn.uses.changes l.uses.changes;
  below : (n : ℕ) → l.point < n → All (PutsBelow n) l.fn.uses.changes → All (PutsBelow n) l.uses.changes;
  puts : Puts l.classes.unions l.arguments l.point l.argument-index l.fn.uses.changes l.uses.changes;
}
