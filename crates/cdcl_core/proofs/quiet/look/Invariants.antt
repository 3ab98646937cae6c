use Rattle.std.proofs.Common.{take}
use Rattle.cdcl_core.specs.Quiet.{IsLatest, IsLongest}
use Rattle.cdcl_core.proofs.quiet.look.Given as goal

abbrev pub invariant-loop-literal : goal.invariant-loop-literal
invariant-loop-literal l = record {
  latest : IsLatest l.store.trail.steps l.literals l.latest;
  longest : IsLongest l.store.trail.steps (take l.literal-index l.literals) l.latest;
}
