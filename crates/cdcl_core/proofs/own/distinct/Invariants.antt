use Rattle.std.proofs.Common.{take}
use Rattle.cdcl_core.proofs.Distinct.{Distinct}
use Rattle.cdcl_core.proofs.own.distinct.Given as goal

abbrev pub invariant-loop-literal : goal.invariant-loop-literal
invariant-loop-literal l = Distinct l.own.items (take l.literal-index l.literals)
