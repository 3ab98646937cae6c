use Rattle.std.proofs.Common.{take}
use Rattle.std.specs.Prelude.{All}
use Rattle.fraction128.specs.declared.Summand.{Summand}
use Rattle.sum_bounds.specs.Written.{HasLeaf}
use Rattle.sum_bounds.specs.Bases.{AddsBases}
use Rattle.bound_log.specs.Growth.{IsGrown}
use Rattle.bound_log.specs.Columns.{IsLeafIn, AddsSums}
use Rattle.bound_log.specs.Resting.{AreStill}
use Rattle.bound_log.proofs.variables.add_leaves.Given as goal

abbrev pub invariant-loop-summand : goal.invariant-loop-summand
invariant-loop-summand l =
    IsGrown l.initial.bounds l.bounds × AreStill l.initial.bounds l.bounds × AddsSums (IsLeafIn l.sum) l.initial.bounds l.bounds × All (λ (p : Summand). HasLeaf l.bounds.columns p.term) (take l.summand-index l.sum)
    × AddsBases l.initial.bounds l.bounds
