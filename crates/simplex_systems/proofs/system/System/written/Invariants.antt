use Rattle.tableau.specs.Written.{AreParts}
use Rattle.simplex.specs.Sums.{AreMatched}
use Rattle.simplex_systems.proofs.system.System.written.Given as goal

abbrev pub invariant-loop-place : goal.invariant-loop-place
invariant-loop-place l = AreParts l.self.table.count l.parts.items × AreMatched l.self.columns l.sum l.parts.items
