use Rattle.std.proofs.Common.{[]}
use Rattle.smt_meaning.specs.Term.{tree_at}
use Rattle.smt_meaning.specs.TreeShape.{with_parts}
use Rattle.std.specs.Prelude.{nat_eq}
use Rattle.std.specs.HashMap.{get}
use Rattle.elaborate.specs.Parts.{jobs_left}
use Rattle.elaborate.proofs.PartCopies.{IsUnderWay}
use Rattle.elaborate.proofs.parts.copy_parts.Given as goal

abbrev pub invariant-loop-job : goal.invariant-loop-job
invariant-loop-job l = IsUnderWay l.store.trees (with_parts [] (tree_at l.store.trees l.id)) l.jobs (get nat_eq l.copies) l.parts.trees

abbrev pub decreases-loop-job : goal.decreases-loop-job
decreases-loop-job l = jobs_left l.store.trees l.jobs
