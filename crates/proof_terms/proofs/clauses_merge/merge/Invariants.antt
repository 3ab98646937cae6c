use Rattle.std.proofs.Common.{◌+◌, ◌-◌, length}
use Rattle.proof_terms.specs.ClausesMerged.{IsMergedTo}
use Rattle.proof_terms.proofs.clauses_merge.merge.Given as goal

abbrev pub invariant-loop-at : goal.invariant-loop-at
invariant-loop-at l = IsMergedTo l.left l.right l.code l.negation l.at.left l.at.right l.merged.items

abbrev pub decreases-loop-at : goal.decreases-loop-at
decreases-loop-at l = (length l.left + length l.right) - (l.at.left + l.at.right)
