use Rattle.std.proofs.Common.{◌≡◌, length}
use Rattle.scope_stack.specs.Judged.{IsAsking}
use Rattle.scope_stack.proofs.term.judge_terms.Given as goal

abbrev pub invariant-loop-first : goal.invariant-loop-first
invariant-loop-first l = IsAsking l.fn.table l.fn.terms.trees l.texts l.asked l.rest l.table l.terms.trees × (l.terms.limit ≡ l.fn.terms.limit)

abbrev pub decreases-loop-first : goal.decreases-loop-first
decreases-loop-first l = length l.rest
