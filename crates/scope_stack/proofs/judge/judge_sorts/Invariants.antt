use Rattle.std.proofs.Common.{length}
use Rattle.scope_stack.specs.Judged.{Resumes}
use Rattle.scope_stack.proofs.judge.judge_sorts.Given as goal

abbrev pub invariant-loop-first : goal.invariant-loop-first
invariant-loop-first l = Resumes l.table l.sorts l.judged l.rest

abbrev pub decreases-loop-first : goal.decreases-loop-first
decreases-loop-first l = length l.rest
