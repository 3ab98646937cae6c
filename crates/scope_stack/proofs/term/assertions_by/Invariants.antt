use Rattle.std.proofs.Common.{◌≡◌, ◌++◌, length}
use Rattle.scope_stack.specs.Judged.{assertions_by}
use Rattle.scope_stack.proofs.term.assertions_by.Given as goal

abbrev pub invariant-loop-text : goal.invariant-loop-text
invariant-loop-text l = assertions_by l.fn.texts l.fn.asked ≡ l.made.items ++ assertions_by l.rest l.terms

abbrev pub decreases-loop-text : goal.decreases-loop-text
decreases-loop-text l = length l.rest
