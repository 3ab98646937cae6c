use Rattle.std.proofs.Common.{take, map}
use Rattle.scope_stack.specs.declared.answers.Assertion.{Assertion}
use Rattle.check_atoms.specs.Marks.{MarksAlso}
use Rattle.check_atoms.proofs.parts.mark_assertions.Given as goal

abbrev pub invariant-loop-assertion : goal.invariant-loop-assertion
invariant-loop-assertion l = MarksAlso l.fn.marks.items (map (λ (a : Assertion). a.term) (take l.assertion-index l.assertions)) l.marks.items
