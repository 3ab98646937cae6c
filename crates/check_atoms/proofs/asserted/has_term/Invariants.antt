use Rattle.std.proofs.Common.{◌≢◌, take, All}
use Rattle.scope_stack.specs.declared.answers.Assertion.{Assertion as AssertionOf}
use Rattle.check_atoms.proofs.asserted.has_term.Given as goal

abbrev pub invariant-loop-assertion : goal.invariant-loop-assertion
invariant-loop-assertion l = All (λ (a : AssertionOf). a.term ≢ l.place) (take l.assertion-index l.assertions)
