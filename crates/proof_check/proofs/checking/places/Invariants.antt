use Rattle.std.proofs.Common.{◌≡◌, ◌++◌, drop, map}
use Rattle.scope_stack.specs.declared.answers.Assertion.{Assertion}
use Rattle.proof_check.proofs.checking.places.Given as goal

abbrev pub invariant-loop-assertion : goal.invariant-loop-assertion
invariant-loop-assertion l =
    l.places.items ++ map (λ (a : Assertion). a.term) (drop l.assertion-index l.assertions) ≡ map (λ (a : Assertion). a.term) l.assertions
