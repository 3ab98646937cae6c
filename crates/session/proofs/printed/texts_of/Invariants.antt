use Rattle.std.proofs.Common.{◌≡◌, ◌++◌, drop, map}
use Rattle.scope_stack.specs.declared.answers.Assertion.{Assertion}
use Rattle.session.proofs.printed.texts_of.Given as goal

abbrev pub invariant-loop-assertion : goal.invariant-loop-assertion
invariant-loop-assertion l =
    l.out ++ map (λ (a : Assertion). a.text) (drop l.assertion-index l.assertions) ≡ map (λ (a : Assertion). a.text) l.assertions
