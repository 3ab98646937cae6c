use Rattle.std.proofs.Common.{◌≡◌, ◌++◌, drop, map}
use Rattle.smt_meaning.specs.Core.{named_places}
use Rattle.scope_stack.specs.declared.answers.Assertion.{Assertion}
use Rattle.session.proofs.cores.named_places.Given as goal

abbrev pub invariant-loop-place : goal.invariant-loop-place
invariant-loop-place l =
    l.places.items ++ named_places l.place (map (λ (a : Assertion). a.text) (drop l.place l.assertions)) ≡ named_places 0 (map (λ (a : Assertion). a.text) l.assertions)
