use Rattle.std.proofs.Common.{◌≢◌, All, subst}
use Rattle.std.proofs.lemmas.List.{take_all}
use Rattle.scope_stack.specs.declared.answers.Assertion.{Assertion as AssertionOf}
use Rattle.check_atoms.proofs.asserted.has_term.Goals as goal

pub returns-clause-no : goal.returns-clause-no
returns-clause-no c = λ e. subst (All (λ (a : AssertionOf). a.term ≢ c.args.place)) (take_all c.loop-assertion.assertion-index c.args.assertions.now c.loop-assertion-test.false) c.loop-assertion.invariant
