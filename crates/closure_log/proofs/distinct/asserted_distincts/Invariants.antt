use Rattle.std.proofs.Common.{All, take}
use Rattle.smt_meaning.specs.Term.{tree_at}
use Rattle.scope_stack.specs.declared.answers.Assertion.{Assertion}
use Rattle.closure_log.specs.Distinct.{ListsWide}
use Rattle.closure_log.proofs.distinct.asserted_distincts.Given as goal

abbrev pub invariant-loop-assertion : goal.invariant-loop-assertion
invariant-loop-assertion l = All (λ (a : Assertion). ListsWide l.stack.trees l.parts.items (tree_at l.stack.trees a.term)) (take l.assertion-index l.assertions)
