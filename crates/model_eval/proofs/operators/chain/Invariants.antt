use Rattle.std.proofs.Common.{◌≡◌, drop}
use Rattle.smt_meaning.specs.Term.{chainable, chain_from}
use Rattle.model_eval.specs.Fitted.{relation}
use Rattle.model_eval.proofs.operators.chain.Given as goal

abbrev pub invariant-loop-k : goal.invariant-loop-k
invariant-loop-k l = chain_from (relation l.operator) l.last (drop l.k l.arguments) ≡ chainable (relation l.operator) l.arguments
