use Rattle.std.proofs.Common.{◌≡◌, drop}
use Rattle.proof_terms.specs.TermFacts.{all_constant}
use Rattle.proof_terms.proofs.terms_facts.are_constant.Given as goal

abbrev pub invariant-loop-argument : goal.invariant-loop-argument
invariant-loop-argument l = all_constant l.arguments ≡ all_constant (drop l.argument-index l.arguments)
