use Rattle.std.proofs.Common.{◌≡◌, drop}
use Rattle.smt_meaning.specs.Signature.{all_of}
use Rattle.proof_terms.specs.TermFacts.{sorts_of}
use Rattle.proof_terms.proofs.terms_facts.all_have.Given as goal

abbrev pub invariant-loop-argument : goal.invariant-loop-argument
invariant-loop-argument l = all_of l.sort (sorts_of l.arguments) ≡ all_of l.sort (sorts_of (drop l.argument-index l.arguments))
