use Rattle.std.proofs.Common.{◌≡◌, drop}
use Rattle.smt_meaning.specs.Signature.{sorts_eq}
use Rattle.proof_terms.specs.TermFacts.{sorts_of}
use Rattle.proof_terms.proofs.terms_facts.have_sorts.Given as goal

abbrev pub invariant-loop-place : goal.invariant-loop-place
invariant-loop-place l = sorts_eq (sorts_of l.arguments) l.sorts ≡ sorts_eq (sorts_of (drop l.place l.arguments)) (drop l.place l.sorts)
