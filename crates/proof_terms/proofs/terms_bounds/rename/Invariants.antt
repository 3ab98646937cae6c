use Rattle.smt_meaning.specs.declared.clauses.Summand.{Summand}
use Rattle.smt_meaning.specs.Linear.{summand}
use Rattle.pair_bounds.proofs.Mapping.{IsMapping}
use Rattle.proof_terms.specs.TermRenaming.{first_at}
use Rattle.proof_terms.proofs.terms_bounds.rename.Given as goal

abbrev pub invariant-loop-summand : goal.invariant-loop-summand
invariant-loop-summand l = IsMapping (λ (p : Summand). summand (first_at l.facts p.term) p.coefficient) l.fn.sum l.summand-index l.sum
