use Rattle.std.proofs.Common.{ℕ, ◌<◌, get_or}
use Rattle.smt_meaning.specs.declared.clauses.Atom.TheVariants.{Same}
use Rattle.proof_terms.specs.FormParts.{Extends}
use Rattle.proof_terms.specs.FormPairs.{IsPositive}
use Rattle.proof_terms.proofs.form_pairs.has_pairs.Given as goal

abbrev pub invariant-loop-rear : goal.invariant-loop-rear
invariant-loop-rear l =
    Extends l.fn.clauses l.clauses × ((k : ℕ) → k < l.rear-index → IsPositive l.clauses.atoms l.codes (Same (get_or l.terms l.front 0) (get_or l.backward (get_or l.rears k 0) 0)))
