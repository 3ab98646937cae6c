use Rattle.std.proofs.Common.{ℕ, ◌<◌, get_or}
use Rattle.proof_terms.specs.FormParts.{Extends}
use Rattle.proof_terms.specs.FormPairs.{HasPairs}
use Rattle.proof_terms.proofs.form_pairs.has_all_pairs.Given as goal

abbrev pub invariant-loop-front : goal.invariant-loop-front
invariant-loop-front l = Extends l.fn.clauses l.clauses × ((k : ℕ) → k < l.front-index → HasPairs l.clauses.atoms l.codes l.terms l.backward (get_or l.fronts k 0) l.rears)
