use Rattle.std.proofs.Common.{ℕ, ◌+◌, ◌<◌, length, get_or}
use Rattle.smt_meaning.specs.declared.clauses.Summand.{Summand}
use Rattle.proof_terms.proofs.literals.are_ascending.Given as goal

abbrev pub invariant-loop-i : goal.invariant-loop-i
invariant-loop-i l = (k : ℕ) (d : Summand) → k + 1 < l.i → k + 1 < length l.sum → (get_or l.sum k d).term < (get_or l.sum (k + 1) d).term
