use Rattle.std.proofs.Common.{◌≡◌, ◌≢◌, ℕ, ◌<◌, ◌*◌, get_or}
use Rattle.proof_terms.proofs.form_pairs.has_negative.Given as goal

abbrev pub invariant-loop-code : goal.invariant-loop-code
invariant-loop-code l = (k : ℕ) → k < l.code-index → (n : ℕ) → n ≢ l.own → get_or l.codes k 0 ≡ n * 2 → ⊥
