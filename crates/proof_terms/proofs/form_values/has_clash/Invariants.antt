use Rattle.std.proofs.Common.{◌≡◌, ℕ, ◌<◌, ◌*◌, ◌+◌, get_or, Contains}
use Rattle.proof_terms.proofs.form_values.has_clash.Given as goal

abbrev pub invariant-loop-code : goal.invariant-loop-code
invariant-loop-code l = (k : ℕ) → k < l.code-index → (n : ℕ) → get_or l.codes k 0 ≡ n * 2 → Contains l.codes (n * 2 + 1) → ⊥
