-- Look-ups, a place at a time.
use Rattle.std.proofs.Common.{◌≡◌, suc, List, [], ◌∷◌, length, false, ap, refl}
use Rattle.std.proofs.Math.Bool.{and-false}
use Rattle.smt_meaning.specs.declared.values.Value.{Value}
use Rattle.smt_meaning.specs.Term.{same_value}
use Rattle.smt_meaning.specs.Interpretation.{same_values}

pub lengths_differ : (vs ws : List Value) → (length vs ≡ length ws → ⊥) → same_values vs ws ≡ false
lengths_differ [] [] h = absurd (h refl)
lengths_differ [] (w ∷ ws) h = refl
lengths_differ (v ∷ vs) [] h = refl
lengths_differ (v ∷ vs) (w ∷ ws) h = rw (lengths_differ vs ws (λ e. h (ap suc e))) (and-false (same_value v w))
