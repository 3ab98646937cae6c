use Rattle.std.proofs.Common.{◌≡◌, ℕ, zero, suc, ◌<◌, ◌⊎◌, inl, inr, arith, [], ◌∷◌, Contains}
use Rattle.simplex_steps.specs.State.{column_in}
use Rattle.simplex_steps.specs.Suspects.{IsCalm, too_low}
use Rattle.simplex_steps.proofs.suspects_are_covered.Goals as goal

known_first : (i : ℕ) → Contains (0 ∷ []) i → i < 1
known_first i (zero, l, e) = let q : 0 ≡ i = e in omega (arith, q)
known_first i (suc k, l, e) = absurd (omega (arith, l))

first : (i : ℕ) → i < 1 → 0 ≡ i
first i l = omega (arith, l)

not_calm : Contains {X = ℕ} [] 0 ⊎ IsCalm (column_in (too_low ∷ []) 0) → ⊥
not_calm (inl (k, l, e)) = absurd (omega (arith, l))
not_calm (inr calm) = let within = calm.within in absurd (cc)

pub returns : goal.returns
returns c =
    record {
      listed = record {
        room = omega arith;
        known = known_first;
        others = λ i l. inl (0, omega arith, first i l);
      };
      unlisted = λ h. not_calm (h.others 0 (omega arith));
    }
