-- Rows stay lists of fractions in lowest terms where the numbers stay in the range.
use Rattle.std.proofs.Common.{◌≡◌, ℕ, zero, suc, ◌<◌, arith, List, [], ◌∷◌, length, Bool, true, false, cond, nat_lt, eqb, ◌&&◌}
use Rattle.fraction128.specs.declared.ratio.Ratio.{Ratio}
use Rattle.fraction128.specs.Ratio.{IsFraction}
use Rattle.fraction128.specs.Listed.{product_of, product_steps, fused}
use Rattle.fraction128.specs.Number.{is_zero}
use Rattle.fraction128.specs.declared.Entry.{Entry}
use Rattle.fraction128.specs.Grid.{coefficient, fit, fused_fits}
use Rattle.tableau.specs.Fitting.{scaled_fits, multiplied_fits, onto_fits, merged_fits}
use Rattle.tableau.specs.Rows.{entry, scaled, multiplied, merged, merged_onto, unless_none, zero_form, coefficient_at}
use Rattle.tableau.specs.Table.{AreFractions}
use Rattle.tableau.proofs.Absent.{and_parts, product_fraction, fused_fraction, zero_fraction, minus_one_fraction}

pub fractions_scaled : (t : Ratio) (es : List Entry) → IsFraction t → AreFractions es → scaled_fits t es ≡ true → AreFractions (scaled t es)
fractions_scaled t [] ft h e = tt
fractions_scaled t (x ∷ es) ft h e =
    let p = and_parts (fit (product_steps x.coefficient t)) (scaled_fits t es) e in
    (product_fraction x.coefficient t h.0 ft p.0, fractions_scaled t es ft h.1 p.1)

fractions_multiplied : (a : Ratio) (es : List Entry) → IsFraction a → AreFractions es → multiplied_fits a es ≡ true → AreFractions (multiplied a es)
fractions_multiplied a [] fa h e = tt
fractions_multiplied a (x ∷ es) fa h e =
    let p = and_parts (fit (product_steps a x.coefficient)) (multiplied_fits a es) e in
    (product_fraction a x.coefficient fa h.0 p.0, fractions_multiplied a es fa h.1 p.1)

fractions_unless : (e : Entry) (es : List Entry) → IsFraction e.coefficient → AreFractions es → AreFractions (unless_none e es)
fractions_unless e es f h = by_test (is_zero e.coefficient)
  where
    by_test : (t : Bool) → AreFractions (cond t es (e ∷ es))
    by_test true = h
    by_test false = (f, h)

fractions_onto : (a : Ratio) (x : Entry) (rest : List Entry → List Entry) (fits : List Entry → Bool) → IsFraction a → IsFraction x.coefficient
    → ((ws : List Entry) → AreFractions ws → fits ws ≡ true → AreFractions (rest ws)) → (zs : List Entry) → AreFractions zs → onto_fits a x fits zs ≡ true → AreFractions (merged_onto a x rest zs)
fractions_onto a x rest fits fa fx ih [] h e = (fx, ih [] tt e)
fractions_onto a x rest fits fa fx ih (z ∷ zs) h e =
    by_test (nat_lt x.variable z.variable) (nat_lt z.variable x.variable) (λ w. fractions_onto a x rest fits fa fx ih zs h.1 w) e
  where
    by_test : (t u : Bool) → (onto_fits a x fits zs ≡ true → AreFractions (merged_onto a x rest zs))
        → cond t (fits (z ∷ zs)) (cond u (fit (product_steps a z.coefficient) && onto_fits a x fits zs) (fused_fits x.coefficient a z.coefficient && fits zs)) ≡ true
        → AreFractions (cond t (x ∷ rest (z ∷ zs)) (cond u (entry z.variable (product_of a z.coefficient) ∷ merged_onto a x rest zs) (unless_none (entry x.variable (fused x.coefficient a z.coefficient)) (rest zs))))
    by_test true u more w = (fx, ih (z ∷ zs) h w)
    by_test false true more w =
        let p = and_parts (fit (product_steps a z.coefficient)) (onto_fits a x fits zs) w in
        (product_fraction a z.coefficient fa h.0 p.0, more p.1)
    by_test false false more w =
        let p = and_parts (fused_fits x.coefficient a z.coefficient) (fits zs) w in
        fractions_unless (entry x.variable (fused x.coefficient a z.coefficient)) (rest zs) (fused_fraction x.coefficient a z.coefficient fx fa h.0 p.0) (ih zs h.1 p.1)

pub fractions_merged : (a : Ratio) (xs zs : List Entry) → IsFraction a → AreFractions xs → AreFractions zs → merged_fits a xs zs ≡ true → AreFractions (merged a xs zs)
fractions_merged a [] zs fa p q e = fractions_multiplied a zs fa q e
fractions_merged a (x ∷ xs) zs fa p q e = fractions_onto a x (merged a xs) (merged_fits a xs) fa p.0 (λ ws r w. fractions_merged a xs ws fa p.1 r w) zs q e

pub fractions_zero_form : (p b : ℕ) (es : List Entry) → AreFractions es → AreFractions (zero_form p b es)
fractions_zero_form zero b es h = (minus_one_fraction, h)
fractions_zero_form (suc p) b [] h = (minus_one_fraction, tt)
fractions_zero_form (suc p) b (e ∷ es) h = (h.0, fractions_zero_form p b es h.1)

pub fraction_at : (es : List Entry) (i : ℕ) → AreFractions es → i < length es → IsFraction (coefficient_at es i)
fraction_at [] i h lt = absurd (omega arith)
fraction_at (e ∷ es) zero h lt = h.0
fraction_at (e ∷ es) (suc i) h lt = fraction_at es i h.1 (omega arith)

pub fractions_of : (es : List Entry) → ((k : ℕ) → k < length es → IsFraction (coefficient_at es k)) → AreFractions es
fractions_of [] h = tt
fractions_of (e ∷ es) h = (h zero (omega arith), fractions_of es (λ k lt. h (suc k) (omega arith)))

pub fraction_coefficient : (es : List Entry) (j : ℕ) → AreFractions es → IsFraction (coefficient es j)
fraction_coefficient [] j h = zero_fraction
fraction_coefficient (e ∷ es) j h = by_test (eqb e.variable j) (fraction_coefficient es j h.1)
  where
    by_test : (t : Bool) → IsFraction (coefficient es j) → IsFraction (cond t e.coefficient (coefficient es j))
    by_test true rest = h.0
    by_test false rest = rest
