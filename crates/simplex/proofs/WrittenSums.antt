-- The row that a sum is written to has the sum's value on the solutions of the rows.
use Rattle.std.proofs.Common.{◌≡◌, ℕ, zero, suc, ◌+◌, ◌<◌, pos, sym, ap, ap₂, ◌∙◌, subst, refl, arith, List, [], ◌∷◌, Bool, true, false, cond, eqb, eqb-true, eq-eqb, Option, Some, None}
use Rattle.fraction128.specs.declared.ratio.Ratio.{Ratio}
use Rattle.fraction128.specs.Number.{whole}
use Rattle.fraction128.specs.Listed.{fused}
use Rattle.fraction128.proofs.RingEquations.{var, sum, product, nothing, solve}
use Rattle.fraction128.proofs.RationalRing.{Rational, number, rational_sum, rational_product, rational_zero, rational_zero-is, rational_one, rational_one-is, rationals}
use Rattle.fraction128.proofs.ExactSteps.{number_fused, fused_positive}
use Rattle.fraction128.specs.declared.Entry.{Entry}
use Rattle.fraction128.specs.declared.TableRow.{TableRow}
use Rattle.fraction128.specs.Grid.{coefficient, row_of, entries_of, is_some, written_variable, no_coefficients, entries_from, MeetsRow, MeetsRows}
use Rattle.fraction128.proofs.RowValue as RowValue
use Rattle.simplex_steps.specs.Law.{AreFrom}
use Rattle.simplex_steps.proofs.Spans.{span, span_same, span_sum, span_product, span_zero, only, span_only, dot_coefficients, listed_from, listed_positive, number_listed, coefficient_positive}
use Rattle.tableau.specs.declared.sum.Part.{Part}
use Rattle.tableau.specs.Table.{Table, IsTable, row_at, no_row}
use Rattle.tableau.specs.Written.{parts_written, parts_row, AreParts}
use Rattle.tableau.proofs.Coefficients.{Below}
use Rattle.tableau.proofs.Places.{row_some}
use Rattle.tableau.proofs.PivotedRows.{below_all}
use Rattle.tableau.proofs.Shape.{From, from_zero, nonzero_positive}
use Rattle.fraction128.specs.Lines.{IsPositive}

-- the sum of the parts' coefficients times the values of their variables
abbrev pub parts_dot : (ℕ → Rational) → List Part → Rational
parts_dot V [] = rational_zero
parts_dot V (p ∷ ps) = rational_sum (rational_product (number (whole p.coefficient)) (V p.variable)) (parts_dot V ps)

from_both : (i n : ℕ) (es : List Entry) → From i es → Below n es → AreFrom i n es
from_both i n [] h b = tt
from_both i n (e ∷ es) h b = (h.0, b.0, from_both (e.variable + 1) n es h.1 b.1)

-- ---- a variable, written by variables that aren't basic

written_positive : (t : Table) (v j : ℕ) → IsTable t → 0 < (written_variable t.rows v j).denominator
written_positive t v j facts = by_row (row_of t.rows v) refl
  where
    by_row : (o : Option TableRow) → row_of t.rows v ≡ o → 0 < (cond (is_some o) (coefficient (entries_of o) j) (cond (eqb j v) (whole (pos 1)) (whole (pos 0)))).denominator
    by_row (Some r) e =
        let q = row_some t.rows v r e in
        coefficient_positive r.entries j (subst (λ (x : TableRow). RowValue.ArePositive x.entries) q.2 (nonzero_positive (row_at t.rows q.0).entries (facts.nonzero q.0 q.1)))
    by_row None e = by_test (eqb j v)
      where
        by_test : (z : Bool) → 0 < (cond z (whole (pos 1)) (whole (pos 0))).denominator
        by_test true = omega arith
        by_test false = omega arith

written_value : (t : Table) (v : ℕ → Ratio) (b : ℕ) → IsTable t → IsPositive v → MeetsRows t.rows v → b < t.count
    → span 0 t.count (λ j. rational_product (number (written_variable t.rows b j)) (number (v j))) ≡ number (v b)
written_value t v b facts fv met lt = by_row (row_of t.rows b) refl
  where
    by_row : (o : Option TableRow) → row_of t.rows b ≡ o
        → span 0 t.count (λ j. rational_product (number (cond (is_some o) (coefficient (entries_of o) j) (cond (eqb j b) (whole (pos 1)) (whole (pos 0))))) (number (v j))) ≡ number (v b)
    by_row (Some r) e =
        let q = row_some t.rows b r e in
        let fp : RowValue.ArePositive r.entries = subst (λ (x : TableRow). RowValue.ArePositive x.entries) q.2 (nonzero_positive (row_at t.rows q.0).entries (facts.nonzero q.0 q.1)) in
        let from : AreFrom 0 t.count r.entries =
        subst (λ (x : TableRow). AreFrom 0 t.count x.entries) q.2
        (from_both 0 t.count (row_at t.rows q.0).entries (from_zero (row_at t.rows q.0).entries (facts.ascending q.0 q.1)) (below_all t.count (row_at t.rows q.0).entries (λ j le. facts.known j q.0 le q.1))) in
        let m : MeetsRow v r = subst (MeetsRow v) q.2 (met q.0 no_row q.1) in
        let is : r.basic ≡ b = ap (λ (x : TableRow). x.basic) (sym q.2) ∙ q.3 in
        sym (dot_coefficients 0 t.count r.entries (λ j. number (v j)) from) ∙ sym (RowValue.meets_to v r fv fp m) ∙ ap (λ i. number (v i)) is
    by_row None e =
        span_same 0 t.count (λ j. rational_product (number (cond (eqb j b) (whole (pos 1)) (whole (pos 0)))) (number (v j))) (λ j. rational_product (only b j) (number (v b))) (λ j l h. at j (eqb j b) refl)
        ∙ span_only 0 t.count b (number (v b)) (omega arith) (omega (arith, lt))
      where
        at : (j : ℕ) (z : Bool) → eqb j b ≡ z → rational_product (number (cond z (whole (pos 1)) (whole (pos 0)))) (number (v j)) ≡ rational_product (only b j) (number (v b))
        at j true w =
            let is : j ≡ b = eqb-true j b w in
            ap₂ rational_product (sym rational_one-is ∙ ap (λ s. cond s rational_one rational_zero) (sym (eq-eqb b j (sym is)))) (ap (λ i. number (v i)) is)
        at j false w =
            ap (λ x. rational_product x (number (v j))) (sym rational_zero-is)
            ∙ solve rationals (number (v j) ∷ number (v b) ∷ []) (product nothing (var 0)) (product nothing (var 1)) refl
            ∙ ap (λ s. rational_product (cond s rational_one rational_zero) (number (v b))) (sym (off (eqb b j) refl))
          where
            off : (s : Bool) → eqb b j ≡ s → s ≡ false
            off true d = let z : true ≡ false = sym (eq-eqb j b (sym (eqb-true b j d))) ∙ w in absurd (cc)
            off false d = refl

-- ---- the parts in order

parts_positive : (t : Table) (f : ℕ → Ratio) (ps : List Part) → IsTable t → IsPositive f → (j : ℕ) → 0 < (parts_written t.rows f ps j).denominator
parts_positive t f [] facts ff j = ff j
parts_positive t f (p ∷ ps) facts ff j =
    parts_positive t (λ i. fused (f i) (whole p.coefficient) (written_variable t.rows p.variable i)) ps facts
    (λ i. fused_positive (f i) (whole p.coefficient) (written_variable t.rows p.variable i) (ff i) (omega arith) (written_positive t p.variable i facts)) j

parts_span : (t : Table) (v f : ℕ → Ratio) (ps : List Part) → IsTable t → IsPositive v → IsPositive f → MeetsRows t.rows v → AreParts t.count ps
    → span 0 t.count (λ j. rational_product (number (parts_written t.rows f ps j)) (number (v j)))
    ≡ rational_sum (span 0 t.count (λ j. rational_product (number (f j)) (number (v j)))) (parts_dot (λ i. number (v i)) ps)
parts_span t v f [] facts fv ff met parts =
    solve rationals (span 0 t.count (λ j. rational_product (number (f j)) (number (v j))) ∷ []) (var 0) (sum (var 0) nothing) refl
parts_span t v f (p ∷ ps) facts fv ff met parts =
    parts_span t v g ps facts fv fg met (λ k lt. parts (suc k) (omega (arith, lt)))
    ∙ ap (λ x. rational_sum x (parts_dot V ps)) one_more
    ∙ solve rationals (span 0 t.count (λ j. rational_product (number (f j)) (V j)) ∷ number c ∷ V p.variable ∷ parts_dot V ps ∷ [])
    (sum (sum (var 0) (product (var 1) (var 2))) (var 3)) (sum (var 0) (sum (product (var 1) (var 2)) (var 3))) refl
  where
    V : ℕ → Rational
    V i = number (v i)

    c : Ratio
    c = whole p.coefficient

    g : ℕ → Ratio
    g i = fused (f i) c (written_variable t.rows p.variable i)

    fg : IsPositive g
    fg i = fused_positive (f i) c (written_variable t.rows p.variable i) (ff i) (omega arith) (written_positive t p.variable i facts)

    one_more : span 0 t.count (λ j. rational_product (number (g j)) (V j)) ≡ rational_sum (span 0 t.count (λ j. rational_product (number (f j)) (V j))) (rational_product (number c) (V p.variable))
    one_more =
        span_same 0 t.count (λ j. rational_product (number (g j)) (V j))
        (λ j. rational_sum (rational_product (number (f j)) (V j)) (rational_product (number c) (rational_product (number (written_variable t.rows p.variable j)) (V j))))
        (λ j l h. ap (λ x. rational_product x (V j)) (number_fused (f j) c (written_variable t.rows p.variable j) (ff j) (omega arith) (written_positive t p.variable j facts))
        ∙ solve rationals (number (f j) ∷ number c ∷ number (written_variable t.rows p.variable j) ∷ V j ∷ [])
        (product (sum (var 0) (product (var 1) (var 2))) (var 3)) (sum (product (var 0) (var 3)) (product (var 1) (product (var 2) (var 3)))) refl)
        ∙ span_sum 0 t.count (λ j. rational_product (number (f j)) (V j)) (λ j. rational_product (number c) (rational_product (number (written_variable t.rows p.variable j)) (V j)))
        ∙ ap (rational_sum (span 0 t.count (λ j. rational_product (number (f j)) (V j))))
        (span_product 0 t.count (number c) (λ j. rational_product (number (written_variable t.rows p.variable j)) (V j))
        ∙ ap (rational_product (number c)) (written_value t v p.variable facts fv met (parts zero (omega arith)).known))

pub row_positive : (t : Table) (ps : List Part) → IsTable t → RowValue.ArePositive (parts_row t.count t.rows ps).entries
row_positive t ps facts = listed_positive 0 t.count (parts_written t.rows no_coefficients ps) (parts_positive t no_coefficients ps facts (λ i. omega arith))

pub row_dot : (t : Table) (v : ℕ → Ratio) (ps : List Part) → IsTable t → IsPositive v → MeetsRows t.rows v → AreParts t.count ps
    → RowValue.dot (λ i. number (v i)) (parts_row t.count t.rows ps).entries ≡ parts_dot (λ i. number (v i)) ps
row_dot t v ps facts fv met parts =
    dot_coefficients 0 t.count (entries_from 0 t.count f) V (listed_from 0 t.count t.count f (omega arith))
    ∙ span_same 0 t.count (λ j. rational_product (number (coefficient (entries_from 0 t.count f) j)) (V j)) (λ j. rational_product (number (f j)) (V j))
    (λ j l h. ap (λ x. rational_product x (V j)) (number_listed 0 t.count f (parts_positive t no_coefficients ps facts (λ i. omega arith)) j l h))
    ∙ parts_span t v no_coefficients ps facts fv (λ i. omega arith) met parts
    ∙ ap (λ x. rational_sum x (parts_dot V ps)) nothing_yet
    ∙ solve rationals (parts_dot V ps ∷ []) (sum nothing (var 0)) (var 0) refl
  where
    V : ℕ → Rational
    V i = number (v i)

    f : ℕ → Ratio
    f = parts_written t.rows no_coefficients ps

    nothing_yet : span 0 t.count (λ j. rational_product (number (no_coefficients j)) (V j)) ≡ rational_zero
    nothing_yet =
        span_zero 0 t.count (λ j. rational_product (number (no_coefficients j)) (V j))
        (λ j l h. ap (λ x. rational_product x (V j)) (sym rational_zero-is) ∙ solve rationals (V j ∷ []) (product nothing (var 0)) nothing refl)
