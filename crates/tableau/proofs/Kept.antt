-- A pivot keeps what holds of the rows of a tableau, and their solutions.
use Rattle.std.proofs.Common.{◌≡◌, ◌≢◌, ℕ, zero, suc, ◌+◌, ◌*◌, ◌<◌, ◌≤◌, ◌⊎◌, inl, inr, ℤ, ◌*ℤ◌, pos, neg_ℤ, sym, ap, ap₂, ◌∙◌, subst, refl, arith, List, [], ◌∷◌, ◌++◌, length, take, drop, get_or, Bool, true, false, cond, nat_lt, eqb, eqb-true, eq-eqb}
use Rattle.std.proofs.lemmas.Int.{ints}
use Rattle.std.proofs.lemmas.Bool.{cases_lt}
use Rattle.fraction128.specs.declared.ratio.Ratio.{Ratio}
use Rattle.fraction128.specs.Ratio.{IsReciprocal}
use Rattle.fraction128.specs.Listed.{product_of, negation_of}
use Rattle.fraction128.proofs.LowestTerms.{pos_times}
use Rattle.fraction128.specs.declared.Entry.{Entry}
use Rattle.fraction128.specs.Number.{whole, is_zero, unreduced_product}
use Rattle.fraction128.specs.Listed.{fused}
use Rattle.fraction128.proofs.RingEquations.{var, sum, product, minus, nothing, unit, solve}
use Rattle.fraction128.proofs.WholeNumbers.{wholes}
use Rattle.fraction128.proofs.RationalRing.{Rational, number, number_eq, number_neg, number_times, rational_sum, rational_product, rational_negation, rational_zero, rational_one, rational_one-is, rationals}
use Rattle.fraction128.proofs.ExactSteps.{number_product}
use Rattle.fraction128.proofs.RowValue.{dot}
use Rattle.tableau.specs.declared.rows.Row.{Row}
use Rattle.tableau.specs.Rows.{entry, scaled, multiplied, merged, merged_onto, unless_none, zero_form, without, variable_at, coefficient_at, IsAscending}
use Rattle.tableau.specs.Staged.{IsForm, IsPivoted, IsChanged, Lacks}
use Rattle.tableau.specs.Table.{IsNonzero, AreNonzero, AreFractions, IsTableau}
use Rattle.tableau.proofs.Absent.{negation_fraction}
use Rattle.tableau.proofs.Fractions.{fractions_scaled, fractions_merged, fractions_zero_form, fraction_at}
use Rattle.tableau.proofs.PivotLemmas.{place_in_form, entering_entry}
use Rattle.tableau.proofs.Solutions.{dot_merged, form_from_row, row_from_form, solved_from_form, form_from_solved, same_where_form}
use Rattle.tableau.proofs.Shape.{From, from_weaker, from_bound, from_zero, ascending, from_scaled, from_merged, nonzero_positive, nonzero_scaled, nonzero_merged, Free, free_places, places_free, free_above, only, only_same, only_other, dot_free, free_of_zero}

-- ---- forms ascend

pub from_zero_form : (n p b : ℕ) (es : List Entry) → From n es → n ≤ b → p ≤ length es → ((k : ℕ) → k < p → variable_at es k < b) → ((k : ℕ) → p ≤ k → k < length es → b < variable_at es k)
    → From n (zero_form p b es)
from_zero_form n zero b [] h nb within low high = (nb, tt)
from_zero_form n zero b (e ∷ es) h nb within low high = (nb, (let lt : b < e.variable = high zero (omega arith) (omega arith) in omega (arith, lt), h.1))
from_zero_form n (suc p) b [] h nb within low high = absurd (omega arith)
from_zero_form n (suc p) b (e ∷ es) h nb within low high = (
  h.0,
  from_zero_form (e.variable + 1) p b es h.1 (let lt : e.variable < b = low zero (omega arith) in omega (arith, lt)) (omega arith) (λ k lt. low (suc k) (omega arith))
      (λ k le lt. high (suc k) (omega arith) (omega arith)),
)

unfoldable pub left_out : ℕ → List Entry → List Entry
left_out n [] = []
left_out zero (e ∷ es) = es
left_out (suc q) (e ∷ es) = e ∷ left_out q es

left_parts : (n : ℕ) (xs : List Entry) → take n xs ++ drop (suc n) xs ≡ left_out n xs
unfolding left_out
left_parts zero [] = refl
left_parts zero (x ∷ xs) = refl
left_parts (suc n) [] = refl
left_parts (suc n) (x ∷ xs) = ap (λ es. x ∷ es) (left_parts n xs)

pub without_is : (q : ℕ) (es : List Entry) → left_out q es ≡ without q es
without_is q es = sym (ap (λ n. take q es ++ drop n es) (let e : q + 1 ≡ suc q = omega arith in e) ∙ left_parts q es)

from_left_out : (n q : ℕ) (es : List Entry) → From n es → From n (left_out q es)
unfolding left_out
from_left_out n q [] h = tt
from_left_out n zero (e ∷ es) h = from_weaker n (e.variable + 1) es (omega (arith, h.0)) h.1
from_left_out n (suc q) (e ∷ es) h = (h.0, from_left_out (e.variable + 1) q es h.1)

from_without : (n q : ℕ) (es : List Entry) → From n es → From n (without q es)
from_without n q es h = subst (From n) (without_is q es) (from_left_out n q es h)

nonzero_zero_form : (p b : ℕ) (es : List Entry) → AreNonzero es → AreNonzero (zero_form p b es)
nonzero_zero_form zero b es h = ((omega arith, λ e. absurd (cc)), h)
nonzero_zero_form (suc p) b [] h = ((omega arith, λ e. absurd (cc)), tt)
nonzero_zero_form (suc p) b (e ∷ es) h = (h.0, nonzero_zero_form p b es h.1)

nonzero_left_out : (q : ℕ) (es : List Entry) → AreNonzero es → AreNonzero (left_out q es)
unfolding left_out
nonzero_left_out q [] h = tt
nonzero_left_out zero (e ∷ es) h = h.1
nonzero_left_out (suc q) (e ∷ es) h = (h.0, nonzero_left_out q es h.1)

nonzero_without : (q : ℕ) (es : List Entry) → AreNonzero es → AreNonzero (without q es)
nonzero_without q es h = subst AreNonzero (without_is q es) (nonzero_left_out q es h)

fractions_left_out : (q : ℕ) (es : List Entry) → AreFractions es → AreFractions (left_out q es)
unfolding left_out
fractions_left_out q [] h = tt
fractions_left_out zero (e ∷ es) h = h.1
fractions_left_out (suc q) (e ∷ es) h = (h.0, fractions_left_out q es h.1)

fractions_without : (q : ℕ) (es : List Entry) → AreFractions es → AreFractions (without q es)
fractions_without q es h = subst AreFractions (without_is q es) (fractions_left_out q es h)

nonzero_at : (es : List Entry) (i : ℕ) → AreNonzero es → i < length es → IsNonzero (coefficient_at es i)
nonzero_at [] i h lt = absurd (omega arith)
nonzero_at (e ∷ es) zero h lt = h.0
nonzero_at (e ∷ es) (suc i) h lt = nonzero_at es i h.1 (omega arith)

-- ---- variables that don't stand

free_scaled : (j : ℕ) (t : Ratio) (es : List Entry) → Free j es → Free j (scaled t es)
free_scaled j t [] h = tt
free_scaled j t (e ∷ es) h = (h.0, free_scaled j t es h.1)

free_zero_form : (j p b : ℕ) (es : List Entry) → j ≢ b → Free j es → Free j (zero_form p b es)
free_zero_form j zero b es ne h = ((λ e. ne (sym e)), h)
free_zero_form j (suc p) b [] ne h = ((λ e. ne (sym e)), tt)
free_zero_form j (suc p) b (e ∷ es) ne h = (h.0, free_zero_form j p b es ne h.1)

free_left : (j q : ℕ) (es : List Entry) → Free j es → Free j (left_out q es)
unfolding left_out
free_left j q [] h = tt
free_left j zero (e ∷ es) h = h.1
free_left j (suc q) (e ∷ es) h = (h.0, free_left j q es h.1)

free_without : (j q : ℕ) (es : List Entry) → Free j es → Free j (without q es)
free_without j q es h = subst (Free j) (without_is q es) (free_left j q es h)

-- the entry that is left out doesn't stand in what is left
free_left_itself : (n q : ℕ) (es : List Entry) → From n es → q < length es → Free (variable_at es q) (left_out q es)
unfolding left_out
free_left_itself n q [] h lt = absurd (omega arith)
free_left_itself n zero (e ∷ es) h lt = free_above e.variable (e.variable + 1) es (omega arith) h.1
free_left_itself n (suc q) (e ∷ es) h lt = (
  (λ w. let b : e.variable + 1 ≤ variable_at es q = from_bound (e.variable + 1) es q h.1 (omega arith) in absurd (omega (arith, w, b))),
  free_left_itself (e.variable + 1) q es h.1 (omega arith),
)

free_left_out : (n q : ℕ) (es : List Entry) → From n es → q < length es → Free (variable_at es q) (without q es)
free_left_out n q es h lt = subst (Free (variable_at es q)) (without_is q es) (free_left_itself n q es h lt)

free_multiplied : (j : ℕ) (a : Ratio) (es : List Entry) → Free j es → Free j (multiplied a es)
free_multiplied j a [] h = tt
free_multiplied j a (e ∷ es) h = (h.0, free_multiplied j a es h.1)

free_unless : (j : ℕ) (e : Entry) (es : List Entry) → e.variable ≢ j → Free j es → Free j (unless_none e es)
free_unless j e es ne h = by_test (is_zero e.coefficient)
  where
    by_test : (t : Bool) → Free j (cond t es (e ∷ es))
    by_test true = h
    by_test false = (ne, h)

free_onto : (j : ℕ) (a : Ratio) (x : Entry) (rest : List Entry → List Entry) → x.variable ≢ j → ((ws : List Entry) → Free j ws → Free j (rest ws)) → (zs : List Entry) → Free j zs
    → Free j (merged_onto a x rest zs)
free_onto j a x rest ne ih [] h = (ne, ih [] tt)
free_onto j a x rest ne ih (z ∷ zs) h = by_test (nat_lt x.variable z.variable) (nat_lt z.variable x.variable) (free_onto j a x rest ne ih zs h.1)
  where
    by_test : (t u : Bool) → Free j (merged_onto a x rest zs)
        → Free j (cond t (x ∷ rest (z ∷ zs)) (cond u (entry z.variable (product_of a z.coefficient) ∷ merged_onto a x rest zs) (unless_none (entry x.variable (fused x.coefficient a z.coefficient)) (rest zs))))
    by_test true u more = (ne, ih (z ∷ zs) h)
    by_test false true more = (h.0, more)
    by_test false false more = free_unless j (entry x.variable (fused x.coefficient a z.coefficient)) (rest zs) ne (ih zs h.1)

pub free_merged : (j : ℕ) (a : Ratio) (xs zs : List Entry) → Free j xs → Free j zs → Free j (merged a xs zs)
free_merged j a [] zs p q = free_multiplied j a zs q
free_merged j a (x ∷ xs) zs p q = free_onto j a x (merged a xs) p.0 (λ ws r. free_merged j a xs ws p.1 r) zs q

-- the coefficient of an entry of an ascending list
dot_only_at : (n : ℕ) (es : List Entry) (i : ℕ) → From n es → i < length es → dot (only (variable_at es i)) es ≡ number (coefficient_at es i)
dot_only_at n [] i h lt = absurd (omega arith)
dot_only_at n (e ∷ es) zero h lt =
    ap₂ (λ m k. rational_sum (rational_product (number e.coefficient) m) k) (only_same e.variable e.variable refl) (dot_free e.variable es (free_above e.variable (e.variable + 1) es (omega arith) h.1))
    ∙ solve rationals (number e.coefficient ∷ []) (sum (product (var 0) unit) nothing) (var 0) refl
dot_only_at n (e ∷ es) (suc i) h lt =
    let b : e.variable + 1 ≤ variable_at es i = from_bound (e.variable + 1) es i h.1 (omega arith) in
    ap₂ (λ m k. rational_sum (rational_product (number e.coefficient) m) k) (only_other (variable_at es i) e.variable (λ w. absurd (omega (arith, w, b)))) (dot_only_at (e.variable + 1) es i h.1 (omega arith))
    ∙ solve rationals (number e.coefficient ∷ number (coefficient_at es i) ∷ []) (sum (product (var 0) nothing) (var 1)) (var 1) refl

-- ---- the reciprocal

inverse_is : (x r : Ratio) → 0 < x.denominator → 0 < r.denominator → IsReciprocal x r → rational_product (number x) (number r) ≡ rational_one
inverse_is x r fx fr e =
    sym (number_times x r fx fr)
    ∙ number_eq (unreduced_product x r) (whole (pos 1)) (pos_times x.denominator r.denominator fx fr) (omega arith)
    (solve wholes (x.numerator ∷ r.numerator ∷ []) (product (product (var 0) (var 1)) unit) (product (var 1) (var 0)) refl
    ∙ e
    ∙ solve wholes (pos r.denominator ∷ pos x.denominator ∷ []) (product (var 0) (var 1)) (product unit (product (var 1) (var 0))) refl
    )
    ∙ sym rational_one-is

reciprocal_nonzero : (x r : Ratio) → 0 < x.denominator → 0 < r.denominator → IsReciprocal x r → r.numerator ≢ pos 0
reciprocal_nonzero x r fx fr e z =
    let none : pos (r.denominator * x.denominator) ≡ pos 0 =
    sym e ∙ ap (λ m. m *ℤ x.numerator) z ∙ solve wholes (x.numerator ∷ []) (product nothing (var 0)) nothing refl in
    absurd (omega (arith, ints, none, pos_times r.denominator x.denominator fr fx))

neg_zero : (z : ℤ) → neg_ℤ z ≡ pos 0 → z ≡ pos 0
neg_zero z e = omega (arith, ints, e)

-- ---- what is known of a form

pub record FormFacts (b c : ℕ) (es form : List Entry) (q : ℕ) : Type 0 where
  pub from : From 0 form
  pub nonzero : AreNonzero form
  pub q_in : q < length form
  pub variable : variable_at form q ≡ c
  pub coefficient : number (coefficient_at form q) ≡ rational_negation rational_one
  pub factor : Ratio
  pub factor_positive : 0 < factor.denominator
  pub inverse : Rational
  pub inverse_is : rational_product inverse (number factor) ≡ rational_one
  pub before : ℕ
  pub form_is : form ≡ scaled factor (zero_form before b es)

pub form_facts : (b c : ℕ) (es form : List Entry) (q : ℕ) → IsAscending es → AreNonzero es → Lacks b es → IsForm b c es form q → FormFacts b c es form q
form_facts b c es form q asc full lacks f =
    let x = coefficient_at es f.place in
    let t = negation_of f.reciprocal in
    let fx : 0 < x.denominator = (nonzero_at es f.place full f.in_row).0 in
    let fr : 0 < f.reciprocal.denominator = f.lowest.positive in
    let ft : IsNonzero t = (fr, λ z. reciprocal_nonzero x f.reciprocal fx fr f.inverse (neg_zero f.reciprocal.numerator z)) in
    let one : rational_product (number x) (number f.reciprocal) ≡ rational_one = inverse_is x f.reciprocal fx fr f.inverse in
    let at_q = entering_entry b c es form q f in
    record {
      from = subst (From 0) (sym f.form_is)
          (from_scaled 0 t (zero_form f.before b es)
          (from_zero_form 0 f.before b es (from_zero es asc) (omega arith) f.within f.lower
          (λ k le lt. let b_le : b ≤ variable_at es k = f.upper k le lt in let ne : variable_at es k ≢ b = lacks k lt in omega (arith, b_le, ne))));
      nonzero = subst AreNonzero (sym f.form_is) (nonzero_scaled t (zero_form f.before b es) ft (nonzero_zero_form f.before b es full));
      q_in = place_in_form b c es form q f;
      variable = ap (λ (e : Entry). e.variable) at_q;
      coefficient =
          ap (λ (e : Entry). number e.coefficient) at_q ∙ number_product x t fx fr ∙ ap (rational_product (number x)) (number_neg f.reciprocal fr)
          ∙ solve rationals (number x ∷ number f.reciprocal ∷ []) (product (var 0) (minus (var 1))) (minus (product (var 0) (var 1))) refl
          ∙ ap rational_negation one;
      factor = t;
      factor_positive = fr;
      inverse = rational_negation (number x);
      inverse_is =
          ap (rational_product (rational_negation (number x))) (number_neg f.reciprocal fr)
          ∙ solve rationals (number x ∷ number f.reciprocal ∷ []) (product (minus (var 0)) (minus (var 1))) (product (var 0) (var 1)) refl
          ∙ one;
      before = f.before;
      form_is = f.form_is;
    }

free_form : (j b c : ℕ) (es form : List Entry) (q : ℕ) → FormFacts b c es form q → j ≢ b → Free j es → Free j form
free_form j b c es form q f ne h = subst (Free j) (sym f.form_is) (free_scaled j f.factor (zero_form f.before b es) (free_zero_form j f.before b es ne h))

-- the entering variable cancels in a row that has it
free_replaced : (b c : ℕ) (es xs form : List Entry) (q i : ℕ) → FormFacts b c es form q → IsAscending xs → AreNonzero xs → i < length xs → variable_at xs i ≡ c
    → Free c (merged (coefficient_at xs i) xs form)
free_replaced b c es xs form q i f asc full lt is =
    let a = coefficient_at xs i in
    let fa : IsNonzero a = nonzero_at xs i full lt in
    free_of_zero c 0 (merged a xs form) (from_merged a xs 0 form (from_zero xs asc) f.from) (nonzero_merged a xs form fa full f.nonzero)
    (dot_merged (only c) a xs form fa.0 (nonzero_positive xs full) (nonzero_positive form f.nonzero)
    ∙ ap₂ (λ m n. rational_sum m (rational_product (number a) n))
    (ap (λ n. dot (only n) xs) (sym is) ∙ dot_only_at 0 xs i (from_zero xs asc) lt)
    (ap (λ n. dot (only n) form) (sym f.variable) ∙ dot_only_at 0 form q f.from f.q_in ∙ f.coefficient)
    ∙ solve rationals (number a ∷ []) (sum (var 0) (product (var 0) (minus unit))) nothing refl
    )

-- ---- a row after the pivot

solved_ascends : (b c : ℕ) (es form : List Entry) (q : ℕ) → FormFacts b c es form q → IsAscending (without q form)
solved_ascends b c es form q f = ascending 0 (without q form) (from_without 0 q form f.from)

changed_ascends : (b c : ℕ) (es form : List Entry) (q : ℕ) (before now : Row) → FormFacts b c es form q → IsAscending before.entries.items → IsChanged c form before now
    → IsAscending now.entries.items
changed_ascends b c es form q before now f asc (same, inl (i, lt, is, e, fits)) =
    subst IsAscending (sym e)
    (ascending 0 (merged (coefficient_at before.entries.items i) before.entries.items form)
    (from_merged (coefficient_at before.entries.items i) before.entries.items 0 form (from_zero before.entries.items asc) f.from))
changed_ascends b c es form q before now f asc (same, inr (l, e)) = subst IsAscending (sym e) asc

changed_nonzero : (b c : ℕ) (es form : List Entry) (q : ℕ) (before now : Row) → FormFacts b c es form q → AreNonzero before.entries.items → IsChanged c form before now
    → AreNonzero now.entries.items
changed_nonzero b c es form q before now f full (same, inl (i, lt, is, e, fits)) =
    subst AreNonzero (sym e)
    (nonzero_merged (coefficient_at before.entries.items i) before.entries.items form (nonzero_at before.entries.items i full lt) full f.nonzero)
changed_nonzero b c es form q before now f full (same, inr (l, e)) = subst AreNonzero (sym e) full

pub form_fractions : (b c : ℕ) (es form : List Entry) (q : ℕ) → AreFractions es → IsForm b c es form q → AreFractions form
form_fractions b c es form q h f =
    subst AreFractions (sym f.form_is)
    (fractions_scaled (negation_of f.reciprocal) (zero_form f.before b es) (negation_fraction f.reciprocal f.lowest) (fractions_zero_form f.before b es h) f.fits)

changed_fractions : (c : ℕ) (form : List Entry) (before now : Row) → AreFractions form → AreFractions before.entries.items → IsChanged c form before now → AreFractions now.entries.items
changed_fractions c form before now ff fb (same, inl (i, lt, is, e, fits)) =
    subst AreFractions (sym e) (fractions_merged (coefficient_at before.entries.items i) before.entries.items form (fraction_at before.entries.items i fb lt) fb ff fits)
changed_fractions c form before now ff fb (same, inr (l, e)) = subst AreFractions (sym e) fb

changed_free : (j b c : ℕ) (es form : List Entry) (q : ℕ) (before now : Row) → Free j form → Free j before.entries.items → IsChanged c form before now → Free j now.entries.items
changed_free j b c es form q before now ff fb (same, inl (i, lt, is, e, fits)) = subst (Free j) (sym e) (free_merged j (coefficient_at before.entries.items i) before.entries.items form fb ff)
changed_free j b c es form q before now ff fb (same, inr (l, e)) = subst (Free j) (sym e) fb

changed_free_entering : (b c : ℕ) (es form : List Entry) (q : ℕ) (before now : Row) → FormFacts b c es form q → IsAscending before.entries.items → AreNonzero before.entries.items
    → IsChanged c form before now → Free c now.entries.items
changed_free_entering b c es form q before now f asc full (same, inl (i, lt, is, e, fits)) =
    subst (Free c) (sym e) (free_replaced b c es before.entries.items form q i f asc full lt is)
changed_free_entering b c es form q before now f asc full (same, inr (l, e)) = subst (Free c) (sym e) (places_free c before.entries.items l)

-- ---- all rows after the pivot

by_place : {P : Type 0} (k place : ℕ) → (k ≡ place → P) → (k ≢ place → P) → P
by_place {P} k place here there = by_test (eqb k place) refl
  where
    by_test : (t : Bool) → eqb k place ≡ t → P
    by_test true e = here (eqb-true k place e)
    by_test false e = there (λ w. let z : true ≡ false = sym (eq-eqb k place w) ∙ e in absurd (cc))

facts : (before now : List Row) (n c place : ℕ) (d : Row) → IsTableau n before → place < length before → (p : IsPivoted c place before now d)
    → FormFacts (get_or before place d).basic c (get_or before place d).entries.items p.form p.q
facts before now n c place d t lt p =
    form_facts (get_or before place d).basic c (get_or before place d).entries.items p.form p.q (t.ascending place d lt) (t.nonzero place d lt) (t.separate place place d lt lt) p.is_form

pub tableau_kept : (before now : List Row) (n c place : ℕ) → IsTableau n before → place < length before → length now ≡ length before → ((d : Row) → IsPivoted c place before now d) → IsTableau n now
tableau_kept before now n c place t lt len pivoted =
    record {
      ascending = λ k d h. by_place k place
          (λ e. subst (λ n. IsAscending (get_or now n d).entries.items) (sym e)
          (subst IsAscending (sym (pivoted d).solved) (solved_ascends (get_or before place d).basic c (get_or before place d).entries.items (pivoted d).form (pivoted d).q (facts before now n c place d t lt (pivoted d)))))
          (λ ne. changed_ascends (get_or before place d).basic c (get_or before place d).entries.items (pivoted d).form (pivoted d).q (get_or before k d) (get_or now k d)
          (facts before now n c place d t lt (pivoted d)) (t.ascending k d (omega arith)) ((pivoted d).others k (omega arith) ne));
      nonzero = λ k d h. by_place k place
          (λ e. subst (λ n. AreNonzero (get_or now n d).entries.items) (sym e)
          (subst AreNonzero (sym (pivoted d).solved) (nonzero_without (pivoted d).q (pivoted d).form (facts before now n c place d t lt (pivoted d)).nonzero)))
          (λ ne. changed_nonzero (get_or before place d).basic c (get_or before place d).entries.items (pivoted d).form (pivoted d).q (get_or before k d) (get_or now k d)
          (facts before now n c place d t lt (pivoted d)) (t.nonzero k d (omega arith)) ((pivoted d).others k (omega arith) ne));
      fractions = λ k d h. by_place k place
          (λ e. subst (λ n. AreFractions (get_or now n d).entries.items) (sym e) (subst AreFractions (sym (pivoted d).solved) (fractions_without (pivoted d).q (pivoted d).form (fractions_of_form d))))
          (λ ne. changed_fractions c (pivoted d).form (get_or before k d) (get_or now k d) (fractions_of_form d) (t.fractions k d (omega arith)) ((pivoted d).others k (omega arith) ne));
      distinct = λ j k d hj hk same. by_place j place
          (λ ej. by_place k place (λ ek. ej ∙ sym ek)
          (λ nk. absurd (differs d k (omega arith) nk (sym (pivoted d).basic ∙ ap (λ n. (get_or now n d).basic) (sym ej) ∙ same))))
          (λ nj. by_place k place
          (λ ek. absurd (differs d j (omega arith) nj (sym (pivoted d).basic ∙ ap (λ n. (get_or now n d).basic) (sym ek) ∙ sym same)))
          (λ nk. t.distinct j k d (omega arith) (omega arith) (sym ((pivoted d).others j (omega arith) nj).0 ∙ same ∙ ((pivoted d).others k (omega arith) nk).0)));
      separate = λ j k d hj hk. free_places (get_or now j d).basic (get_or now k d).entries.items (by_place j place
          (λ ej. subst (λ n. Free n (get_or now k d).entries.items) (sym (ap (λ n. (get_or now n d).basic) ej ∙ (pivoted d).basic)) (entering_free d k (omega arith)))
          (λ nj. subst (λ n. Free n (get_or now k d).entries.items) (sym ((pivoted d).others j (omega arith) nj).0) (other_free d j k (omega arith) nj (omega arith))));
      known = λ j k d le hk. free_places j (get_or now k d).entries.items (unknown_free d j k le (omega arith));
      basics = λ k d hk. by_place k place
          (λ e. subst (λ i. i < n) (sym (ap (λ i. (get_or now i d).basic) e ∙ (pivoted d).basic)) (entering_known d))
          (λ ne. subst (λ i. i < n) (sym ((pivoted d).others k (omega arith) ne).0) (t.basics k d (omega arith)));
    }
  where
    fractions_of_form : (d : Row) → AreFractions (pivoted d).form
    fractions_of_form d = form_fractions (get_or before place d).basic c (get_or before place d).entries.items (pivoted d).form (pivoted d).q (t.fractions place d lt) (pivoted d).is_form

    -- the entering variable isn't basic in another row
    differs : (d : Row) (k : ℕ) → k < length before → k ≢ place → c ≡ (get_or now k d).basic → ⊥
    differs d k h ne e =
        t.separate k place d h lt (pivoted d).is_form.place (pivoted d).is_form.in_row ((pivoted d).is_form.is_entering ∙ e ∙ ((pivoted d).others k h ne).0)

    entering_free : (d : Row) (k : ℕ) → k < length before → Free c (get_or now k d).entries.items
    entering_free d k h = by_place k place
        (λ e. subst (λ n. Free c (get_or now n d).entries.items) (sym e)
        (subst (Free c) (sym (pivoted d).solved)
        (subst (λ n. Free n (without (pivoted d).q (pivoted d).form)) (facts before now n c place d t lt (pivoted d)).variable
        (free_left_out 0 (pivoted d).q (pivoted d).form (facts before now n c place d t lt (pivoted d)).from (facts before now n c place d t lt (pivoted d)).q_in))))
        (λ ne. changed_free_entering (get_or before place d).basic c (get_or before place d).entries.items (pivoted d).form (pivoted d).q (get_or before k d) (get_or now k d)
        (facts before now n c place d t lt (pivoted d)) (t.ascending k d h) (t.nonzero k d h) ((pivoted d).others k h ne))

    form_free : (d : Row) (j : ℕ) → j < length before → j ≢ place → Free (get_or before j d).basic (pivoted d).form
    form_free d j h nj =
        free_form (get_or before j d).basic (get_or before place d).basic c (get_or before place d).entries.items (pivoted d).form (pivoted d).q (facts before now n c place d t lt (pivoted d))
        (λ e. nj (t.distinct j place d h lt e)) (places_free (get_or before j d).basic (get_or before place d).entries.items (t.separate j place d h lt))

    other_free : (d : Row) (j k : ℕ) → j < length before → j ≢ place → k < length before → Free (get_or before j d).basic (get_or now k d).entries.items
    other_free d j k h nj hk = by_place k place
        (λ e. subst (λ n. Free (get_or before j d).basic (get_or now n d).entries.items) (sym e)
        (subst (Free (get_or before j d).basic) (sym (pivoted d).solved) (free_without (get_or before j d).basic (pivoted d).q (pivoted d).form (form_free d j h nj))))
        (λ ne. changed_free (get_or before j d).basic (get_or before place d).basic c (get_or before place d).entries.items (pivoted d).form (pivoted d).q (get_or before k d) (get_or now k d)
        (form_free d j h nj) (places_free (get_or before j d).basic (get_or before k d).entries.items (t.separate j k d h hk)) ((pivoted d).others k hk ne))

    entering_known : (d : Row) → c < n
    entering_known d = by_order (cases_lt c n)
      where
        by_order : (c < n) ⊎ (n ≤ c) → c < n
        by_order (inl less) = less
        by_order (inr le) = absurd (t.known c place d le lt (pivoted d).is_form.place (pivoted d).is_form.in_row (pivoted d).is_form.is_entering)

    unknown_free : (d : Row) (j k : ℕ) → n ≤ j → k < length before → Free j (get_or now k d).entries.items
    unknown_free d j k le hk = by_place k place
        (λ e. subst (λ i. Free j (get_or now i d).entries.items) (sym e) (subst (Free j) (sym (pivoted d).solved) (free_without j (pivoted d).q (pivoted d).form form_free_of)))
        (λ ne. changed_free j (get_or before place d).basic c (get_or before place d).entries.items (pivoted d).form (pivoted d).q (get_or before k d) (get_or now k d)
        form_free_of (places_free j (get_or before k d).entries.items (t.known j k d le hk)) ((pivoted d).others k hk ne))
      where
        form_free_of : Free j (pivoted d).form
        form_free_of =
            free_form j (get_or before place d).basic c (get_or before place d).entries.items (pivoted d).form (pivoted d).q (facts before now n c place d t lt (pivoted d))
            (λ w. let b : (get_or before place d).basic < n = t.basics place d lt in absurd (omega (arith, w, b, le)))
            (places_free j (get_or before place d).entries.items (t.known j place d le lt))

-- ---- solutions

abbrev Met : (ℕ → Rational) → Row → Type 0
Met v r = v r.basic ≡ dot v r.entries.items

changed_same : (v : ℕ → Rational) (b c : ℕ) (es form : List Entry) (q : ℕ) (before now : Row) → FormFacts b c es form q → AreNonzero before.entries.items → IsChanged c form before now
    → dot v form ≡ rational_zero → dot v now.entries.items ≡ dot v before.entries.items
changed_same v b c es form q before now f full (same, inl (i, lt, is, e, fits)) none =
    ap (dot v) e
    ∙ same_where_form v (coefficient_at before.entries.items i) before.entries.items form (nonzero_at before.entries.items i full lt).0 (nonzero_positive before.entries.items full)
    (nonzero_positive form f.nonzero) none
changed_same v b c es form q before now f full (same, inr (l, e)) none = ap (dot v) e

pub met_before : (before now : List Row) (n c place : ℕ) → IsTableau n before → place < length before → length now ≡ length before → ((d : Row) → IsPivoted c place before now d)
    → (v : ℕ → Rational) → ((k : ℕ) (d : Row) → k < length before → Met v (get_or now k d)) → (k : ℕ) (d : Row) → k < length before → Met v (get_or before k d)
met_before before now n c place t lt len pivoted v met k d h =
    by_place k place
    (λ e. subst (λ n. Met v (get_or before n d)) (sym e)
    (row_from_form v f.factor f.inverse f.before b es f.factor_positive (nonzero_positive es (t.nonzero place d lt)) f.inverse_is (ap (dot v) (sym f.form_is) ∙ none)))
    (λ ne. ap v (sym ((pivoted d).others k h ne).0) ∙ met k d h
    ∙ changed_same v b c es (pivoted d).form (pivoted d).q (get_or before k d) (get_or now k d) f (t.nonzero k d h) ((pivoted d).others k h ne) none)
  where
    b : ℕ
    b = (get_or before place d).basic

    es : List Entry
    es = (get_or before place d).entries.items

    f : FormFacts b c es (pivoted d).form (pivoted d).q
    f = facts before now n c place d t lt (pivoted d)

    none : dot v (pivoted d).form ≡ rational_zero
    none =
        form_from_solved v (pivoted d).q c (pivoted d).form f.q_in f.variable f.coefficient
        (ap v (sym (pivoted d).basic) ∙ met place d lt ∙ ap (dot v) (pivoted d).solved)

pub met_after : (before now : List Row) (n c place : ℕ) → IsTableau n before → place < length before → length now ≡ length before → ((d : Row) → IsPivoted c place before now d)
    → (v : ℕ → Rational) → ((k : ℕ) (d : Row) → k < length before → Met v (get_or before k d)) → (k : ℕ) (d : Row) → k < length before → Met v (get_or now k d)
met_after before now n c place t lt len pivoted v met k d h =
    by_place k place
    (λ e. subst (λ n. Met v (get_or now n d)) (sym e)
    (ap v (pivoted d).basic ∙ solved_from_form v (pivoted d).q c (pivoted d).form f.q_in f.variable f.coefficient none ∙ ap (dot v) (sym (pivoted d).solved)))
    (λ ne. ap v ((pivoted d).others k h ne).0 ∙ met k d h
    ∙ sym (changed_same v b c es (pivoted d).form (pivoted d).q (get_or before k d) (get_or now k d) f (t.nonzero k d h) ((pivoted d).others k h ne) none))
  where
    b : ℕ
    b = (get_or before place d).basic

    es : List Entry
    es = (get_or before place d).entries.items

    f : FormFacts b c es (pivoted d).form (pivoted d).q
    f = facts before now n c place d t lt (pivoted d)

    none : dot v (pivoted d).form ≡ rational_zero
    none =
        ap (dot v) f.form_is ∙ form_from_row v f.factor f.before b es f.factor_positive (nonzero_positive es (t.nonzero place d lt)) (met place d lt)
