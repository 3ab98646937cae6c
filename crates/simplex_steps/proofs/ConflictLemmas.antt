-- Where no entry can help, the bounds that stop them are met by no solution of the rows.
use Rattle.std.proofs.Common.{◌≡◌, ◌≢◌, ℕ, zero, suc, ◌<◌, ℤ, pos, ◌≤ℤ◌, sym, ap, ap₂, ◌∙◌, subst, refl, arith, eq-eqb, unsigned_abs, List, [], ◌∷◌, length, get_or, map, Bool, true, false, cond, Option, Some, None, All, ◌&&◌}
use Rattle.std.specs.Prelude.{int_lt}
use Rattle.std.proofs.lemmas.Int.{ints}
use Rattle.std.proofs.lemmas.List.{get_or-map, length-map}
use Rattle.fraction128.specs.declared.ratio.Ratio.{Ratio}
use Rattle.fraction128.specs.Listed.{negation_of}
use Rattle.fraction128.specs.Number.{whole, is_less, is_positive, is_negative}
use Rattle.fraction128.proofs.RingEquations.{var, sum, product, minus, nothing, solve}
use Rattle.fraction128.proofs.RationalRing.{Rational, number, number_neg, rational_sum, rational_product, rational_negation, rationals}
use Rattle.fraction128.proofs.RationalOrder.{NonPos, nonpos_plus, nonpos_none, nonpos_times, less_or_same, difference_nonpos, times_one}
use Rattle.fraction128.proofs.ExactSteps.{none_number}
use Rattle.fraction128.specs.declared.Summand.{Summand}
use Rattle.fraction128.specs.declared.Entry.{Entry}
use Rattle.fraction128.specs.declared.Column.{Column}
use Rattle.fraction128.specs.declared.TableRow.{TableRow}
use Rattle.fraction128.specs.declared.Bound.{Bound}
use Rattle.fraction128.specs.declared.Side.TheVariants.{Lower, Upper}
use Rattle.fraction128.specs.Grid.{helps, can_rise, can_fall, is_crossed, MeetsRow}
use Rattle.fraction128.proofs.RowValue.{dot, meets_to, ArePositive}
use Rattle.tableau.specs.Table.{Table, IsTable, AreNonzero, row_at, no_row}
use Rattle.tableau.proofs.Shape.{nonzero_positive}
use Rattle.simplex_steps.specs.State.{column_in, values, IsSolution}
use Rattle.simplex_steps.specs.Conflict.{Stands, MeetsBound, side_bound, stop, stops, same_sign, number_or_none, NoneHelps, KnownEntries, Apart, IsTarget, IsRowConflict, IsCrossing}
use Rattle.simplex_steps.proofs.Next.{known_entries}
use Rattle.simplex_steps.proofs.Bland.{first_false, second_false, right_false}

minusq : Rational → Rational → Rational
minusq p q = rational_sum p (rational_negation q)

-- x <= k <= y
between : (x y : Ratio) (k : ℤ) → 0 < x.denominator → 0 < y.denominator → is_less (whole k) x ≡ false → is_less y (whole k) ≡ false → NonPos (minusq (number x) (number y))
unfolding minusq
between x y k fx fy below above =
    subst NonPos
    (solve rationals (number x ∷ number (whole k) ∷ number y ∷ []) (sum (sum (var 0) (minus (var 1))) (sum (var 1) (minus (var 2)))) (sum (var 0) (minus (var 2))) refl)
    (nonpos_plus (rational_sum (number x) (rational_negation (number (whole k)))) (rational_sum (number (whole k)) (rational_negation (number y)))
    (less_or_same x (whole k) fx (omega arith) below) (less_or_same (whole k) y (omega arith) fy above))

-- a times a difference that isn't positive, and minus a times one that isn't negative
held_positive : (a : Ratio) (p q : Rational) → 0 < a.denominator → pos 0 ≤ℤ a.numerator → NonPos (minusq p q) → NonPos (rational_product (number a) (minusq p q))
held_positive a p q fa ha h = nonpos_times a (minusq p q) fa ha h

held_negative : (a : Ratio) (p q : Rational) → 0 < a.denominator → a.numerator ≤ℤ pos 0 → NonPos (minusq q p) → NonPos (rational_product (number a) (minusq p q))
unfolding minusq
held_negative a p q fa ha h =
    subst NonPos
    (ap (λ m. rational_product m (rational_sum q (rational_negation p))) (number_neg a fa)
    ∙ solve rationals (number a ∷ p ∷ q ∷ []) (product (minus (var 0)) (sum (var 2) (minus (var 1)))) (product (var 0) (sum (var 1) (minus (var 2)))) refl)
    (nonpos_times (negation_of a) (minusq q p) fa (omega (arith, ints)) h)

-- ---- one entry

rise_is : (s : List Summand) (l u : Option ℤ) (x : Ratio) → can_rise (record { sum = s; lower = l; upper = u; value = x }) ≡ false → (u ≡ Some (number_or_none u)) × (is_less x (whole (number_or_none u)) ≡ false)
rise_is s l (Some k) x e = (refl, e)
rise_is s l None x e = absurd (cc)

fall_is : (s : List Summand) (l u : Option ℤ) (x : Ratio) → can_fall (record { sum = s; lower = l; upper = u; value = x }) ≡ false → (l ≡ Some (number_or_none l)) × (is_less (whole (number_or_none l)) x ≡ false)
fall_is s (Some k) u x e = (refl, e)
fall_is s None u x e = absurd (cc)

above_is : (c : Column) → can_rise c ≡ false → is_less c.value (whole (number_or_none c.upper)) ≡ false
above_is c e = (rise_is c.sum c.lower c.upper c.value e).1

below_is : (c : Column) → can_fall c ≡ false → is_less (whole (number_or_none c.lower)) c.value ≡ false
below_is c e = (fall_is c.sum c.lower c.upper c.value e).1

zero_nonpos : (a : Ratio) (p : Rational) → 0 < a.denominator → a.numerator ≡ pos 0 → NonPos (rational_product (number a) p)
zero_nonpos a p fa z =
    subst NonPos
    (sym (ap (λ m. rational_product m p) (none_number a fa (eq-eqb (unsigned_abs a.numerator) 0 (ap unsigned_abs z))) ∙ solve rationals (p ∷ []) (product nothing (var 0)) nothing refl))
    nonpos_none

stopped_up : (a : Ratio) (c : Column) (x : Ratio) → 0 < a.denominator → 0 < c.value.denominator → 0 < x.denominator → helps true a c ≡ false
    → (is_positive a ≡ true → is_less (whole (number_or_none c.upper)) x ≡ false) → (is_positive a ≡ false → is_less x (whole (number_or_none c.lower)) ≡ false)
    → NonPos (rational_product (number a) (minusq (number x) (number c.value)))
stopped_up a c x fa fc fx none up down = by_sign (is_positive a) refl (is_negative a) refl
  where
    by_sign : (s : Bool) → is_positive a ≡ s → (t : Bool) → is_negative a ≡ t → NonPos (rational_product (number a) (minusq (number x) (number c.value)))
    by_sign true e t f =
        held_positive a (number x) (number c.value) fa (grind (arith, ints))
        (between x c.value (number_or_none c.upper) fx fc (up e)
        (above_is c (right_false (is_positive a) (can_rise c) e
        (first_false (is_positive a && can_rise c) (is_negative a && can_fall c) none))))
    by_sign false e true f =
        held_negative a (number x) (number c.value) fa (grind (arith, ints))
        (between c.value x (number_or_none c.lower) fc fx
        (below_is c (right_false (is_negative a) (can_fall c) f
        (second_false (is_positive a && can_rise c) (is_negative a && can_fall c) none))) (down e))
    by_sign false e false f = zero_nonpos a (minusq (number x) (number c.value)) fa (grind (arith, ints))

stopped_down : (a : Ratio) (c : Column) (x : Ratio) → 0 < a.denominator → 0 < c.value.denominator → 0 < x.denominator → helps false a c ≡ false
    → (is_positive a ≡ true → is_less x (whole (number_or_none c.lower)) ≡ false) → (is_positive a ≡ false → is_less (whole (number_or_none c.upper)) x ≡ false)
    → NonPos (rational_product (number a) (minusq (number c.value) (number x)))
stopped_down a c x fa fc fx none down up = by_sign (is_positive a) refl (is_negative a) refl
  where
    by_sign : (s : Bool) → is_positive a ≡ s → (t : Bool) → is_negative a ≡ t → NonPos (rational_product (number a) (minusq (number c.value) (number x)))
    by_sign true e t f =
        held_positive a (number c.value) (number x) fa (grind (arith, ints))
        (between c.value x (number_or_none c.lower) fc fx
        (below_is c (right_false (is_positive a) (can_fall c) e
        (first_false (is_positive a && can_fall c) (is_negative a && can_rise c) none))) (down e))
    by_sign false e true f =
        held_negative a (number c.value) (number x) fa (grind (arith, ints))
        (between x c.value (number_or_none c.upper) fx fc (up e)
        (above_is c (right_false (is_negative a) (can_rise c) f
        (second_false (is_positive a && can_fall c) (is_negative a && can_rise c) none))))
    by_sign false e false f = zero_nonpos a (minusq (number c.value) (number x)) fa (grind (arith, ints))

-- ---- a row

dot_minus : (P Q : ℕ → Rational) (es : List Entry) → dot (λ i. minusq (P i) (Q i)) es ≡ minusq (dot P es) (dot Q es)
unfolding minusq
dot_minus P Q [] = solve rationals [] nothing (sum nothing (minus nothing)) refl
dot_minus P Q (e ∷ es) =
    ap (rational_sum (rational_product (number e.coefficient) (rational_sum (P e.variable) (rational_negation (Q e.variable))))) (dot_minus P Q es)
    ∙ solve rationals (number e.coefficient ∷ P e.variable ∷ Q e.variable ∷ dot P es ∷ dot Q es ∷ [])
    (sum (product (var 0) (sum (var 1) (minus (var 2)))) (sum (var 3) (minus (var 4))))
    (sum (sum (product (var 0) (var 1)) (var 3)) (minus (sum (product (var 0) (var 2)) (var 4)))) refl

nonpos_dot : (D : ℕ → Rational) (es : List Entry) → ((k : ℕ) (d : Entry) → k < length es → NonPos (rational_product (number (get_or es k d).coefficient) (D (get_or es k d).variable))) → NonPos (dot D es)
nonpos_dot D [] h = nonpos_none
nonpos_dot D (e ∷ es) h =
    nonpos_plus (rational_product (number e.coefficient) (D e.variable)) (dot D es) (h 0 e (omega arith)) (nonpos_dot D es (λ k d lt. h (suc k) d (omega arith)))

positive_at : (es : List Entry) (k : ℕ) (d : Entry) → ArePositive es → k < length es → 0 < (get_or es k d).coefficient.denominator
positive_at [] k d p lt = absurd (omega arith)
positive_at (e ∷ es) zero d p lt = p.0
positive_at (e ∷ es) (suc k) d p lt = positive_at es k d p.1 (omega arith)

met_up : (v : ℕ → Ratio) (cs : List Column) (i : ℕ) (s : Bool) → MeetsBound v (side_bound cs i (cond (same_sign s true) Upper Lower))
    → (s ≡ true → is_less (whole (number_or_none (column_in cs i).upper)) (v i) ≡ false) × (s ≡ false → is_less (v i) (whole (number_or_none (column_in cs i).lower)) ≡ false)
met_up v cs i true m = (λ _. m, λ h. absurd (cc))
met_up v cs i false m = (λ h. absurd (cc), λ _. m)

met_down : (v : ℕ → Ratio) (cs : List Column) (i : ℕ) (s : Bool) → MeetsBound v (side_bound cs i (cond (same_sign s false) Upper Lower))
    → (s ≡ true → is_less (v i) (whole (number_or_none (column_in cs i).lower)) ≡ false) × (s ≡ false → is_less (whole (number_or_none (column_in cs i).upper)) (v i) ≡ false)
met_down v cs i true m = (λ _. m, λ h. absurd (cc))
met_down v cs i false m = (λ h. absurd (cc), λ _. m)

-- the bound that stops an entry, among those met
stop_met : (v : ℕ → Ratio) (cs : List Column) (rises : Bool) (b : ℕ) (es : List Entry) → All (MeetsBound v) (stops cs rises b es) → (k : ℕ) (d : Entry) → k < length es
    → MeetsBound v (stop cs rises (get_or es k d))
stop_met v cs rises b es met k d lt =
    subst (MeetsBound v) (get_or-map (stop cs rises) es k d (stop cs rises d) lt) (met (suc k) (stop cs rises d) (omega (arith, length-map es (stop cs rises))))

-- a solution that meets the bounds contradicts a row whose basic variable is outside its bound
pub apart_up : (v : ℕ → Ratio) (cs : List Column) (r : TableRow) → ((i : ℕ) → 0 < (v i).denominator) → ((i : ℕ) → 0 < (values cs i).denominator) → ArePositive r.entries
    → MeetsRow v r → MeetsRow (values cs) r → NoneHelps cs true r.entries → is_less (values cs r.basic) (whole (number_or_none (column_in cs r.basic).lower)) ≡ true
    → All (MeetsBound v) (stops cs true r.basic r.entries) → ⊥
unfolding minusq
apart_up v cs r fv fc fp mv mc none outside met =
    let V = λ (i : ℕ). number (v i) in
    let Y = λ (i : ℕ). number (values cs i) in
    let k = number_or_none (column_in cs r.basic).lower in
    let lower_met : is_less (v r.basic) (whole k) ≡ false = met 0 (side_bound cs r.basic Lower) (omega arith) in
    let down : NonPos (rational_sum (V r.basic) (rational_negation (Y r.basic))) =
    subst NonPos (dot_minus V Y r.entries ∙ ap₂ (λ m n. rational_sum m (rational_negation n)) (sym (meets_to v r fv fp mv)) (sym (meets_to (values cs) r fc fp mc)))
    (nonpos_dot (λ i. rational_sum (V i) (rational_negation (Y i))) r.entries
    (λ j d lt. let m = met_up v cs (get_or r.entries j d).variable (is_positive (get_or r.entries j d).coefficient) (stop_met v cs true r.basic r.entries met j d lt) in
    stopped_up (get_or r.entries j d).coefficient (column_in cs (get_or r.entries j d).variable) (v (get_or r.entries j d).variable) (positive_at r.entries j d fp lt)
    (fc (get_or r.entries j d).variable) (fv (get_or r.entries j d).variable) (none j d lt) m.0 m.1)) in
    let all : NonPos (rational_sum (number (whole k)) (rational_negation (Y r.basic))) =
    subst NonPos
    (solve rationals (number (whole k) ∷ V r.basic ∷ Y r.basic ∷ []) (sum (sum (var 0) (minus (var 1))) (sum (var 1) (minus (var 2)))) (sum (var 0) (minus (var 2))) refl)
    (nonpos_plus (rational_sum (number (whole k)) (rational_negation (V r.basic))) (rational_sum (V r.basic) (rational_negation (Y r.basic))) (less_or_same (whole k) (v r.basic) (omega arith) (fv r.basic) lower_met) down) in
    let inside : is_less (values cs r.basic) (whole k) ≡ false = difference_nonpos (whole k) (values cs r.basic) (omega arith) (fc r.basic) all in
    let e : true ≡ false = sym outside ∙ inside in absurd (cc)

pub apart_down : (v : ℕ → Ratio) (cs : List Column) (r : TableRow) → ((i : ℕ) → 0 < (v i).denominator) → ((i : ℕ) → 0 < (values cs i).denominator) → ArePositive r.entries
    → MeetsRow v r → MeetsRow (values cs) r → NoneHelps cs false r.entries → is_less (whole (number_or_none (column_in cs r.basic).upper)) (values cs r.basic) ≡ true
    → All (MeetsBound v) (stops cs false r.basic r.entries) → ⊥
unfolding minusq
apart_down v cs r fv fc fp mv mc none outside met =
    let V = λ (i : ℕ). number (v i) in
    let Y = λ (i : ℕ). number (values cs i) in
    let k = number_or_none (column_in cs r.basic).upper in
    let upper_met : is_less (whole k) (v r.basic) ≡ false = met 0 (side_bound cs r.basic Upper) (omega arith) in
    let up : NonPos (rational_sum (Y r.basic) (rational_negation (V r.basic))) =
    subst NonPos (dot_minus Y V r.entries ∙ ap₂ (λ m n. rational_sum m (rational_negation n)) (sym (meets_to (values cs) r fc fp mc)) (sym (meets_to v r fv fp mv)))
    (nonpos_dot (λ i. rational_sum (Y i) (rational_negation (V i))) r.entries
    (λ j d lt. let m = met_down v cs (get_or r.entries j d).variable (is_positive (get_or r.entries j d).coefficient) (stop_met v cs false r.basic r.entries met j d lt) in
    stopped_down (get_or r.entries j d).coefficient (column_in cs (get_or r.entries j d).variable) (v (get_or r.entries j d).variable) (positive_at r.entries j d fp lt)
    (fc (get_or r.entries j d).variable) (fv (get_or r.entries j d).variable) (none j d lt) m.0 m.1)) in
    let all : NonPos (rational_sum (Y r.basic) (rational_negation (number (whole k)))) =
    subst NonPos
    (solve rationals (Y r.basic ∷ V r.basic ∷ number (whole k) ∷ []) (sum (sum (var 0) (minus (var 1))) (sum (var 1) (minus (var 2)))) (sum (var 0) (minus (var 2))) refl)
    (nonpos_plus (rational_sum (Y r.basic) (rational_negation (V r.basic))) (rational_sum (V r.basic) (rational_negation (number (whole k)))) up (less_or_same (v r.basic) (whole k) (fv r.basic) (omega arith) upper_met)) in
    let inside : is_less (whole k) (values cs r.basic) ≡ false = difference_nonpos (values cs r.basic) (whole k) (fc r.basic) (omega arith) all in
    let e : true ≡ false = sym outside ∙ inside in absurd (cc)

-- ---- the bounds stand

stop_stands : (cs : List Column) (i : ℕ) (a : Ratio) → a.numerator ≢ pos 0 → i < length cs → (rises : Bool) → helps rises a (column_in cs i) ≡ false → (s : Bool) → is_positive a ≡ s → (n : Bool) → is_negative a ≡ n
    → Stands cs (side_bound cs i (cond (same_sign s rises) Upper Lower))
stop_stands cs i a some lt true h true e n f =
    let c = column_in cs i in
    (lt, (rise_is c.sum c.lower c.upper c.value (right_false (is_positive a) (can_rise c) e (first_false (is_positive a && can_rise c) (is_negative a && can_fall c) h))).0)
stop_stands cs i a some lt true h false e true f =
    let c = column_in cs i in
    (lt, (fall_is c.sum c.lower c.upper c.value (right_false (is_negative a) (can_fall c) f (second_false (is_positive a && can_rise c) (is_negative a && can_fall c) h))).0)
stop_stands cs i a some lt false h true e n f =
    let c = column_in cs i in
    (lt, (fall_is c.sum c.lower c.upper c.value (right_false (is_positive a) (can_fall c) e (first_false (is_positive a && can_fall c) (is_negative a && can_rise c) h))).0)
stop_stands cs i a some lt false h false e true f =
    let c = column_in cs i in
    (lt, (rise_is c.sum c.lower c.upper c.value (right_false (is_negative a) (can_rise c) f (second_false (is_positive a && can_fall c) (is_negative a && can_rise c) h))).0)
stop_stands cs i a some lt true h false e false f = absurd (some (grind (arith, ints)))
stop_stands cs i a some lt false h false e false f = absurd (some (grind (arith, ints)))

nonzero_place : (es : List Entry) (k : ℕ) (d : Entry) → AreNonzero es → k < length es → (get_or es k d).coefficient.numerator ≢ pos 0
nonzero_place [] k d h lt = absurd (omega (arith, lt))
nonzero_place (e ∷ es) zero d h lt = h.0.1
nonzero_place (e ∷ es) (suc k) d h lt = nonzero_place es k d h.1 (omega (arith, lt))

stops_stand : (cs : List Column) (rises : Bool) (b : ℕ) (es : List Entry) → AreNonzero es → KnownEntries (length cs) es → NoneHelps cs rises es → Stands cs (side_bound cs b (cond rises Lower Upper))
    → All (Stands cs) (stops cs rises b es)
stops_stand cs rises b es full known none first zero d lt = first
stops_stand cs rises b es full known none first (suc k) d lt = rest es full known none (omega (arith, lt, length-map es (stop cs rises)))
  where
    rest : (xs : List Entry) → AreNonzero xs → KnownEntries (length cs) xs → NoneHelps cs rises xs → k < length xs → Stands cs (get_or (map (stop cs rises) xs) k d)
    rest [] full known none inside = absurd (omega (arith, inside))
    rest (x ∷ xs) full known none inside =
        let e : Entry = get_or (x ∷ xs) k x in
        subst (Stands cs) (sym (get_or-map (stop cs rises) (x ∷ xs) k x d inside))
        (stop_stands cs e.variable e.coefficient (nonzero_place (x ∷ xs) k x full inside) (known k x inside) rises (none k x inside) (is_positive e.coefficient) refl (is_negative e.coefficient) refl)

pub row_conflict : (t : Table) (cs : List Column) (place : ℕ) (k : ℤ) (rises : Bool) (bs : List Bound) → IsTable t → IsSolution t cs → place < length t.rows
    → IsTarget (column_in cs (row_at t.rows place).basic) k rises → NoneHelps cs rises (row_at t.rows place).entries
    → bs ≡ stops cs rises (row_at t.rows place).basic (row_at t.rows place).entries → IsRowConflict t.rows cs bs
row_conflict t cs place k rises bs facts s lt target none e =
    record {
      place = place;
      in_rows = lt;
      rises = rises;
      exact = e;
      stand = subst (All (Stands cs)) (sym e)
          (stops_stand cs rises b es (facts.nonzero place lt) (subst (λ n. KnownEntries n es) (sym s.count) (known_entries t place facts lt)) none (first rises target));
      apart = subst (Apart t.rows) (sym e) (by_side rises target none);
    }
  where
    b : ℕ
    b = (row_at t.rows place).basic

    es : List Entry
    es = (row_at t.rows place).entries

    known : b < length cs
    known = let l = facts.basics place lt in let c = s.count in omega (arith, l, c)

    first : (r : Bool) → IsTarget (column_in cs b) k r → Stands cs (side_bound cs b (cond r Lower Upper))
    first true q = (known, q.below refl ∙ ap (λ o. Some (number_or_none o)) (sym (q.below refl)))
    first false q = (known, (q.above refl).0 ∙ ap (λ o. Some (number_or_none o)) (sym (q.above refl).0))

    by_side : (r : Bool) → IsTarget (column_in cs b) k r → NoneHelps cs r es → Apart t.rows (stops cs r b es)
    by_side true q h v fv mv met =
        apart_up v cs (row_at t.rows place) fv (λ i. (s.fractions i).positive) (nonzero_positive es (facts.nonzero place lt)) (mv place no_row lt) (s.meets place no_row lt) h
        (ap (λ o. is_less (values cs b) (whole (number_or_none o))) (q.below refl) ∙ q.side) met
    by_side false q h v fv mv met =
        apart_down v cs (row_at t.rows place) fv (λ i. (s.fractions i).positive) (nonzero_positive es (facts.nonzero place lt)) (mv place no_row lt) (s.meets place no_row lt) h
        (ap (λ o. is_less (whole (number_or_none o)) (values cs b)) (q.above refl).0 ∙ (q.above refl).1) met

-- ---- bounds that cross

record Crossed (l u : Option ℤ) : Type 0 where
  lower : l ≡ Some (number_or_none l)
  upper : u ≡ Some (number_or_none u)
  less : int_lt (number_or_none u) (number_or_none l) ≡ true

crossed_is : (s : List Summand) (l u : Option ℤ) (x : Ratio) → is_crossed (record { sum = s; lower = l; upper = u; value = x }) ≡ true → Crossed l u
crossed_is s (Some a) (Some b) x h = record { lower = refl; upper = refl; less = h }
crossed_is s (Some a) None x h = absurd (cc)
crossed_is s None u x h = absurd (cc)

apart_between : (v : Ratio) (a b : ℤ) → 0 < v.denominator → is_less v (whole a) ≡ false → is_less (whole b) v ≡ false → int_lt b a ≡ true → ⊥
apart_between v a b fv low high less =
    let all : NonPos (rational_sum (number (whole a)) (rational_negation (number (whole b)))) =
    subst NonPos
    (solve rationals (number (whole a) ∷ number v ∷ number (whole b) ∷ []) (sum (sum (var 0) (minus (var 1))) (sum (var 1) (minus (var 2)))) (sum (var 0) (minus (var 2))) refl)
    (nonpos_plus (rational_sum (number (whole a)) (rational_negation (number v))) (rational_sum (number v) (rational_negation (number (whole b)))) (less_or_same (whole a) v (omega arith) fv low) (less_or_same v (whole b) fv (omega arith) high)) in
    let inside : is_less (whole b) (whole a) ≡ false = difference_nonpos (whole a) (whole b) (omega arith) (omega arith) all in
    let e : true ≡ false = sym less ∙ sym (ap₂ int_lt (times_one b) (times_one a)) ∙ inside in absurd (cc)

pub crossing : (cs : List Column) (i : ℕ) (bs : List Bound) → i < length cs → is_crossed (column_in cs i) ≡ true → ((j : ℕ) → j < i → is_crossed (column_in cs j) ≡ false)
    → bs ≡ side_bound cs i Lower ∷ side_bound cs i Upper ∷ [] → IsCrossing cs bs
crossing cs i bs lt crossed least e =
    let c = column_in cs i in
    let q = crossed_is c.sum c.lower c.upper c.value crossed in
    record {
      variable = i;
      known = lt;
      crossed = crossed;
      least = least;
      exact = e;
      stand = subst (All (Stands cs)) (sym e) (both q);
      apart = subst (λ (xs : List Bound). (v : ℕ → Ratio) → ((j : ℕ) → 0 < (v j).denominator) → All (MeetsBound v) xs → ⊥) (sym e)
          (λ v fv met. apart_between (v i) (number_or_none c.lower) (number_or_none c.upper) (fv i) (met 0 (side_bound cs i Lower) (omega arith)) (met 1 (side_bound cs i Lower) (omega arith)) q.less);
    }
  where
    both : Crossed (column_in cs i).lower (column_in cs i).upper → All (Stands cs) (side_bound cs i Lower ∷ side_bound cs i Upper ∷ [])
    both q zero d l = (lt, q.lower)
    both q (suc zero) d l = (lt, q.upper)
    both q (suc (suc k)) d l = absurd (omega (arith, l))
