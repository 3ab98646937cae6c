-- New variables and rows keep what holds of the state.
use Rattle.std.proofs.Common.{◌≡◌, ℕ, ◌+◌, ◌<◌, ◌≤◌, ◌⊎◌, inl, inr, pos, sym, ap, ap₂, ◌∙◌, subst, refl, arith, List, [], ◌∷◌, ◌++◌, length, get_or, drop, drop-cons, add-one, length-append, Bool, true, false, eqb, eqb-true, ◌&&◌, None, Result, Ok, Err, OnOk, OnErr}
use Rattle.std.proofs.lemmas.List.{get_or_append_left, get_or_push, get_or_default, get_or_past}
use Rattle.std.proofs.lemmas.Bool.{cases_lt}
use Rattle.fraction128.specs.declared.ratio.Ratio.{Ratio}
use Rattle.fraction128.specs.Number.{whole, SameNumber, unreduced_sum, unreduced_product}
use Rattle.fraction128.specs.Ratio.{IsFraction}
use Rattle.fraction128.specs.Listed.{fused}
use Rattle.fraction128.proofs.RingEquations.{var, sum, product, nothing, solve}
use Rattle.fraction128.proofs.RationalRing.{number, rational_sum, rational_zero-is, rationals}
use Rattle.fraction128.proofs.ExactSteps.{number_fused, fused_positive}
use Rattle.fraction128.specs.declared.Entry.{Entry}
use Rattle.fraction128.specs.declared.Summand.{Summand}
use Rattle.fraction128.specs.declared.TableRow.{TableRow}
use Rattle.fraction128.specs.declared.Column.{Column}
use Rattle.fraction128.specs.declared.Side.TheVariants.{Lower, Upper}
use Rattle.fraction128.specs.Grid.{row_value, MeetsRow, MeetsRows, entries_value, entries_value_fits, fused_fits}
use Rattle.fraction128.proofs.RowValue.{dot, meets_from, ArePositive}
use Rattle.tableau.specs.Table.{Table, IsTable, IsOpenRow, row_at, no_row}
use Rattle.tableau.proofs.Coefficients.{Below}
use Rattle.tableau.proofs.PivotedRows.{below_all}
use Rattle.tableau.proofs.Shape.{nonzero_positive}
use Rattle.tableau.proofs.Absent.{zero_fraction}
use Rattle.simplex.specs.declared.trail.Set.{Set}
use Rattle.simplex.specs.Trail.{Trail, number_of, no_set}
use Rattle.simplex.proofs.TrailLemmas.{tightest_past}
use Rattle.simplex_steps.specs.State.{column_in, no_column, values, IsSolution}
use Rattle.simplex_steps.specs.Conflict.{KnownEntries}
use Rattle.simplex.specs.Sums.{IsMeant}
use Rattle.simplex.proofs.Meaning.{none_mean}
use Rattle.simplex.specs.State.{IsCore, HasBounds, AreKnown, new_column, with_row}

-- ---- adding up the value

drop_entry : (es : List Entry) (k : ℕ) (x : Entry) → k < length es → drop k es ≡ get_or es k x ∷ drop (k + 1) es
drop_entry es k x lt = rw add-one (drop-cons es k x lt)

pub value_more : (v : ℕ → Ratio) (es : List Entry) (k : ℕ) (x : Entry) (now next all : Ratio) → k < length es → entries_value v now (drop k es) ≡ all → next ≡ fused now (get_or es k x).coefficient (v (get_or es k x).variable)
    → entries_value v next (drop (k + 1) es) ≡ all
value_more v es k x now next all lt before is = ap (λ y. entries_value v y (drop (k + 1) es)) is ∙ sym (ap (entries_value v now) (drop_entry es k x lt)) ∙ before

pub fits_more : (v : ℕ → Ratio) (es : List Entry) (k : ℕ) (x : Entry) (now next : Ratio) (all : Bool) → k < length es → entries_value_fits v now (drop k es) ≡ all
    → next ≡ fused now (get_or es k x).coefficient (v (get_or es k x).variable) → fused_fits now (get_or es k x).coefficient (v (get_or es k x).variable) ≡ true
    → entries_value_fits v next (drop (k + 1) es) ≡ all
fits_more v es k x now next all lt before is fits =
    ap (λ y. entries_value_fits v y (drop (k + 1) es)) is
    ∙ sym (ap (entries_value_fits v now) (drop_entry es k x lt) ∙ ap (λ z. z && entries_value_fits v (fused now (get_or es k x).coefficient (v (get_or es k x).variable)) (drop (k + 1) es)) fits) ∙ before

pub fits_fails : (v : ℕ → Ratio) (es : List Entry) (k : ℕ) (x : Entry) (now : Ratio) (all : Bool) → k < length es → entries_value_fits v now (drop k es) ≡ all
    → fused_fits now (get_or es k x).coefficient (v (get_or es k x).variable) ≡ false → all ≡ false
fits_fails v es k x now all lt before fails =
    sym before ∙ ap (entries_value_fits v now) (drop_entry es k x lt) ∙ ap (λ z. z && entries_value_fits v (fused now (get_or es k x).coefficient (v (get_or es k x).variable)) (drop (k + 1) es)) fails

-- ---- rows of known variables

row_below : (v w : ℕ → Ratio) (n : ℕ) (es : List Entry) → Below n es → ((i : ℕ) → i < n → v i ≡ w i) → row_value v es ≡ row_value w es
row_below v w n [] b h = refl
row_below v w n (e ∷ es) b h = ap₂ (λ x y. unreduced_sum (unreduced_product e.coefficient x) y) (h e.variable b.0) (row_below v w n es b.1 h)

entries_below : (v w : ℕ → Ratio) (n : ℕ) (x : Ratio) (es : List Entry) → Below n es → ((i : ℕ) → i < n → v i ≡ w i) → entries_value v x es ≡ entries_value w x es
entries_below v w n x [] b h = refl
entries_below v w n x (e ∷ es) b h = ap (λ y. entries_value v (fused x e.coefficient y) es) (h e.variable b.0) ∙ entries_below v w n (fused x e.coefficient (w e.variable)) es b.1 h

value_number : (v : ℕ → Ratio) (x : Ratio) (es : List Entry) → ((i : ℕ) → 0 < (v i).denominator) → 0 < x.denominator → ArePositive es
    → number (entries_value v x es) ≡ rational_sum (number x) (dot (λ i. number (v i)) es)
value_number v x [] fv fx p = solve rationals (number x ∷ []) (var 0) (sum (var 0) nothing) refl
value_number v x (e ∷ es) fv fx p =
    value_number v (fused x e.coefficient (v e.variable)) es fv (fused_positive x e.coefficient (v e.variable) fx p.0 (fv e.variable)) p.1
    ∙ ap (λ y. rational_sum y (dot (λ i. number (v i)) es)) (number_fused x e.coefficient (v e.variable) fx p.0 (fv e.variable))
    ∙ solve rationals (number x ∷ number e.coefficient ∷ number (v e.variable) ∷ dot (λ i. number (v i)) es ∷ [])
    (sum (sum (var 0) (product (var 1) (var 2))) (var 3)) (sum (var 0) (sum (product (var 1) (var 2)) (var 3))) refl

-- ---- one more column

before_end : (cs : List Column) (c : Column) (i : ℕ) → i < length cs → column_in (cs ++ c ∷ []) i ≡ column_in cs i
before_end cs c i lt = get_or_append_left cs (c ∷ []) no_column i lt

at_end : (cs : List Column) (c : Column) → column_in (cs ++ c ∷ []) (length cs) ≡ c
at_end cs c = get_or_push cs c no_column (length cs) refl

grown_fractions : (cs : List Column) (c : Column) → ((i : ℕ) → IsFraction (values cs i)) → IsFraction c.value → (i : ℕ) → IsFraction (values (cs ++ c ∷ []) i)
grown_fractions cs c h fc i = by_order (cases_lt i (length cs))
  where
    by_order : (i < length cs) ⊎ (length cs ≤ i) → IsFraction (values (cs ++ c ∷ []) i)
    by_order (inl l) = subst (λ (x : Column). IsFraction x.value) (sym (before_end cs c i l)) (h i)
    by_order (inr le) = on (cases_lt (length cs) i)
      where
        on : (length cs < i) ⊎ (i ≤ length cs) → IsFraction (values (cs ++ c ∷ []) i)
        on (inl more_) = subst (λ (x : Column). IsFraction x.value) (sym (get_or_past (cs ++ c ∷ []) i no_column (omega (arith, more_, length-append cs (c ∷ []))))) zero_fraction
        on (inr most) = let e : length cs ≡ i = omega (arith, le, most) in subst (λ n. IsFraction (values (cs ++ c ∷ []) n)) e (subst (λ (x : Column). IsFraction x.value) (sym (at_end cs c)) fc)

old_rows : (t : Table) (cs : List Column) (c : Column) → IsTable t → IsSolution t cs → MeetsRows t.rows (values (cs ++ c ∷ []))
old_rows t cs c facts s k d lt = subst (λ r. MeetsRow (values (cs ++ c ∷ [])) r) (get_or_default t.rows k no_row d lt) met
  where
    same : (i : ℕ) → i < t.count → values cs i ≡ values (cs ++ c ∷ []) i
    same i li = ap (λ (x : Column). x.value) (sym (before_end cs c i (let e = s.count in omega (arith, li, e))))

    met : MeetsRow (values (cs ++ c ∷ [])) (row_at t.rows k)
    met =
        let r = row_at t.rows k in
        subst (λ x. SameNumber x (row_value (values (cs ++ c ∷ [])) r.entries)) (same r.basic (facts.basics k lt))
        (subst (SameNumber (values cs r.basic)) (row_below (values cs) (values (cs ++ c ∷ [])) t.count r.entries (below_all t.count r.entries (λ j le. facts.known j k le lt)) same) (s.meets k no_row lt))

pub grown_free : (t : Table) (cs : List Column) (c : Column) → IsTable t → IsSolution t cs → IsFraction c.value → IsSolution (record { count = t.count + 1; rows = t.rows }) (cs ++ c ∷ [])
grown_free t cs c facts s fc =
    record { count = let e = s.count in omega (arith, e, length-append cs (c ∷ [])); fractions = grown_fractions cs c s.fractions fc; meets = old_rows t cs c facts s }

pub grown_row : (t : Table) (cs : List Column) (c : Column) (es : List Entry) → IsTable t → IsSolution t cs → IsOpenRow t es → c.value ≡ entries_value (values cs) (whole (pos 0)) es → IsFraction c.value
    → IsSolution (with_row t (record { basic = t.count; entries = es })) (cs ++ c ∷ [])
grown_row t cs c es facts s open_row is fc =
    record {
      count = let e = s.count in omega (arith, e, length-append cs (c ∷ []));
      fractions = fractions;
      meets = λ k d lt. by_order k d lt (cases_lt k (length t.rows));
    }
  where
    r : TableRow
    r = record { basic = t.count; entries = es }

    fp : ArePositive es
    fp = nonzero_positive es open_row.nonzero

    w : ℕ → Ratio
    w = values (cs ++ c ∷ [])

    fractions : (i : ℕ) → IsFraction (w i)
    fractions = grown_fractions cs c s.fractions fc

    positive : (i : ℕ) → 0 < (w i).denominator
    positive i = (fractions i).positive

    same : (i : ℕ) → i < t.count → values cs i ≡ w i
    same i li = ap (λ (x : Column). x.value) (sym (before_end cs c i (let e = s.count in omega (arith, li, e))))

    here : w t.count ≡ entries_value w (whole (pos 0)) es
    here =
        ap w (sym s.count) ∙ ap (λ (x : Column). x.value) (at_end cs c) ∙ is
        ∙ entries_below (values cs) w t.count (whole (pos 0)) es (below_all t.count es open_row.known) same

    met : MeetsRow w r
    met =
        meets_from w r positive fp
        (ap number here ∙ value_number w (whole (pos 0)) es positive (omega arith) fp ∙ ap (λ x. rational_sum x (dot (λ i. number (w i)) es)) (sym rational_zero-is)
        ∙ solve rationals (dot (λ i. number (w i)) es ∷ []) (sum nothing (var 0)) (var 0) refl)

    by_order : (k : ℕ) (d : TableRow) → k < length (t.rows ++ r ∷ []) → (k < length t.rows) ⊎ (length t.rows ≤ k) → MeetsRow w (get_or (t.rows ++ r ∷ []) k d)
    by_order k d lt (inl l) = subst (MeetsRow w) (sym (get_or_append_left t.rows (r ∷ []) d k l)) (old_rows t cs c facts s k d l)
    by_order k d lt (inr le) = subst (MeetsRow w) (sym (get_or_push t.rows r d k (let e : length t.rows ≡ k = omega (arith, lt, le, length-append t.rows (r ∷ [])) in e))) met

-- ---- the state with one more column

pub core_grown : (t u : Table) (cs : List Column) (old now : Trail) (s : List Summand) (x : Ratio) → IsCore t cs old → IsSolution u (cs ++ new_column s x ∷ []) → IsMeant u.rows (cs ++ new_column s x ∷ []) → old.count + 1 ≤ now.count → now.bounds ≡ old.bounds
    → IsCore u (cs ++ new_column s x ∷ []) now
core_grown t u cs old now s x core solution meant count bounds =
    record {
      solution = solution;
      count = let e = core.count in omega (arith, e, count, length-append cs (new_column s x ∷ []));
      bounded = λ i lt. subst (λ bs. HasBounds bs i (column_in (cs ++ new_column s x ∷ []) i)) (sym bounds) (by_order i lt (cases_lt i (length cs)));
      known = subst (AreKnown (length (cs ++ new_column s x ∷ []))) (sym bounds) (λ k lk. let h = core.known k lk in let l = h.0 in (omega (arith, l, length-append cs (new_column s x ∷ [])), h.1));
      meant = meant;
    }
  where
    off : (i : ℕ) → length cs ≤ i → (k : ℕ) (d : Set) → k < length old.bounds → eqb (get_or old.bounds k d).variable i ≡ false
    off i le k d lk = by_test (eqb (get_or old.bounds k d).variable i) refl
      where
        by_test : (z : Bool) → eqb (get_or old.bounds k d).variable i ≡ z → z ≡ false
        by_test true e =
            absurd
            (let q : (get_or old.bounds k d).variable ≡ i = eqb-true (get_or old.bounds k d).variable i e in
            let l = (core.known k lk).0 in
            let f = ap (λ (y : Set). y.variable) (get_or_default old.bounds k no_set d lk) in
            omega (arith, q, l, f, le))
        by_test false e = refl

    by_order : (i : ℕ) → i < length (cs ++ new_column s x ∷ []) → (i < length cs) ⊎ (length cs ≤ i) → HasBounds old.bounds i (column_in (cs ++ new_column s x ∷ []) i)
    by_order i lt (inl l) = subst (HasBounds old.bounds i) (sym (before_end cs (new_column s x) i l)) (core.bounded i l)
    by_order i lt (inr le) =
        subst (HasBounds old.bounds i) (sym (get_or_push cs (new_column s x) no_column i (let e : length cs ≡ i = omega (arith, lt, le, length-append cs (new_column s x ∷ [])) in e)))
        (record { lower = ap number_of (sym (tightest_past old.bounds i Lower None (off i le))); upper = ap number_of (sym (tightest_past old.bounds i Upper None (off i le))) })

-- a trail with more variables serves as well
pub core_same : (t : Table) (cs : List Column) (old now : Trail) → IsCore t cs old → old.count ≤ now.count → now.bounds ≡ old.bounds → IsCore t cs now
core_same t cs old now core count bounds =
    record {
      solution = core.solution;
      count = let e = core.count in omega (arith, e, count);
      bounded = λ i lt. subst (λ bs. HasBounds bs i (column_in cs i)) (sym bounds) (core.bounded i lt);
      known = subst (AreKnown (length cs)) (sym bounds) core.known;
      meant = core.meant;
    }

pub open_known : (t : Table) (cs : List Column) (es : List Entry) → IsOpenRow t es → length cs ≡ t.count → KnownEntries (length cs) es
open_known t cs es h count k d lt = by_order (cases_lt (get_or es k d).variable (length cs))
  where
    by_order : ((get_or es k d).variable < length cs) ⊎ (length cs ≤ (get_or es k d).variable) → (get_or es k d).variable < length cs
    by_order (inl l) = l
    by_order (inr le) =
        absurd (h.known (get_or es k d).variable (let e = count in omega (arith, le, e)) k lt (ap (λ (e : Entry). e.variable) (get_or_default es k (record { variable = 0; coefficient = whole (pos 0) }) d lt)))

pub on_cases : {T E P Q R G : Type 0} (r : Result T E) → OnOk r P → OnOk r Q → OnErr r R → (P → Q → G) → (R → G) → G
on_cases (Ok x) p q w f g = f p q
on_cases (Err e) p q w f g = g w

pub core_none : IsCore (record { count = 0; rows = [] }) [] (record { count = 0; bounds = [] })
core_none =
    record {
      solution = record { count = refl; fractions = λ i. subst (λ (x : Column). IsFraction x.value) (sym (get_or_past [] i no_column (omega arith))) zero_fraction; meets = λ k d lt. absurd (omega (arith, lt)) };
      count = omega arith;
      bounded = λ i lt. absurd (omega (arith, lt));
      known = λ k lt. absurd (omega (arith, lt));
      meant = none_mean;
    }
