-- Values that meet the bounds told, and columns within their bounds.
use Rattle.std.proofs.Common.{◌≡◌, ℕ, ◌<◌, Bool, true, false, List, map, length, get_or, ℤ, Option, Some, None, sym, ap, subst, ◌∙◌, refl, arith}
use Rattle.std.specs.Prelude.{All, if◌then◌else◌}
use Rattle.std.proofs.lemmas.List.{get_or-map, length-map}
use Rattle.fraction128.specs.declared.ratio.Ratio.{Ratio}
use Rattle.fraction128.specs.Number.{whole, is_less, SameNumber}
use Rattle.fraction128.specs.Whole.{InRange}
use Rattle.fraction128.proofs.FieldLaws.{less_respects}
use Rattle.fraction128.specs.declared.Column.{Column}
use Rattle.fraction128.specs.declared.Side.{Side}
use Rattle.fraction128.specs.declared.Side.TheVariants.{Lower, Upper}
use Rattle.fraction128.specs.Grid.{is_below, is_above, missed, variable_of}
use Rattle.fraction128.specs.Lines.{sum_value}
use Rattle.simplex.specs.declared.trail.Set.{Set}
use Rattle.simplex.specs.declared.trail.Held.{Held}
use Rattle.simplex.specs.Trail.{tightest, number_of, set_at, no_set}
use Rattle.simplex_steps.specs.State.{column_in, values, IsSolution}
use Rattle.simplex_steps.specs.Run.{AreWithin}
use Rattle.simplex.specs.Sums.{HaveOwnSums, IsMeant}
use Rattle.fraction128.proofs.SumValues.{sum_positive_value}
use Rattle.simplex.specs.State.{HasBounds, AreKnown}
use Rattle.sum_bounds.specs.Bounds.{Told, State, told_of, MeetsSide, Meets, AllMet, sums, leaf_values}
use Rattle.sum_bounds.proofs.Tightest.{IsAmong, tightest_among, tightest_least, meets_looser}
use Rattle.sum_bounds.proofs.Leaves.{sum_values}

-- ---- one column

within_parts : (x : Ratio) (low high : Option ℤ) → (if is_below x low then low else if is_above x high then high else None) ≡ None → (is_below x low ≡ false) × (is_above x high ≡ false)
within_parts x (Some a) high h = by (is_less x (whole a)) refl
  where
    upper : (o : Option ℤ) → (if is_above x o then o else None) ≡ None → is_above x o ≡ false
    upper (Some b) h = by_test (is_less (whole b) x) refl
      where
        by_test : (z : Bool) → is_less (whole b) x ≡ z → z ≡ false
        by_test true e = absurd (let f : Some b ≡ None = rw e at h in cc)
        by_test false e = refl
    upper None h = refl

    by : (z : Bool) → is_less x (whole a) ≡ z → (is_less x (whole a) ≡ false) × (is_above x high ≡ false)
    by true e = absurd (let f : Some a ≡ None = rw e at h in cc)
    by false e = (e, upper high (rw e at h))
within_parts x None (Some b) h = (refl, by (is_less (whole b) x) refl)
  where
    by : (z : Bool) → is_less (whole b) x ≡ z → is_less (whole b) x ≡ false
    by true e = absurd (let f : Some b ≡ None = rw e at h in cc)
    by false e = e
within_parts x None None h = (refl, refl)

parts_within : (x : Ratio) (low high : Option ℤ) → is_below x low ≡ false → is_above x high ≡ false → (if is_below x low then low else if is_above x high then high else None) ≡ None
parts_within x low high e f =
    ap (λ (z : Bool). if z then low else if is_above x high then high else None) e ∙ ap (λ (z : Bool). if z then high else None) f

column_meets : (bs : List Set) (i : ℕ) (s : Side) (h : Held) (c : Column) → HasBounds bs i c → tightest bs i s ≡ Some h → missed c ≡ None → MeetsSide s h.number c.value
column_meets bs i Lower h c has is m =
    let low : c.lower ≡ Some h.number = has.lower ∙ ap number_of is in
    sym (ap (is_below c.value) low) ∙ (within_parts c.value c.lower c.upper m).0
column_meets bs i Upper h c has is m =
    let high : c.upper ≡ Some h.number = has.upper ∙ ap number_of is in
    sym (ap (is_above c.value) high) ∙ (within_parts c.value c.lower c.upper m).1

-- ---- all columns

abbrev pub HaveBounds : List Column → List Set → Type 0
HaveBounds cs bs = (i : ℕ) → i < length cs → HasBounds bs i (column_in cs i)

met_one : (cs : List Column) (bs : List Set) (k : ℕ) → HaveBounds cs bs → AreKnown (length cs) bs → AreWithin cs → k < length bs
    → MeetsSide (set_at bs k).side (set_at bs k).number (values cs (set_at bs k).variable)
met_one cs bs k has known within lt =
    let b = set_at bs k in
    let t = tightest_least bs k lt in
    let v = (known k lt).0 in
    meets_looser b.side (t.held).number b.number (values cs b.variable) t.tight (column_meets bs b.variable b.side t.held (column_in cs b.variable) (has b.variable v) t.is (within b.variable v))

pub met_from_within : (cs : List Column) (bs : List Set) → HaveBounds cs bs → AreKnown (length cs) bs → AreWithin cs → AllMet cs (map told_of bs)
met_from_within cs bs has known within k d lt =
    let short : k < length bs = omega (arith, lt, length-map bs told_of) in
    subst (λ (t : Told). MeetsSide t.side t.number (values cs t.variable)) (sym (get_or-map told_of bs k no_set d short)) (met_one cs bs k has known within short)

met_at : (cs : List Column) (bs : List Set) (k : ℕ) → AllMet cs (map told_of bs) → k < length bs → MeetsSide (set_at bs k).side (set_at bs k).number (values cs (set_at bs k).variable)
met_at cs bs k h lt =
    subst (λ (t : Told). MeetsSide t.side t.number (values cs t.variable)) (get_or-map told_of bs k no_set (told_of no_set) lt)
    (h k (told_of no_set) (omega (arith, lt, length-map bs told_of)))

among_met : (cs : List Column) (bs : List Set) (i : ℕ) (s : Side) (h : Held) → AllMet cs (map told_of bs) → IsAmong bs i s h → MeetsSide s h.number (values cs i)
among_met cs bs i s h met a =
    subst (λ n. MeetsSide s h.number (values cs n)) a.variable
    (subst (λ t. MeetsSide t h.number (values cs (set_at bs a.place).variable)) a.side
    (subst (λ k. MeetsSide (set_at bs a.place).side k (values cs (set_at bs a.place).variable)) a.number (met_at cs bs a.place met a.in_list)))

pub within_from_met : (cs : List Column) (bs : List Set) → HaveBounds cs bs → AllMet cs (map told_of bs) → AreWithin cs
within_from_met cs bs has met i lt =
    parts_within (values cs i) (column_in cs i).lower (column_in cs i).upper
    (ap (is_below (values cs i)) (has i lt).lower ∙ below (tightest bs i Lower) refl)
    (ap (is_above (values cs i)) (has i lt).upper ∙ above (tightest bs i Upper) refl)
  where
    below : (o : Option Held) → tightest bs i Lower ≡ o → is_below (values cs i) (number_of o) ≡ false
    below (Some h) e = among_met cs bs i Lower h met (tightest_among bs i Lower h e)
    below None e = refl

    above : (o : Option Held) → tightest bs i Upper ≡ o → is_above (values cs i) (number_of o) ≡ false
    above (Some h) e = among_met cs bs i Upper h met (tightest_among bs i Upper h e)
    above None e = refl

-- ---- sums at the values of the terms' variables

pub meets_same : (s : Side) (k : ℤ) (x y : Ratio) → 0 < x.denominator → 0 < y.denominator → SameNumber x y → MeetsSide s k x → MeetsSide s k y
meets_same Lower k x y fx fy e h = sym (less_respects x y (whole k) (whole k) fx fy (omega arith) (omega arith) e refl) ∙ h
meets_same Upper k x y fx fy e h = sym (less_respects (whole k) (whole k) x y (omega arith) (omega arith) fx fy refl e) ∙ h

pub sums_meet : (s : State) (bs : List Set) → s.told ≡ map told_of bs → IsSolution s.table s.columns → IsMeant s.table.rows s.columns → HaveOwnSums s.columns → AreKnown (length s.columns) bs
    → AllMet s.columns s.told → All (Meets (sums s) (leaf_values s)) s.told
sums_meet s bs told solution meant apart known met k d lt =
    let t = get_or s.told k d in
    let short : k < length bs = omega (arith, lt, ap length told, length-map bs told_of) in
    let is : t ≡ told_of (set_at bs k) = ap (λ ts. get_or ts k d) told ∙ get_or-map told_of bs k no_set d short in
    let in_columns : t.variable < length s.columns = subst (λ (u : Told). u.variable < length s.columns) (sym is) (known k short).0 in
    meets_same t.side t.number (values s.columns t.variable) (sum_value (leaf_values s) (sums s t.variable)) (solution.fractions t.variable).positive
    (sum_positive_value (leaf_values s) (sums s t.variable) (λ term. (solution.fractions (variable_of s.columns term)).positive))
    (sum_values s.table s.columns solution meant apart t.variable in_columns) (met k d lt)

-- bounds told are of variables, and their numbers lie in the range
pub known_told : (n : ℕ) (bs : List Set) → AreKnown n bs → All (λ (t : Told). (t.variable < n) × InRange t.number) (map told_of bs)
known_told n bs h k d lt =
    let short : k < length bs = omega (arith, lt, length-map bs told_of) in
    subst (λ (t : Told). (t.variable < n) × InRange t.number) (sym (get_or-map told_of bs k no_set d short)) (h k short)
