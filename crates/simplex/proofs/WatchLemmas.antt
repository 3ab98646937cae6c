-- What isn't a suspect stays within its bounds: as bounds are set and taken back, as variables are added, and as a check moves values.
use Rattle.std.proofs.Common.{◌≡◌, ℕ, ◌+◌, ◌<◌, ◌≤◌, ◌⊎◌, inl, inr, sym, ap, ◌∙◌, subst, refl, arith, List, [], ◌∷◌, ◌++◌, length, get_or-set_other, get_or-set_same, length-append, Contains, Bool, true, false, cond, Option, Some, None}
use Rattle.std.proofs.lemmas.List.{length-set, get_or_append_left, get_or_push}
use Rattle.std.proofs.lemmas.Bool.{cases_eq, cases_lt}
use Rattle.std.proofs.lemmas.Int.{ints}
use Rattle.std.specs.Prelude.{ℤ, pos, int_lt, ◌≤ℤ◌}
use Rattle.fraction128.specs.declared.ratio.Ratio.{Ratio}
use Rattle.fraction128.specs.Number.{whole, is_less}
use Rattle.fraction128.specs.declared.Summand.{Summand}
use Rattle.fraction128.specs.declared.Column.{Column}
use Rattle.fraction128.specs.declared.Side.TheVariants.{Lower, Upper}
use Rattle.fraction128.specs.Grid.{missed, is_below, is_above, is_crossed}
use Rattle.fraction128.proofs.RationalOrder.{mul_mono}
use Rattle.simplex.specs.declared.trail.Set.{Set}
use Rattle.simplex.specs.declared.trail.Held.{Held}
use Rattle.simplex.specs.Trail.{Trail, tightest, number_of, held_next, tighter, is_on, held_by}
use Rattle.simplex.proofs.TrailLemmas.{tightest_more}
use Rattle.simplex_steps.specs.State.{column_in, no_column, IsSolution}
use Rattle.simplex_steps.specs.Suspects.{Listing, IsCalm, Covers}
use Rattle.simplex_steps.proofs.SuspectLemmas.{covers_set}
use Rattle.tableau.specs.Table.{Table}
use Rattle.simplex.specs.Sums.{IsMeant}
use Rattle.simplex.specs.State.{IsWatched, HasBounds, refreshed, new_column}
use Rattle.simplex.proofs.GrowLemmas.{core_none, core_same, core_grown}

-- ---- looser bounds

above_lower : (x : Ratio) (h b : ℤ) → int_lt h b ≡ true → is_less x (whole b) ≡ false → is_less x (whole h) ≡ false
above_lower x h b lt above =
    let le : h ≤ℤ b = grind (arith, ints, lt) in
    let scaled = mul_mono h b x.denominator le in
    grind (arith, ints, above, scaled)

below_higher : (x : Ratio) (h b : ℤ) → int_lt b h ≡ true → is_less (whole b) x ≡ false → is_less (whole h) x ≡ false
below_higher x h b lt below =
    let le : b ≤ℤ h = grind (arith, ints, lt) in
    let scaled = mul_mono b h x.denominator le in
    grind (arith, ints, below, scaled)

-- the bound that stood before one was set is no tighter
lower_before : (x : Ratio) (o : Option Held) (b : Set) (z : Bool) → is_below x (number_of (cond z (tighter Lower o b) o)) ≡ false → is_below x (number_of o) ≡ false
lower_before x o b false e = e
lower_before x None b true e = refl
lower_before x (Some h) b true e = by_test (int_lt h.number b.number) refl e
  where
    by_test : (z : Bool) → int_lt h.number b.number ≡ z → is_below x (number_of (cond z (Some (held_by b)) (Some h))) ≡ false → is_less x (whole h.number) ≡ false
    by_test true w q = above_lower x h.number b.number w q
    by_test false w q = q

upper_before : (x : Ratio) (o : Option Held) (b : Set) (z : Bool) → is_above x (number_of (cond z (tighter Upper o b) o)) ≡ false → is_above x (number_of o) ≡ false
upper_before x o b false e = e
upper_before x None b true e = refl
upper_before x (Some h) b true e = by_test (int_lt b.number h.number) refl e
  where
    by_test : (z : Bool) → int_lt b.number h.number ≡ z → is_above x (number_of (cond z (Some (held_by b)) (Some h))) ≡ false → is_less (whole h.number) x ≡ false
    by_test true w q = below_higher x h.number b.number w q
    by_test false w q = q

-- whether two bounds cross
abbrev cross : Option ℤ → Option ℤ → Bool
cross l u = is_crossed (record { sum = []; lower = l; upper = u; value = whole (pos 0) })

still_apart : (h b u : ℤ) → int_lt h b ≡ true → int_lt u b ≡ false → int_lt u h ≡ false
still_apart h b u lt e = grind (arith, ints, lt, e)

apart_still : (h b l : ℤ) → int_lt b h ≡ true → int_lt b l ≡ false → int_lt h l ≡ false
apart_still h b l lt e = grind (arith, ints, lt, e)

lower_uncrossed : (u : Option ℤ) (o : Option Held) (b : Set) (z : Bool) → cross (number_of (cond z (tighter Lower o b) o)) u ≡ false → cross (number_of o) u ≡ false
lower_uncrossed u o b false e = e
lower_uncrossed u None b true e = refl
lower_uncrossed None (Some h) b true e = refl
lower_uncrossed (Some u) (Some h) b true e = by_test (int_lt h.number b.number) refl e
  where
    by_test : (z : Bool) → int_lt h.number b.number ≡ z → cross (number_of (cond z (Some (held_by b)) (Some h))) (Some u) ≡ false → int_lt u h.number ≡ false
    by_test true w q = still_apart h.number b.number u w q
    by_test false w q = q

upper_uncrossed : (l : Option ℤ) (o : Option Held) (b : Set) (z : Bool) → cross l (number_of (cond z (tighter Upper o b) o)) ≡ false → cross l (number_of o) ≡ false
upper_uncrossed l o b false e = e
upper_uncrossed None None b true e = refl
upper_uncrossed (Some l) None b true e = refl
upper_uncrossed None (Some h) b true e = refl
upper_uncrossed (Some l) (Some h) b true e = by_test (int_lt b.number h.number) refl e
  where
    by_test : (z : Bool) → int_lt b.number h.number ≡ z → cross (Some l) (number_of (cond z (Some (held_by b)) (Some h))) ≡ false → int_lt h.number l ≡ false
    by_test true w q = apart_still h.number b.number l w q
    by_test false w q = q

-- ---- columns within their bounds

not_below : (x : Ratio) (l u : Option ℤ) (s : List Summand) → missed (record { sum = s; lower = l; upper = u; value = x }) ≡ None → is_below x l ≡ false
not_below x None u s e = refl
not_below x (Some k) u s e = by_test (is_less x (whole k)) e
  where
    by_test : (z : Bool) → cond z (Some k) (cond (is_above x u) u None) ≡ None → z ≡ false
    by_test true q = absurd (cc)
    by_test false q = refl

not_above : (x : Ratio) (l u : Option ℤ) (s : List Summand) → missed (record { sum = s; lower = l; upper = u; value = x }) ≡ None → is_above x u ≡ false
not_above x l None s e = refl
not_above x l (Some k) s e =
    by_test (is_less (whole k) x) (ap (λ z. cond z l (cond (is_less (whole k) x) (Some k) None)) (sym (not_below x l (Some k) s e)) ∙ e)
  where
    by_test : (z : Bool) → cond z (Some k) None ≡ None → z ≡ false
    by_test true q = absurd (cc)
    by_test false q = refl

within : (x : Ratio) (l u : Option ℤ) (s : List Summand) → is_below x l ≡ false → is_above x u ≡ false → missed (record { sum = s; lower = l; upper = u; value = x }) ≡ None
within x l u s e f = ap (λ z. cond z l (cond (is_above x u) u None)) e ∙ ap (λ z. cond z u None) f

-- a calm column stays so where the newest bound is taken back
pub calm_before : (bs : List Set) (b : Set) (i : ℕ) (c : Column) → HasBounds (bs ++ b ∷ []) i c → IsCalm c
    → IsCalm (record { sum = c.sum; lower = number_of (tightest bs i Lower); upper = number_of (tightest bs i Upper); value = c.value })
calm_before bs b i c has calm =
    record {
      within = within c.value (number_of low) (number_of high) c.sum (lower_before c.value low b (is_on b i Lower) (subst (λ l. is_below c.value l ≡ false) lower (not_below c.value c.lower c.upper c.sum calm.within)))
          (upper_before c.value high b (is_on b i Upper) (subst (λ u. is_above c.value u ≡ false) upper (not_above c.value c.lower c.upper c.sum calm.within)));
      uncrossed = upper_uncrossed (number_of low) high b (is_on b i Upper)
          (lower_uncrossed (number_of (held_next high b i Upper)) low b (is_on b i Lower)
          (subst (λ l. cross l (number_of (held_next high b i Upper)) ≡ false) lower (subst (λ u. cross c.lower u ≡ false) upper calm.uncrossed)));
    }
  where
    low : Option Held
    low = tightest bs i Lower

    high : Option Held
    high = tightest bs i Upper

    lower : c.lower ≡ number_of (held_next low b i Lower)
    lower = has.lower ∙ ap number_of (tightest_more bs b i Lower)

    upper : c.upper ≡ number_of (held_next high b i Upper)
    upper = has.upper ∙ ap number_of (tightest_more bs b i Upper)

-- ---- what covers columns

pub covers_undone : (s : Listing) (cs : List Column) (bs : List Set) (b : Set) → Covers s cs → b.variable < length cs → HasBounds (bs ++ b ∷ []) b.variable (column_in cs b.variable)
    → Covers s (refreshed bs cs b.variable)
covers_undone s cs bs b h lt has =
    record {
      room = subst (λ n. n ≤ s.count) (sym long) h.room;
      known = λ j q. subst (λ n. j < n) (sym long) (h.known j q);
      others = λ j l. by_case j (h.others j (subst (λ n. j < n) long l)) (cases_eq j b.variable);
    }
  where
    new : Column
    new = record { sum = (column_in cs b.variable).sum; lower = number_of (tightest bs b.variable Lower); upper = number_of (tightest bs b.variable Upper); value = (column_in cs b.variable).value }

    long : length (refreshed bs cs b.variable) ≡ length cs
    long = length-set cs b.variable new

    by_case : (j : ℕ) → Contains s.variables j ⊎ IsCalm (column_in cs j) → (j ≡ b.variable) ⊎ (j ≡ b.variable → ⊥) → Contains s.variables j ⊎ IsCalm (column_in (refreshed bs cs b.variable) j)
    by_case j (inl q) w = inl q
    by_case j (inr calm) (inl e) =
        inr
        (subst (λ n. IsCalm (column_in (refreshed bs cs b.variable) n)) (sym e)
        (subst IsCalm (sym (get_or-set_same cs b.variable new no_column lt)) (calm_before bs b b.variable (column_in cs b.variable) has (subst (λ n. IsCalm (column_in cs n)) e calm))))
    by_case j (inr calm) (inr ne) = inr (subst IsCalm (sym (get_or-set_other cs b.variable j new no_column ne)) calm)

pub covers_grown : (s r : Listing) (cs : List Column) (sum : List Summand) (x : Ratio) → Covers s cs → r.variables ≡ s.variables → s.count + 1 ≤ r.count → Covers r (cs ++ new_column sum x ∷ [])
covers_grown s r cs sum x h same count =
    record {
      room = let l = h.room in omega (arith, l, count, length-append cs (new_column sum x ∷ []));
      known = λ j q. let l = h.known j (subst (λ is. Contains is j) same q) in omega (arith, l, length-append cs (new_column sum x ∷ []));
      others = λ j l. by_order j l (cases_lt j (length cs));
    }
  where
    by_case : (j : ℕ) → j < length cs → Contains s.variables j ⊎ IsCalm (column_in cs j) → Contains r.variables j ⊎ IsCalm (column_in (cs ++ new_column sum x ∷ []) j)
    by_case j l (inl q) = inl (subst (λ is. Contains is j) (sym same) q)
    by_case j l (inr calm) = inr (subst IsCalm (sym (get_or_append_left cs (new_column sum x ∷ []) no_column j l)) calm)

    by_order : (j : ℕ) → j < length (cs ++ new_column sum x ∷ []) → (j < length cs) ⊎ (length cs ≤ j) → Contains r.variables j ⊎ IsCalm (column_in (cs ++ new_column sum x ∷ []) j)
    by_order j l (inl lt) = by_case j lt (h.others j lt)
    by_order j l (inr le) =
        inr
        (subst IsCalm (sym (get_or_push cs (new_column sum x) no_column j (let e : length cs ≡ j = omega (arith, l, le, length-append cs (new_column sum x ∷ [])) in e)))
        (record { within = refl; uncrossed = refl }))

pub covers_room : (s r : Listing) (cs : List Column) → Covers s cs → r.variables ≡ s.variables → s.count ≤ r.count → Covers r cs
covers_room s r cs h same count =
    record {
      room = let l = h.room in omega (arith, l, count);
      known = λ j q. h.known j (subst (λ is. Contains is j) same q);
      others = λ j l. by_case j (h.others j l);
    }
  where
    by_case : (j : ℕ) → Contains s.variables j ⊎ IsCalm (column_in cs j) → Contains r.variables j ⊎ IsCalm (column_in cs j)
    by_case j (inl q) = inl (subst (λ is. Contains is j) (sym same) q)
    by_case j (inr calm) = inr calm

-- a suspect may get any bounds
pub covers_set_bound : (s : Listing) (cs : List Column) (bs : List Set) (i : ℕ) → Covers s cs → Contains s.variables i → Covers s (refreshed bs cs i)
covers_set_bound s cs bs i h listed =
    covers_set s cs i (record { sum = (column_in cs i).sum; lower = number_of (tightest bs i Lower); upper = number_of (tightest bs i Upper); value = (column_in cs i).value }) h listed

pub watched_none : IsWatched (record { count = 0; rows = [] }) [] (record { count = 0; bounds = [] }) (record { count = 0; variables = [] })
watched_none =
    record {
      core = core_none;
      covers = record { room = omega arith; known = λ i c. let l = c.1 in absurd (omega (arith, l)); others = λ i l. absurd (omega (arith, l)) };
    }

-- ---- one more variable

-- room for one more changes nothing
pub watched_room : (t : Table) (cs : List Column) (old now : Trail) (s r : Listing) → IsWatched t cs old s → old.count ≤ now.count → now.bounds ≡ old.bounds → s.count ≤ r.count → r.variables ≡ s.variables
    → IsWatched t cs now r
watched_room t cs old now s r h count bounds room same =
    record { core = core_same t cs old now h.core count bounds; covers = covers_room s r cs h.covers same room }

-- where the trail refused one more, and where the columns did
pub watched_refused : (t : Table) (cs : List Column) (old now : Trail) (s r : Listing) → IsWatched t cs old s → now ≡ old → r ≡ record { count = s.count + 1; variables = s.variables } → IsWatched t cs now r
watched_refused t cs old now s r h is same =
    let count = ap (λ (o : Trail). o.count) is in
    let room = ap (λ (l : Listing). l.count) same in
    watched_room t cs old now s r h (omega (arith, count)) (ap (λ (o : Trail). o.bounds) is) (omega (arith, room)) (ap (λ (l : Listing). l.variables) same)

pub watched_roomy : (t : Table) (cs : List Column) (old now : Trail) (s r : Listing) → IsWatched t cs old s → now ≡ record { count = old.count + 1; bounds = old.bounds } → r ≡ record { count = s.count + 1; variables = s.variables } → IsWatched t cs now r
watched_roomy t cs old now s r h is same =
    let count = ap (λ (o : Trail). o.count) is in
    let room = ap (λ (l : Listing). l.count) same in
    watched_room t cs old now s r h (omega (arith, count)) (ap (λ (o : Trail). o.bounds) is) (omega (arith, room)) (ap (λ (l : Listing). l.variables) same)

pub watched_grown : (t u : Table) (cs : List Column) (old now : Trail) (s r : Listing) (sum : List Summand) (x : Ratio) → IsWatched t cs old s → IsSolution u (cs ++ new_column sum x ∷ []) → IsMeant u.rows (cs ++ new_column sum x ∷ []) → now ≡ record { count = old.count + 1; bounds = old.bounds } → r ≡ record { count = s.count + 1; variables = s.variables }
    → IsWatched u (cs ++ new_column sum x ∷ []) now r
watched_grown t u cs old now s r sum x h solution meant is same =
    let count = ap (λ (o : Trail). o.count) is in
    let room = ap (λ (l : Listing). l.count) same in
    record {
      core = core_grown t u cs old now sum x h.core solution meant (omega (arith, count)) (ap (λ (o : Trail). o.bounds) is);
      covers = covers_grown s r cs sum x h.covers (ap (λ (l : Listing). l.variables) same) (omega (arith, room));
    }
