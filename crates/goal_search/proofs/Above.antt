-- Numbers by how far they are above the least one, and the points of a search.
use Rattle.std.proofs.Common.{◌≡◌, ◌∙◌, ◌⊎◌, inl, inr, refl, ap, sym, subst, ℕ, zero, suc, ◌+◌, ◌-◌, ◌*◌, ◌^◌, ◌/◌, ◌<◌, ◌≤◌, true, false, List, [], ◌∷◌, arith, ℤ, pos, negsuc, ◌+ℤ◌, ◌-ℤ◌, neg_ℤ, Some, None, Result, Ok, Err}
use Rattle.std.specs.Prelude.{◌≤ℤ◌, ◌<ℤ◌, unsigned_abs, IsTrue, IfOk}
use Rattle.std.specs.Int.{saturate_signed, w128, cast_signed, cast_unsigned}
use Rattle.std.proofs.Math.Nat.{pow-suc}
use Rattle.std.proofs.lemmas.Int.{ints, to_z-of_z, fits_signed_from_abs}
use Rattle.std.proofs.lemmas.Bool.Decides.{nat_tests}
use Rattle.smt_meaning.specs.declared.tokens.Token.{Token}
use Rattle.smt_meaning.specs.declared.values.Table.{Table}
use Rattle.smt_meaning.specs.declared.reports.Report.{Report}
use Rattle.smt_meaning.specs.declared.values.Value.TheVariants.{Whole}
use Rattle.smt_meaning.specs.Goal.{is_itself, is_at_most, least_number}
use Rattle.smt_meaning.specs.Interpretation.{Interprets}
use Rattle.smt_meaning.specs.Least.{IsMinimum, IsUnfound, asking, value_in}
use Rattle.smt_meaning.specs.Model.{IsModel}
use Rattle.smt_meaning.specs.Stack.{Frame, HasNoModel, Holds, signature_of}
use Rattle.smt_meaning.specs.Term.{Tree, Interpretation, value, number_of, fits, in_range}
use Rattle.model_eval.specs.declared.EvalError.{EvalError}
use Rattle.model_eval.specs.declared.EvalError.TheVariants.{Range}
use Rattle.model_eval.specs.Unfit.{IsCause}
use Rattle.goal_search.specs.declared.text.Ask.{Ask}
use Rattle.goal_search.specs.declared.text.Ask.TheVariants.{AtMost, BelowLeast}
use Rattle.goal_search.specs.declared.minimum.LeastValue.TheVariants.{Minimum, Unknown}
use Rattle.goal_search.specs.declared.point.Point.{Point}
use Rattle.goal_search.specs.declared.point.Step.{Step}
use Rattle.goal_search.specs.declared.point.Step.TheVariants.{Lower, Nothing, Unknown as Unfound}
use Rattle.goal_search.specs.Asks.{IsInRange, asked}
use Rattle.goal_search.specs.Goals.{IsLeast}
use Rattle.goal_search.specs.Points.{IsAsAsked, IsFloor, IsLowered, IsPoint, IsStep, most_above, number_at, number_at_is}
use Rattle.goal_search.proofs.Asking.{as_asked, floor_from, least_from, model_for, value_fits}

-- ---- numbers

at_less : (m n : ℕ) → m < n → number_at m <ℤ number_at n
at_less m n h = omega (arith, ints, number_at_is m, number_at_is n)

at_within : (m n : ℕ) → number_at m ≤ℤ number_at n → m ≤ n
at_within m n h = omega (arith, ints, number_at_is m, number_at_is n)

at_next : (m n : ℕ) (k : ℤ) → n ≤ m + 1 → number_at m <ℤ k → number_at n ≤ℤ k
at_next m n k h l = omega (arith, ints, number_at_is m, number_at_is n)

at_zero : (n : ℕ) → n ≡ 0 → number_at n ≡ least_number
at_zero n e = omega (arith, ints, number_at_is n)

not_below : (n : ℕ) → number_at n <ℤ least_number → ⊥
not_below n h = omega (arith, ints, number_at_is n)

pub at_in_range : (n : ℕ) (k : ℤ) → n ≤ most_above → k ≡ number_at n → IsInRange (AtMost k)
at_in_range n k h e = (omega (arith, ints, number_at_is n), omega (arith, ints, number_at_is n))

saturated : (z : ℤ) → unsigned_abs z < 2 ^ 127 → saturate_signed w128 z ≡ z
saturated (pos n) h = ap pos (omega arith)
saturated (negsuc n) h = ap negsuc (omega arith)

small : (a b : ℤ) → b ≡ a → neg_ℤ (pos (2 ^ 127 - 1)) ≤ℤ a → a ≤ℤ pos (2 ^ 127 - 1) → unsigned_abs b < 2 ^ 127
small a b e l u = omega (arith, ints)

at_small : (n : ℕ) (r : ℤ) → n ≤ most_above → r ≡ number_at n → unsigned_abs r < 2 ^ 127
at_small n r h e = small (number_at n) r e (omega (arith, ints, number_at_is n)) (omega (arith, ints, number_at_is n))

-- such a number comes back from its bits
pub carried : (n : ℕ) (r : ℤ) → n ≤ most_above → r ≡ number_at n → cast_signed w128 (cast_unsigned w128 r) ≡ number_at n
carried n r h e = to_z-of_z w128 r (fits_signed_from_abs w128 r (at_small n r h e)) ∙ e

pub at_from : (n : ℕ) (k r : ℤ) → n ≤ most_above → k ≡ least_number → r ≡ saturate_signed w128 (k +ℤ pos n) → cast_signed w128 (cast_unsigned w128 r) ≡ number_at n
at_from n k r h e s =
    let sum : k +ℤ pos n ≡ number_at n = ap (λ z. z +ℤ pos n) e ∙ sym (number_at_is n) in
    carried n r h (s ∙ saturated (k +ℤ pos n) (at_small n (k +ℤ pos n) h sum) ∙ sum)

in_range_told : (v : ℤ) → in_range (Whole v) ≡ true → unsigned_abs v < 2 ^ 127
in_range_told v h = grind (arith, nat_tests)

above_fits : (v k : ℤ) (n : ℕ) → k ≡ least_number → unsigned_abs v < 2 ^ 127 → n ≡ unsigned_abs (v -ℤ k) → (v ≡ least_number +ℤ pos n) × (n ≤ most_above)
above_fits v k n e h d = (omega (arith, ints), omega (arith, ints))

-- where the value of a term that fits is
pub value_above : (I : Interpretation) (t : Tree) (k r : ℤ) (n : ℕ) → IsTrue (fits I t) → k ≡ least_number → r ≡ number_of (value I t) → n ≡ unsigned_abs (cast_signed w128 (cast_unsigned w128 r) -ℤ k)
    → (number_of (value I t) ≡ number_at n) × (n ≤ most_above)
value_above I t k r n f e s d =
    let fitting : unsigned_abs r < 2 ^ 127 = subst (λ z. unsigned_abs z < 2 ^ 127) (sym s) (in_range_told (number_of (value I t)) (value_fits I t f)) in
    let there : n ≡ unsigned_abs (r -ℤ k) = d ∙ ap (λ z. unsigned_abs (z -ℤ k)) (to_z-of_z w128 r (fits_signed_from_abs w128 r fitting)) in
    let h : (r ≡ least_number +ℤ pos n) × (n ≤ most_above) = above_fits r k n e fitting there in
    (sym s ∙ h.0 ∙ sym (number_at_is n), h.1)

pub no_range : (I : Interpretation) (ts : List Tree) (t : Tree) (e : EvalError) (k : ℕ) → e ≡ Range k → IsCause I ts t e → IsTrue (fits I t) → ⊥
no_range I ts t e k is cause f = clash (subst (IsCause I ts t) is cause).0 f
  where
    clash : fits I t ≡ false → fits I t ≡ true → ⊥
    clash a b = cc

-- ---- steps

pub point_from : (frames : List Frame) (text : List Token) (t : Tree) (ask : Ask) (i : List Table) (n : ℕ) → IsModel (asking frames (asked text t ask)) i → value_in i t ≡ number_at n → n ≤ most_above
    → IsPoint frames text t (record { model = i; above = n }) × IsAsAsked ask (number_at n)
point_from frames text t ask i n h e le =
    (record { model = model_for frames text t ask i h; value_is = e; within = le }, subst (IsAsAsked ask) e (as_asked frames text t ask i h))

lowered_step : (workers : ℕ) (ts : List Tree) (frames : List Frame) (limit : ℤ) (text : List Token) (t : Tree) (bound : ℕ) (s : Step) → IsStep workers ts frames limit text t (AtMost (number_at bound)) s → IsLowered workers ts frames limit text t bound s
lowered_step workers ts frames limit text t bound (Lower p) h = (h.0, at_within p.above bound h.1)
lowered_step workers ts frames limit text t bound Nothing h = floor_from frames text t (number_at bound) h
lowered_step workers ts frames limit text t bound (Unfound rs) h = h

pub lowered : {E : Type 0} (workers : ℕ) (ts : List Tree) (frames : List Frame) (limit : ℤ) (text : List Token) (t : Tree) (bound : ℕ) (k : ℤ) (r : Result Step E) → k ≡ number_at bound
    → IfOk r (IsStep workers ts frames limit text t (AtMost k)) → IfOk r (IsLowered workers ts frames limit text t bound)
lowered workers ts frames limit text t bound k (Ok s) e h = lowered_step workers ts frames limit text t bound s (subst (λ b. IsStep workers ts frames limit text t (AtMost b) s) e h)
lowered workers ts frames limit text t bound k (Err x) e h = tt

-- ---- what is found

is_minimum : (frames : List Frame) (text : List Token) (t : Tree) (p : Point) → IsPoint frames text t p
    → ((J : Interpretation) → Interprets (signature_of frames) J → Holds J frames → number_at p.above ≤ℤ number_of (value J t)) → IsMinimum frames text t (number_at p.above) p.model
is_minimum frames text t p h least = record { model = h.model; value_is = h.value_is; least = least }

-- nothing is between the floor and the value
pub minimum_above : (workers : ℕ) (ts : List Tree) (frames : List Frame) (limit : ℤ) (text : List Token) (t : Tree) (p : Point) (floor : ℕ) → IsPoint frames text t p → IsFloor frames t (number_at floor) → p.above ≤ floor + 1
    → IsLeast workers ts frames limit text t (Minimum (number_at p.above) p.model)
minimum_above workers ts frames limit text t p floor h none near = is_minimum frames text t p h (λ J interprets holds. at_next floor p.above (number_of (value J t)) near (none J interprets holds))

pub minimum_at_bottom : (workers : ℕ) (ts : List Tree) (frames : List Frame) (limit : ℤ) (text : List Token) (t : Tree) (p : Point) → IsPoint frames text t p → p.above ≡ 0 → HasNoModel (asking frames (asked text t BelowLeast))
    → IsLeast workers ts frames limit text t (Minimum (number_at p.above) p.model)
minimum_at_bottom workers ts frames limit text t p h e none =
    is_minimum frames text t p h (λ J interprets holds. subst (λ k. k ≤ℤ number_of (value J t)) (sym (at_zero p.above e)) (least_from frames text t none J interprets holds))

pub best_below : (workers : ℕ) (ts : List Tree) (frames : List Frame) (limit : ℤ) (text : List Token) (t : Tree) (p : Point) (bound : ℕ) (rs : List Report) → IsPoint frames text t p → bound < p.above
    → IsUnfound workers ts frames limit (is_itself text t ∷ is_at_most text t (number_at bound) ∷ []) rs
    → IsLeast workers ts frames limit text t (Unknown (record { model = Some p.model; bound = Some (number_at bound); reports = rs }))
best_below workers ts frames limit text t p bound rs h below unfound = (h.model, subst (λ k. number_at bound <ℤ k) (sym h.value_is) (at_less bound p.above below), unfound)

pub best_at_bottom : (workers : ℕ) (ts : List Tree) (frames : List Frame) (limit : ℤ) (text : List Token) (t : Tree) (p : Point) (rs : List Report) → IsPoint frames text t p → p.above ≡ 0
    → IsUnfound workers ts frames limit (asked text t BelowLeast) rs → IsLeast workers ts frames limit text t (Unknown (record { model = Some p.model; bound = None; reports = rs }))
best_at_bottom workers ts frames limit text t p rs h e unfound = (h.model, h.value_is ∙ at_zero p.above e, unfound)

pub never_lower : (frames : List Frame) (text : List Token) (t : Tree) (p : Point) → IsPoint frames text t p × IsAsAsked BelowLeast (number_at p.above) → ⊥
never_lower frames text t p h = not_below p.above h.1

-- ---- halves and doubles

half_left : (turn floor above : ℕ) → turn < 128 → above ≤ floor + 2 ^ (128 - turn) → above - floor ≤ 2 * 2 ^ (128 - (turn + 1))
half_left turn floor above lt h =
    let e : 128 - turn ≡ suc (128 - (turn + 1)) = omega arith in
    let p : 2 ^ (128 - turn) ≡ 2 ^ (128 - (turn + 1)) * 2 = ap (λ k. 2 ^ k) e ∙ pow-suc 2 (128 - (turn + 1)) in
    omega (arith, p)

-- a value in the lower half, or a floor in the middle
pub lower_half : (turn floor above gap new : ℕ) → turn < 128 → above ≤ floor + 2 ^ (128 - turn) → gap ≡ above - floor → new ≤ floor + gap / 2 → new ≤ floor + 2 ^ (128 - (turn + 1))
lower_half turn floor above gap new lt h e n = let k : above - floor ≤ 2 * 2 ^ (128 - (turn + 1)) = half_left turn floor above lt h in omega arith

pub upper_half : (turn floor above gap : ℕ) → turn < 128 → above ≤ floor + 2 ^ (128 - turn) → gap ≡ above - floor → above ≤ (floor + gap / 2) + 2 ^ (128 - (turn + 1))
upper_half turn floor above gap lt h e = let k : above - floor ≤ 2 * 2 ^ (128 - (turn + 1)) = half_left turn floor above lt h in omega arith

pub halved_out : (turn floor above : ℕ) → above ≤ floor + 2 ^ (128 - turn) → 128 ≤ turn → above ≤ floor + 1
halved_out turn floor above h l =
    let e : 2 ^ (128 - turn) ≡ 2 ^ 0 = ap (λ k. 2 ^ k) (none turn l) in
    omega (arith, e)
  where
    none : (k : ℕ) → 128 ≤ k → 128 - k ≡ 0
    none k l = omega arith

-- as far below the last value as the steps went, or at the bottom
abbrev pub IsNear : ℕ → ℕ → Type 0
IsNear above turn = (above ≡ 0) ⊎ (above + 2 ^ turn ≤ most_above + 1)

pub near_first : (above : ℕ) → above ≤ most_above → IsNear above 0
near_first above h = inr (omega arith)

pub near_lower : (turn above new : ℕ) → IsNear above turn → 0 < above → new ≤ above - 2 ^ turn → IsNear new (turn + 1)
near_lower turn above new (inl e) b h = absurd (omega arith)
near_lower turn above new (inr n) b h = cases (above - 2 ^ turn) refl
  where
    twice : 2 ^ (turn + 1) ≡ 2 ^ turn * 2
    twice = ap (λ k. 2 ^ k) (one turn) ∙ pow-suc 2 turn
      where
        one : (k : ℕ) → k + 1 ≡ suc k
        one k = omega arith

    cases : (d : ℕ) → d ≡ above - 2 ^ turn → IsNear new (turn + 1)
    cases zero e = inl (omega arith)
    cases (suc d) e = inr (omega (arith, twice))

pub near_last : (above turn : ℕ) → IsNear above turn → above ≤ most_above → 128 ≤ turn → turn ≤ 128 → above ≡ 0
near_last above turn (inl e) h l u = e
near_last above turn (inr n) h l u =
    let e : 2 ^ turn ≡ 2 ^ 128 = ap (λ k. 2 ^ k) (same turn l u) in
    omega (arith, e)
  where
    same : (k : ℕ) → 128 ≤ k → k ≤ 128 → k ≡ 128
    same k l u = omega arith

-- ---- one turn of the halving

pub record IsNarrow (frames : List Frame) (text : List Token) (t : Tree) (turn : ℕ) (p : Point) (floor : ℕ) : Type 0 where
  pub point : IsPoint frames text t p
  pub floor_none : IsFloor frames t (number_at floor)
  pub near : p.above ≤ floor + 2 ^ (128 - turn)

pub narrowed_by_value : (workers : ℕ) (ts : List Tree) (frames : List Frame) (limit : ℤ) (text : List Token) (t : Tree) (turn floor : ℕ) (p : Point) (gap : ℕ) (next new : Point) (new_floor : ℕ)
    → IsFloor frames t (number_at floor) → p.above ≤ floor + 2 ^ (128 - turn) → turn < 128 → gap ≡ p.above - floor → new ≡ next → new_floor ≡ floor
    → IsLowered workers ts frames limit text t (floor + gap / 2) (Lower next) → IsNarrow frames text t (turn + 1) new new_floor
narrowed_by_value workers ts frames limit text t turn floor p gap next new new_floor none near lt e a b h = record {
  point = subst (IsPoint frames text t) (sym a) h.0;
  floor_none = subst (λ f. IsFloor frames t (number_at f)) (sym b) none;
  near = subst (λ (q : Point). q.above ≤ new_floor + 2 ^ (128 - (turn + 1))) (sym a) (subst (λ f. next.above ≤ f + 2 ^ (128 - (turn + 1))) (sym b) (lower_half turn floor p.above gap next.above lt near e h.1));
}

pub narrowed_by_floor : (workers : ℕ) (ts : List Tree) (frames : List Frame) (limit : ℤ) (text : List Token) (t : Tree) (turn floor : ℕ) (p : Point) (gap : ℕ) (new : Point) (new_floor : ℕ)
    → IsPoint frames text t p → p.above ≤ floor + 2 ^ (128 - turn) → turn < 128 → gap ≡ p.above - floor → new ≡ p → new_floor ≡ floor + gap / 2
    → IsLowered workers ts frames limit text t (floor + gap / 2) Nothing → IsNarrow frames text t (turn + 1) new new_floor
narrowed_by_floor workers ts frames limit text t turn floor p gap new new_floor point near lt e a b h = record {
  point = subst (IsPoint frames text t) (sym a) point;
  floor_none = subst (λ f. IsFloor frames t (number_at f)) (sym b) h;
  near = subst (λ (q : Point). q.above ≤ new_floor + 2 ^ (128 - (turn + 1))) (sym a) (subst (λ f. p.above ≤ f + 2 ^ (128 - (turn + 1))) (sym b) (upper_half turn floor p.above gap lt near e));
}
