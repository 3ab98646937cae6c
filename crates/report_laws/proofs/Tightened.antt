-- How often bounds can be tightened, where their numbers are among these.
use Rattle.std.proofs.Common.{◌≡◌, ℕ, ℤ, suc, ◌+◌, ◌*◌, ◌<◌, ◌≤◌, ◌≤ℤ◌, ◌<ℤ◌, inl, inr, sym, ap, ap₂, ◌∙◌, subst, refl, arith, List, [], ◌∷◌, map, length, Bool, true, false, cond, Contains, Option, Some, None}
use Rattle.std.specs.Prelude.{int_le}
use Rattle.std.proofs.lemmas.Int.{ints}
use Rattle.std.proofs.Math.Nat.{suc-mul}
use Rattle.fraction128.specs.declared.Column.{Column}
use Rattle.fraction128.specs.declared.Side.{Side}
use Rattle.fraction128.specs.declared.Side.TheVariants.{Lower, Upper}
use Rattle.fraction128.specs.Chain.{StaysOrRises, StaysOrFalls}
use Rattle.simplex_steps.proofs.NextStep.{col}
use Rattle.report_laws.specs.UnderBounds.{Bounds, column_bounds}
use Rattle.report_laws.proofs.Listed.{in_cons, in_none}

true_le : (a b : ℤ) → int_le a b ≡ true → a ≤ℤ b
true_le a b h = grind (arith, ints)

false_le : (a b : ℤ) → int_le a b ≡ false → b <ℤ a
false_le a b h = grind (arith, ints)

le_true : (a b : ℤ) → a ≤ℤ b → int_le a b ≡ true
le_true a b h = grind (arith, ints)

le_trans : (a b c : ℤ) → a ≤ℤ b → b ≤ℤ c → a ≤ℤ c
le_trans a b c h k = grind (arith, ints)

lt_le : (a b : ℤ) → a <ℤ b → a ≤ℤ b
lt_le a b h = grind (arith, ints)

le_same : (a b : ℤ) → a ≤ℤ b → b ≤ℤ a → a ≡ b
le_same a b h k = grind (arith, ints)

one_if : Bool → ℕ
one_if b = cond b 1 0

one_at_most : (b : Bool) → one_if b ≤ 1
unfolding one_if
one_at_most true = omega arith
one_at_most false = omega arith

one_up : (a b : Bool) → (a ≡ true → b ≡ true) → one_if a ≤ one_if b
unfolding one_if
one_up false b h = omega arith
one_up true true h = omega arith
one_up true false h = let e : false ≡ true = h refl in absurd (cc)

one_is : (b : Bool) → b ≡ true → one_if b ≡ 1
unfolding one_if
one_is b e = ap (λ z. cond z 1 0) e

none_is : (b : Bool) → b ≡ false → one_if b ≡ 0
unfolding one_if
none_is b e = ap (λ z. cond z 1 0) e

-- ---- bounds of one side

-- a bound of this side is no tighter than another
no_tighter : Side → ℤ → ℤ → Bool
no_tighter Lower j k = int_le j k
no_tighter Upper j k = int_le k j

-- a bound of this side stays, or is tightened
abbrev StaysOrTightens : Side → Option ℤ → Option ℤ → Type 0
StaysOrTightens Lower = StaysOrRises
StaysOrTightens Upper = StaysOrFalls

itself : (side : Side) (j : ℤ) → no_tighter side j j ≡ true
unfolding no_tighter
itself Lower j = le_true j j (grind (arith, ints))
itself Upper j = le_true j j (grind (arith, ints))

in_turn : (side : Side) (i j k : ℤ) → no_tighter side i j ≡ true → no_tighter side j k ≡ true → no_tighter side i k ≡ true
unfolding no_tighter
in_turn Lower i j k p q = le_true i k (le_trans i j k (true_le i j p) (true_le j k q))
in_turn Upper i j k p q = le_true k i (le_trans k j i (true_le k j q) (true_le j i p))

one_is_no_tighter : (side : Side) (j k : ℤ) → no_tighter side j k ≡ false → no_tighter side k j ≡ true
unfolding no_tighter
one_is_no_tighter Lower j k h = le_true k j (lt_le k j (false_le j k h))
one_is_no_tighter Upper j k h = le_true j k (lt_le j k (false_le k j h))

same_bound : (side : Side) (j k : ℤ) → no_tighter side j k ≡ true → no_tighter side k j ≡ true → k ≡ j
unfolding no_tighter
same_bound Lower j k p q = le_same k j (true_le k j q) (true_le j k p)
same_bound Upper j k p q = le_same k j (true_le k j p) (true_le j k q)

stands_no_tighter : (side : Side) (j k : ℤ) → StaysOrTightens side (Some j) (Some k) → no_tighter side j k ≡ true
unfolding no_tighter
stands_no_tighter Lower j k h = le_true j k h
stands_no_tighter Upper j k h = le_true k j h

stands_on : (side : Side) (k : ℤ) → StaysOrTightens side (Some k) None → ⊥
stands_on Lower k h = h
stands_on Upper k h = h

abbrev pub IsAmong : List ℤ → Option ℤ → Type 0
IsAmong js o = (k : ℤ) → o ≡ Some k → Contains js k

module _ (side : Side) where
  -- how many of the numbers are no tighter than k
  passed : List ℤ → ℤ → ℕ
  passed [] k = 0
  passed (j ∷ js) k = one_if (no_tighter side j k) + passed js k

  passed_most : (js : List ℤ) (k : ℤ) → passed js k ≤ length js
  unfolding passed
  passed_most [] k = omega arith
  passed_most (j ∷ js) k = let h = one_at_most (no_tighter side j k) in let r = passed_most js k in omega (arith, h, r)

  passed_up : (js : List ℤ) (k l : ℤ) → no_tighter side k l ≡ true → passed js k ≤ passed js l
  unfolding passed
  passed_up [] k l h = omega arith
  passed_up (j ∷ js) k l h =
      let one = one_up (no_tighter side j k) (no_tighter side j l) (λ e. in_turn side j k l e h) in
      let rest = passed_up js k l h in
      omega (arith, one, rest)

  passed_more : (js : List ℤ) (k l : ℤ) → no_tighter side l k ≡ false → Contains js l → passed js k < passed js l
  unfolding passed
  passed_more [] k l h c = absurd (in_none l c)
  passed_more (j ∷ js) k l h c = elim (in_cons j l js c) [
    | inl e ↦
        let none = none_is (no_tighter side j k) (subst (λ z. no_tighter side z k ≡ false) e h) in
        let one = one_is (no_tighter side j l) (subst (λ z. no_tighter side j z ≡ true) (sym e) (itself side j)) in
        let rest = passed_up js k l (one_is_no_tighter side l k h) in
        omega (arith, none, one, rest)
    | inr later ↦
        let one = one_up (no_tighter side j k) (no_tighter side j l) (λ t. in_turn side j k l t (one_is_no_tighter side l k h)) in
        let rest = passed_more js k l h later in
        omega (arith, one, rest)
  ]

  -- a number counts itself
  passed_some : (js : List ℤ) (k : ℤ) → Contains js k → 0 < passed js k
  unfolding passed
  passed_some [] k c = absurd (in_none k c)
  passed_some (j ∷ js) k c = elim (in_cons j k js c) [
    | inl e ↦ let one = one_is (no_tighter side j k) (subst (λ z. no_tighter side j z ≡ true) (sym e) (itself side j)) in omega (arith, one)
    | inr later ↦ let rest = passed_some js k later in omega (arith, rest)
  ]

  -- how far a bound is tightened
  module _ (js : List ℤ) where
    steps : Option ℤ → ℕ
    steps None = 0
    steps (Some k) = passed js k

    steps_most : (o : Option ℤ) → steps o ≤ length js
    unfolding steps
    steps_most None = omega arith
    steps_most (Some k) = passed_most js k

    steps_up : (o p : Option ℤ) → StaysOrTightens side o p → steps o ≤ steps p
    unfolding steps
    steps_up None p h = omega arith
    steps_up (Some a) (Some b) h = passed_up js a b (stands_no_tighter side a b h)
    steps_up (Some a) None h = absurd (stands_on side a h)

    steps_same : (o p : Option ℤ) → StaysOrTightens side o p → IsAmong js p → steps p ≤ steps o → p ≡ o
    unfolding steps
    steps_same None None h is le = refl
    steps_same None (Some b) h is le = absurd (let some = passed_some js b (is b refl) in omega (arith, some, le))
    steps_same (Some a) None h is le = absurd (stands_on side a h)
    steps_same (Some a) (Some b) h is le = by (no_tighter side b a) refl
      where
        by : (z : Bool) → no_tighter side b a ≡ z → Some b ≡ Some a
        by true e = ap Some (same_bound side a b (stands_no_tighter side a b h) e)
        by false e = absurd (let more = passed_more js a b e (is b refl) in omega (arith, more, le))

-- ---- how far columns are tightened

module _ (js : List ℤ) where
  pub tight : List Column → ℕ
  tight [] = 0
  tight (c ∷ cs) = suc (steps Lower js c.lower + steps Upper js c.upper + tight cs)

  -- the second columns are those of the first, with no bound loosened, and perhaps more
  abbrev pub AreTighter : List Column → List Column → Type 0
  AreTighter [] ds = Unit {0}
  AreTighter (c ∷ cs) [] = ⊥
  AreTighter (c ∷ cs) (d ∷ ds) = StaysOrRises c.lower d.lower × StaysOrFalls c.upper d.upper × AreTighter cs ds

  abbrev pub AreAmong : List Column → Type 0
  AreAmong [] = Unit {0}
  AreAmong (c ∷ cs) = IsAmong js c.lower × IsAmong js c.upper × AreAmong cs

  pub tighter : (cs ds : List Column) → length cs ≤ length ds → ((i : ℕ) → i < length cs → StaysOrRises (col cs i).lower (col ds i).lower) → ((i : ℕ) → i < length cs → StaysOrFalls (col cs i).upper (col ds i).upper)
      → AreTighter cs ds
  tighter [] ds n l u = tt
  tighter (c ∷ cs) [] n l u = absurd (omega (arith, n))
  tighter (c ∷ cs) (d ∷ ds) n l u = (
    l 0 (omega arith),
    u 0 (omega arith),
    tighter cs ds (omega (arith, n)) (λ i lt. l (suc i) (omega (arith, lt))) (λ i lt. u (suc i) (omega (arith, lt))),
  )

  pub among : (cs : List Column) → ((i : ℕ) → i < length cs → IsAmong js (col cs i).lower) → ((i : ℕ) → i < length cs → IsAmong js (col cs i).upper) → AreAmong cs
  among [] l u = tt
  among (c ∷ cs) l u = (l 0 (omega arith), u 0 (omega arith), among cs (λ i lt. l (suc i) (omega (arith, lt))) (λ i lt. u (suc i) (omega (arith, lt))))

  pub tight_up : (cs ds : List Column) → AreTighter cs ds → tight cs ≤ tight ds
  unfolding tight
  tight_up [] ds h = omega arith
  tight_up (c ∷ cs) [] h = absurd h
  tight_up (c ∷ cs) (d ∷ ds) h = let l = steps_up Lower js c.lower d.lower h.0 in let u = steps_up Upper js c.upper d.upper h.1 in let rest = tight_up cs ds h.2 in omega (arith, l, u, rest)

  -- where nothing was tightened the bounds are the same
  pub tight_same : (cs ds : List Column) → AreTighter cs ds → AreAmong ds → tight ds ≤ tight cs → map column_bounds ds ≡ map column_bounds cs
  unfolding tight
  tight_same [] [] h is le = refl
  tight_same [] (d ∷ ds) h is le = absurd (omega (arith, le))
  tight_same (c ∷ cs) [] h is le = absurd h
  tight_same (c ∷ cs) (d ∷ ds) h is le =
      let l = steps_up Lower js c.lower d.lower h.0 in
      let u = steps_up Upper js c.upper d.upper h.1 in
      let rest = tight_up cs ds h.2 in
      let lower : d.lower ≡ c.lower = steps_same Lower js c.lower d.lower h.0 is.0 (omega (arith, l, u, rest, le)) in
      let upper : d.upper ≡ c.upper = steps_same Upper js c.upper d.upper h.1 is.1 (omega (arith, l, u, rest, le)) in
      let later : map column_bounds ds ≡ map column_bounds cs = tight_same cs ds h.2 is.2 (omega (arith, l, u, rest, le)) in
      let first : column_bounds d ≡ column_bounds c = ap (λ (o : Option ℤ). let b : Bounds = (o, d.upper) in b) lower ∙ ap (λ (o : Option ℤ). let b : Bounds = (c.lower, o) in b) upper in
      ap₂ (λ (b : Bounds) (bs : List Bounds). b ∷ bs) first later

  pub tight_most : (cs : List Column) → tight cs ≤ length cs * (2 * length js + 1)
  unfolding tight
  tight_most [] = omega arith
  tight_most (c ∷ cs) =
      let l = steps_most Lower js c.lower in
      let u = steps_most Upper js c.upper in
      let rest = tight_most cs in
      let product : suc (length cs) * (2 * length js + 1) ≡ length cs * (2 * length js + 1) + (2 * length js + 1) = suc-mul (length cs) (2 * length js + 1) in
      omega (arith, l, u, rest, product)
