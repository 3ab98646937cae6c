-- A branch stays in its leaf's box, so units without a limit are few.
use Rattle.std.proofs.Common.{◌≡◌, ◌≢◌, ◌⊎◌, inl, inr, ℕ, zero, suc, ◌<◌, ◌≤◌, ◌*◌, ◌^◌, ℤ, pos, negsuc, ◌+ℤ◌, ◌-ℤ◌, ◌*ℤ◌, ◌≤ℤ◌, ◌<ℤ◌, neg_ℤ, unsigned_abs, sym, ap, ◌∙◌, subst, refl, arith, List, [], ◌∷◌, ◌++◌, length, Contains, Bool, true, false, Some, None}
use Rattle.std.specs.Int.{◌∣◌}
use Rattle.std.specs.Prelude.{int_lt, min, if◌then◌else◌}
use Rattle.std.proofs.lemmas.Int.{ints}
use Rattle.std.proofs.Math.Nat.{le_of_dvd, mul_comm}
use Rattle.std.proofs.lemmas.List.{get_or_past}
use Rattle.fraction128.specs.declared.Summand.{Summand}
use Rattle.fraction128.specs.declared.Member.{Member}
use Rattle.fraction128.specs.declared.Column.{Column}
use Rattle.fraction128.specs.declared.Line.{Line}
use Rattle.fraction128.specs.declared.ratio.Ratio.{Ratio}
use Rattle.fraction128.specs.Grid.{leaf, column_at}
use Rattle.fraction128.specs.Number.{whole}
use Rattle.fraction128.specs.Ratio.{IsFraction}
use Rattle.fraction128.specs.Lines.{IsFloor, basic_member}
use Rattle.fraction128.proofs.Divisors.{dvd_of_eq}
use Rattle.fraction128.proofs.Integers.{abs-times}
use Rattle.fraction128.proofs.LowestTerms.{IsFraction-alone}
use Rattle.fraction128.proofs.RationalOrder.{mul_mono, mul_strict}
use Rattle.fraction128.proofs.RingEquations.{var, sum, product, minus, nothing, unit, solve}
use Rattle.fraction128.proofs.WholeNumbers.{wholes}
use Rattle.smt_meaning.specs.declared.clauses.Atom.{Atom}
use Rattle.smt_meaning.specs.declared.reports.Unit.{Unit as Spent}
use Rattle.smt_meaning.specs.declared.reports.Unit.TheVariants.{Numbered, Learnt, Pivot}
use Rattle.smt_meaning.specs.Term.{Tree}
use Rattle.smt_meaning.specs.Stack.{Frame}
use Rattle.smt_meaning.specs.Boxes.{IsInBox, term_at_most, negation_at_most, asserted_atoms}
use Rattle.smt_meaning.specs.CheckAtoms.{IsFirstAtom, Meets, IsBranch, IsOfBranch, WithBranch, WithBranches, EachIsBranch, branch_atoms}
use Rattle.smt_meaning.specs.Report.{is_unlimited, IsUnit}
use Rattle.report_laws.proofs.Listed.{in_cons, in_none}
use Rattle.report_laws.proofs.Counted.{AreApart, no_longer, apart_by, split_at}
use Rattle.report_laws.specs.Boxed.{HasBox, AreBoxed, BranchesStayInBoxes, IsNewAtom, UnitsAreNewAtoms, FewAtomsAreNotSpent, BoxedStacksAreNotSpent}

-- ---- whole numbers on both sides of a number

true_or_false : {X : Type 0} → true ≡ false → X
true_or_false e = cc

-- of fractions that name one number, n / d and m / e, the one is at most c where the other is
module _ (n m : ℤ) (d e : ℕ) (c : ℤ) (above : 0 < d) (same : n *ℤ pos e ≡ m *ℤ pos d) where
  swapped : (c *ℤ pos e) *ℤ pos d ≡ (c *ℤ pos d) *ℤ pos e
  swapped = solve wholes (c ∷ pos d ∷ pos e ∷ []) (product (product (var 0) (var 2)) (var 1)) (product (product (var 0) (var 1)) (var 2)) refl

  at_most_too : n ≤ℤ (c *ℤ pos d) → m ≤ℤ (c *ℤ pos e)
  at_most_too h = by (int_lt (c *ℤ pos e) m) refl
    where
      by : (t : Bool) → int_lt (c *ℤ pos e) m ≡ t → m ≤ℤ (c *ℤ pos e)
      by true f =
          let less : (c *ℤ pos e) <ℤ m = grind (arith, ints) in
          let strict : ((c *ℤ pos e) *ℤ pos d) <ℤ (m *ℤ pos d) = mul_strict (c *ℤ pos e) m d above less in
          let mono : (n *ℤ pos e) ≤ℤ ((c *ℤ pos d) *ℤ pos e) = mul_mono n (c *ℤ pos d) e h in
          absurd (omega (arith, ints, strict, mono, swapped, same))
      by false f = grind (arith, ints)

  at_least_too : (c *ℤ pos d) ≤ℤ n → (c *ℤ pos e) ≤ℤ m
  at_least_too h = by (int_lt m (c *ℤ pos e)) refl
    where
      by : (t : Bool) → int_lt m (c *ℤ pos e) ≡ t → (c *ℤ pos e) ≤ℤ m
      by true f =
          let less : m <ℤ (c *ℤ pos e) = grind (arith, ints) in
          let strict : (m *ℤ pos d) <ℤ ((c *ℤ pos e) *ℤ pos d) = mul_strict m (c *ℤ pos e) d above less in
          let mono : ((c *ℤ pos d) *ℤ pos e) ≤ℤ (n *ℤ pos e) = mul_mono (c *ℤ pos d) n e h in
          absurd (omega (arith, ints, strict, mono, swapped, same))
      by false f = grind (arith, ints)

module _ (x : Ratio) (k : ℤ) (floor : IsFloor k x) where
  least_below : (c : ℤ) → (c *ℤ pos x.denominator) ≤ℤ x.numerator → c ≤ℤ k
  least_below c h = by (int_lt k c) refl
    where
      by : (t : Bool) → int_lt k c ≡ t → c ≤ℤ k
      by true f =
          let next : (k +ℤ pos 1) ≤ℤ c = grind (arith, ints) in
          let mono : ((k +ℤ pos 1) *ℤ pos x.denominator) ≤ℤ (c *ℤ pos x.denominator) = mul_mono (k +ℤ pos 1) c x.denominator next in
          let high : x.numerator <ℤ ((k +ℤ pos 1) *ℤ pos x.denominator) = floor.1 in
          absurd (omega (arith, ints, mono, high, h))
      by false f = grind (arith, ints)

  greatest_above : (c : ℤ) → x.numerator ≢ c *ℤ pos x.denominator → x.numerator ≤ℤ (c *ℤ pos x.denominator) → (k +ℤ pos 1) ≤ℤ c
  greatest_above c other h = by (int_lt k c) refl
    where
      by : (t : Bool) → int_lt k c ≡ t → (k +ℤ pos 1) ≤ℤ c
      by true f = grind (arith, ints)
      by false f =
          let below : c ≤ℤ k = grind (arith, ints) in
          let mono : (c *ℤ pos x.denominator) ≤ℤ (k *ℤ pos x.denominator) = mul_mono c k x.denominator below in
          let low : (k *ℤ pos x.denominator) ≤ℤ x.numerator = floor.0 in
          absurd (other (omega (arith, ints, mono, low, h)))

-- a fraction in lowest terms that is whole has the denominator 1
not_whole : (x : Ratio) → IsFraction x → x.denominator ≢ 1 → (c : ℤ) → x.numerator ≢ c *ℤ pos x.denominator
not_whole x f broken c e =
    let size : unsigned_abs x.numerator ≡ unsigned_abs c * x.denominator = ap unsigned_abs e ∙ abs-times c x.denominator in
    let one : x.denominator ∣ 1 =
    IsFraction-alone x f x.denominator (dvd_of_eq x.denominator (unsigned_abs c) (unsigned_abs x.numerator) (size ∙ mul_comm (unsigned_abs c) x.denominator)) (dvd_of_eq x.denominator 1 x.denominator (omega arith)) in
    let few : x.denominator ≤ 1 = le_of_dvd (omega arith) one in
    let some : 0 < x.denominator = f.positive in
    broken (omega (arith, few, some))

-- ---- what a bound on one term says of values

module _ (n : ℤ) (d : ℕ) (c : ℤ) where
  one_times : (1 * d) * 1 ≡ d
  one_times = omega arith

  at_most_is : ((pos 1 *ℤ n) *ℤ pos 1 +ℤ pos 0 *ℤ pos (1 * d)) ≤ℤ (c *ℤ pos ((1 * d) * 1)) → n ≤ℤ (c *ℤ pos d)
  at_most_is h =
      let a : (pos 1 *ℤ n) *ℤ pos 1 +ℤ pos 0 *ℤ pos (1 * d) ≡ n = solve wholes (n ∷ pos (1 * d) ∷ []) (sum (product (product unit (var 0)) unit) (product nothing (var 1))) (var 0) refl in
      subst (λ (e : ℕ). n ≤ℤ (c *ℤ pos e)) one_times (subst (λ (z : ℤ). z ≤ℤ (c *ℤ pos ((1 * d) * 1))) a h)

  pub negation_is : ((negsuc 0 *ℤ n) *ℤ pos 1 +ℤ pos 0 *ℤ pos (1 * d)) ≤ℤ (c *ℤ pos ((1 * d) * 1)) → (neg_ℤ c *ℤ pos d) ≤ℤ n
  negation_is h =
      let a : (negsuc 0 *ℤ n) *ℤ pos 1 +ℤ pos 0 *ℤ pos (1 * d) ≡ neg_ℤ n =
      solve wholes (n ∷ pos (1 * d) ∷ []) (sum (product (product (minus unit) (var 0)) unit) (product nothing (var 1))) (minus (var 0)) refl in
      let b : neg_ℤ c *ℤ pos d ≡ neg_ℤ (c *ℤ pos d) = solve wholes (c ∷ pos d ∷ []) (product (minus (var 0)) (var 1)) (minus (product (var 0) (var 1))) refl in
      let k : neg_ℤ n ≤ℤ (c *ℤ pos d) = subst (λ (e : ℕ). neg_ℤ n ≤ℤ (c *ℤ pos e)) one_times (subst (λ (z : ℤ). z ≤ℤ (c *ℤ pos ((1 * d) * 1))) a h) in
      omega (arith, ints, b, k)

-- ---- a branch

some_is : {X : Type 0} (x y : X) → Some x ≡ Some y → x ≡ y
some_is x y e = cc

first_term : List Summand → ℕ
first_term [] = 0
first_term (p ∷ ps) = p.term

pub leaf_is : (s t : ℕ) → leaf s ≡ leaf t → s ≡ t
unfolding first_term
leaf_is s t e = ap first_term e

less_or_not : (i n : ℕ) → (i < n) ⊎ (n ≤ i)
less_or_not i zero = inr (omega arith)
less_or_not zero (suc n) = inl (omega arith)
less_or_not (suc i) (suc n) = elim (less_or_not i n) [ inl h ↦ inl (omega (arith, h)) | inr h ↦ inr (omega (arith, h)) ]

module _ (ts : List Tree) (frames : List Frame) (sums : List (List Summand)) (Is : Atom → Type 0) (l : Line) (b : IsBranch ts frames sums Is l) where
  abbrev t : ℕ
  t = b.term

  abbrev x : Ratio
  x = b.branches.basic.column.value

  -- the value is one of a grid
  column_is : b.branches.basic.column ≡ column_at b.row.grid b.row.variable
  column_is =
      let same : Some b.branches.basic ≡ Some (basic_member b.row.grid b.row.variable) = sym b.branches.is_basic ∙ ap (λ (m : Line). m.basic) b.row.line in
      ap (λ (m : Member). m.column) (some_is b.branches.basic (basic_member b.row.grid b.row.variable) same)

  fraction : IsFraction x
  fraction = elim (less_or_not b.row.variable (length b.row.grid.columns)) [
    | inl inside ↦ subst IsFraction (sym (ap (λ (c : Column). c.value) column_is)) (b.row.sound.fractions b.row.variable inside)
    | inr past ↦
        let none : column_at b.row.grid b.row.variable ≡ record { sum = []; lower = None; upper = None; value = whole (pos 0) } =
        get_or_past b.row.grid.columns b.row.variable (record { sum = []; lower = None; upper = None; value = whole (pos 0) }) past in
        absurd (b.branches.broken (ap (λ (c : Column). c.value.denominator) (column_is ∙ none)))
  ]

  met : (a : Atom) → Contains (asserted_atoms ts frames) a → Meets b.reached.values a
  met a c =
      let m = b.reached.meets (a ∷ []) (inl (a, c, refl)) in
      elim (in_cons a m.0 [] m.1) [ inl e ↦ subst (Meets b.reached.values) e m.2 | inr none ↦ absurd (in_none m.0 none) ]

  abbrev w : Ratio
  w = b.reached.values b.term

  module _ (k : ℤ) (floor : IsFloor k x) where
    from_below : (c : ℤ) → Contains (asserted_atoms ts frames) (negation_at_most b.term c) → neg_ℤ c ≤ℤ k
    from_below c h =
        least_below x k floor (neg_ℤ c)
        (at_least_too w.numerator x.numerator w.denominator x.denominator (neg_ℤ c) (b.reached.positive b.term) b.reached.value (negation_is w.numerator w.denominator c (met (negation_at_most b.term c) h)))

    from_above : (c : ℤ) → Contains (asserted_atoms ts frames) (term_at_most b.term c) → (k +ℤ pos 1) ≤ℤ c
    from_above c h =
        greatest_above x k floor c (not_whole x fraction b.branches.broken c)
        (at_most_too w.numerator x.numerator w.denominator x.denominator c (b.reached.positive b.term) b.reached.value (at_most_is w.numerator w.denominator c (met (term_at_most b.term c) h)))

    in_box : HasBox ts frames b.term → IsInBox ts frames b.term k
    in_box box = record {
      least = box.least;
      greatest = box.greatest;
      has_least = box.has_least;
      has_greatest = box.has_greatest;
      above = from_below;
      below = λ c h. let z : (k +ℤ pos 1) ≤ℤ c = from_above c h in omega (arith, ints, z);
    }

    next_in_box : HasBox ts frames b.term → IsInBox ts frames b.term (k +ℤ pos 1)
    next_in_box box = record {
      least = box.least;
      greatest = box.greatest;
      has_least = box.has_least;
      has_greatest = box.has_greatest;
      above = λ c h. let z : neg_ℤ c ≤ℤ k = from_below c h in omega (arith, ints, z);
      below = from_above;
    }

    first_here : (a : Atom) (as' : List Atom) → Contains (a ∷ as') a
    first_here a as' = (0, omega arith, refl)

    second_here : (a c : Atom) → Contains (a ∷ c ∷ []) c
    second_here a c = (1, omega arith, refl)

    branch_first : HasBox ts frames b.term → (a : Atom) → Contains (branch_atoms b.term k) a → IsFirstAtom ts frames a
    branch_first box a c = elim (in_cons (term_at_most b.term k) a (negation_at_most b.term (neg_ℤ k -ℤ pos 1) ∷ []) c) [
      | inl e ↦
          inr (inr (record {
            term = b.term;
            number = k;
            leaf = b.is_leaf;
            in_box = in_box box;
            among = subst (Contains (term_at_most b.term k ∷ negation_at_most b.term (neg_ℤ k) ∷ [])) (sym e) (first_here (term_at_most b.term k) (negation_at_most b.term (neg_ℤ k) ∷ []));
          }))
      | inr later ↦ elim (in_cons (negation_at_most b.term (neg_ℤ k -ℤ pos 1)) a [] later) [
        | inl e ↦
            let turned : neg_ℤ (k +ℤ pos 1) ≡ neg_ℤ k -ℤ pos 1 = omega (arith, ints) in
            inr (inr (record {
              term = b.term;
              number = k +ℤ pos 1;
              leaf = b.is_leaf;
              in_box = next_in_box box;
              among = subst (Contains (term_at_most b.term (k +ℤ pos 1) ∷ negation_at_most b.term (neg_ℤ (k +ℤ pos 1)) ∷ [])) (ap (negation_at_most b.term) turned ∙ sym e)
                  (second_here (term_at_most b.term (k +ℤ pos 1)) (negation_at_most b.term (neg_ℤ (k +ℤ pos 1))));
            }))
        | inr none ↦ absurd (in_none a none)
      ]
    ]

  of_branch_first : HasBox ts frames b.term → (a : Atom) → IsOfBranch l a → IsFirstAtom ts frames a
  of_branch_first box a o =
      let same : o.branches.basic ≡ b.branches.basic = some_is o.branches.basic b.branches.basic (sym o.branches.is_basic ∙ b.branches.is_basic) in
      let term : o.term ≡ b.term = leaf_is o.term b.term (sym o.branches.is_term ∙ ap (λ (m : Member). m.column.sum) same ∙ b.branches.is_term) in
      branch_first o.floor (subst (λ (m : Member). IsFloor o.floor m.column.value) same o.branches.floor) box a (subst (λ (s : ℕ). Contains (branch_atoms s o.floor) a) term o.among)

each_first : (ts : List Tree) (frames : List Frame) (sums : List (List Summand)) → AreBoxed ts frames → (Is : Atom → Type 0) → ((a : Atom) → Is a → IsFirstAtom ts frames a)
    → (ls : List Line) → EachIsBranch ts frames sums Is ls → (a : Atom) → WithBranches Is ls a → IsFirstAtom ts frames a
each_first ts frames sums boxed Is first [] are a h = first a h
each_first ts frames sums boxed Is first (l ∷ ls) are a h = each_first ts frames sums boxed (WithBranch Is l) with_one ls are.1 a h
  where
    with_one : (c : Atom) → WithBranch Is l c → IsFirstAtom ts frames c
    with_one c (inl k) = first c k
    with_one c (inr k) = of_branch_first ts frames sums Is l are.0 (boxed are.0.term are.0.is_leaf) c k

pub stay_in_boxes : BranchesStayInBoxes
stay_in_boxes ts frames sums branches boxed are a h = each_first ts frames sums boxed (IsFirstAtom ts frames) (λ c k. k) branches are a h

-- ---- units

new_atom : (ts : List Tree) (frames : List Frame) (branches : List Line) (limit : ℤ) (before : List Spent) (u : Spent) → is_unlimited limit ≡ true
    → IsUnit ts frames branches limit before u → IsNewAtom ts frames branches before u
new_atom ts frames branches limit before (Learnt c) none h = true_or_false (sym none ∙ h.costs)
new_atom ts frames branches limit before (Pivot l) none h = true_or_false (sym none ∙ h)
new_atom ts frames branches limit before (Numbered a) none h = record { atom = a; is = refl; of_check = h.of_check; not_of_stack = h.not_of_stack; new = h.new }

pub units_are_new : UnitsAreNewAtoms
units_are_new ts frames limit branches us none spent before after u e = new_atom ts frames branches limit before u none (spent.units before after u e)

most_is : (limit : ℤ) (b : Bool) → b ≡ true → (if b then 2 ^ 40 else min (unsigned_abs limit) (2 ^ 40)) ≡ 2 ^ 40
most_is limit true e = refl
most_is limit false e = absurd (true_or_false (sym e))

-- the unit is a numbering of the atom
abbrev Numbers : Spent → Atom → Type 0
Numbers u a = u ≡ Numbered a

pub few_not_spent : FewAtomsAreNotSpent
few_not_spent ts frames limit branches us atoms none each few spent =
    let new : (before after : List Spent) (u : Spent) → us ≡ before ++ u ∷ after → IsNewAtom ts frames branches before u = units_are_new ts frames limit branches us none spent in
    let apart : AreApart Numbers us = apart_by Numbers us (λ before after u e z c a n m. (new before after u e).new (subst (Contains before) (n ∙ sym m) c)) in
    let short : length us ≤ length atoms = no_longer Numbers us atoms apart (λ u c. (let s = split_at us u c in let n = new s.front s.back u s.is in (n.atom, each n.atom n.of_check, n.is))) in
    let count : length us ≡ 2 ^ 40 = spent.count ∙ most_is limit (is_unlimited limit) none in
    omega (arith, short, count, few)

pub boxed_not_spent : BoxedStacksAreNotSpent
boxed_not_spent ts frames limit branches us atoms none boxed each few spent =
    few_not_spent ts frames limit branches us atoms none (λ a c. each a (stay_in_boxes ts frames spent.sums branches boxed spent.are_branches a c)) few spent
