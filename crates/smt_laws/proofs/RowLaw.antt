-- The rows of a division leave it one value.
use Rattle.std.proofs.Common.{◌≡◌, ◌≢◌, zero, suc, Bool, true, false, not, ◌||◌, List, [], ◌∷◌, ◌++◌, All, Contains, Option, Some, None, ap, sym, subst, ◌∙◌, refl, arith}
use Rattle.std.specs.Prelude.{ℤ, pos, negsuc, ◌+ℤ◌, ◌-ℤ◌, ◌*ℤ◌, ◌≤ℤ◌, neg_ℤ, int_le}
use Rattle.std.proofs.lemmas.Int.{ints}
use Rattle.std.proofs.lemmas.Bool.{eqb-true}
use Rattle.std.proofs.lemmas.List.Elements.{All-nil, All-cons, All-head, All-tail, All-contains_itself}
use Rattle.fraction128.specs.Division.{IsDivision}
use Rattle.fraction128.proofs.Divisions.{divides, only, bounds}
use Rattle.fraction128.proofs.LowestTerms.{neg-times}
use Rattle.smt_meaning.specs.declared.terms.Operator.{Operator}
use Rattle.smt_meaning.specs.declared.terms.Operator.TheVariants.{Divide, Modulo, Absolute, Divisible}
use Rattle.smt_meaning.specs.Term.{int_eq, absolute, quotient, remainder}
use Rattle.smt_meaning.specs.Division.{Limit, Row, limit, always, unless, beyond, left_by, quotient_rows, operator_rows}
use Rattle.smt_laws.specs.Rows.{multiples_value, row_holds, rows_hold}
use Rattle.smt_laws.specs.ClauseLaws.{IsRowOf, RowsAreOfTheTerm, RowsForce, AbsoluteForced}
use Rattle.smt_laws.proofs.Both.{and_left, and_right, and_both}
use Rattle.smt_laws.proofs.LinearLaw.{minus_one}

-- ---- tests

pub le_true : (a b : ℤ) → a ≤ℤ b → int_le a b ≡ true
le_true a b h = grind (arith, ints)

pub true_le : (a b : ℤ) → int_le a b ≡ true → a ≤ℤ b
true_le a b h = grind (arith, ints)

first_true : (a b : Bool) → a ≡ true → (a || b) ≡ true
first_true true b h = refl
first_true false b h = cc

second_true : (a b : Bool) → b ≡ true → (a || b) ≡ true
second_true true b h = refl
second_true false b h = h

one_of : (a b : Bool) (A : Type 0) → (a || b) ≡ true → (a ≡ true → A) → (a ≡ false → b ≡ true → A) → A
one_of true b A h f g = f refl
one_of false b A h f g = g refl h

alone : (b : Bool) → (b || false) ≡ true → b ≡ true
alone true h = refl
alone false h = h

is_both : (a b : Bool) → a ≡ b → a ≡ false → b ≡ true → ⊥
is_both a b e f g = cc

not_true : (b : Bool) → not b ≡ true → b ≡ false
not_true true h = cc
not_true false h = refl

-- a remainder that isn't negative is 0 exactly where the test says so
zero_or_more : (r : ℤ) → pos 0 ≤ℤ r → (b : Bool) → int_eq r (pos 0) ≡ b → (A : Type 0) → (r ≡ pos 0 → b ≡ true → A) → (pos 1 ≤ℤ r → b ≡ false → A) → A
zero_or_more (pos zero) h true e A f g = f refl refl
zero_or_more (pos zero) h false e A f g = absurd (cc)
zero_or_more (pos (suc n)) h true e A f g = let same : suc n ≡ 0 = eqb-true (suc n) 0 e in absurd (omega (arith, same))
zero_or_more (pos (suc n)) h false e A f g = g (omega (arith, ints)) refl
zero_or_more (negsuc n) h b e A f g = absurd (omega (arith, ints, h))

zero_test : (r : ℤ) → r ≡ pos 0 → int_eq r (pos 0) ≡ true
zero_test r e = ap (λ z. int_eq z (pos 0)) e

some_test : (r : ℤ) → pos 1 ≤ℤ r → int_eq r (pos 0) ≡ false
some_test r h = zero_or_more r (omega (arith, ints, h)) (int_eq r (pos 0)) refl (int_eq r (pos 0) ≡ false) (λ none is. absurd (omega (arith, ints, h, none))) (λ some is. is)

-- ---- multiples

one_time : (z : ℤ) → pos 1 *ℤ z ≡ z
one_time (pos n) = ap pos (omega arith)
one_time (negsuc n) = omega (arith, ints)

module _ {A : Type 0} (value : A → ℤ) where
  beyond_value : (a q : A) (n : ℤ) → multiples_value value (beyond a n q) ≡ n *ℤ value q -ℤ value a
  beyond_value a q n = let turned = minus_one (value a) in omega (arith, ints, turned)

  left_value : (a q : A) (n : ℤ) → multiples_value value (left_by a n q) ≡ value a -ℤ n *ℤ value q
  left_value a q n = let once = one_time (value a) in let turned = neg-times n (value q) in omega (arith, ints, once, turned)

  module _ (truth : Bool) where
    abbrev Holds : Row A → Type 0
    Holds r = row_holds value truth r ≡ true

    always_true : (ms : List (ℤ × A)) (k : ℤ) → multiples_value value ms ≤ℤ k → Holds (always ms k)
    always_true ms k h = first_true (int_le (multiples_value value ms) k) false (le_true (multiples_value value ms) k h)

    always_holds : (ms : List (ℤ × A)) (k : ℤ) → Holds (always ms k) → multiples_value value ms ≤ℤ k
    always_holds ms k h = true_le (multiples_value value ms) k (alone (int_le (multiples_value value ms) k) h)

    -- ---- the rows of the quotient

    module _ (a q : A) (n : ℤ) where
      abbrev Within : Type 0
      Within = ((n *ℤ value q) ≤ℤ value a) × ((value a -ℤ n *ℤ value q) ≤ℤ (absolute n -ℤ pos 1))

      within_true : (rest : List (Row A)) → Within → rows_hold value truth rest ≡ true → rows_hold value truth (quotient_rows a n q ++ rest) ≡ true
      within_true rest h k =
          let low = beyond_value a q n in
          let high = left_value a q n in
          and_both (row_holds value truth (always (beyond a n q) (pos 0))) _ (always_true (beyond a n q) (pos 0) (omega (arith, ints, low, h.0)))
          (and_both (row_holds value truth (always (left_by a n q) (absolute n -ℤ pos 1))) (rows_hold value truth rest)
          (always_true (left_by a n q) (absolute n -ℤ pos 1) (omega (arith, ints, high, h.1))) k)

      within_holds : (rest : List (Row A)) → rows_hold value truth (quotient_rows a n q ++ rest) ≡ true → Within × (rows_hold value truth rest ≡ true)
      within_holds rest h =
          let low = beyond_value a q n in
          let high = left_value a q n in
          let first = always_holds (beyond a n q) (pos 0) (and_left (row_holds value truth (always (beyond a n q) (pos 0))) _ h) in
          let more = and_right (row_holds value truth (always (beyond a n q) (pos 0))) _ h in
          let second = always_holds (left_by a n q) (absolute n -ℤ pos 1) (and_left (row_holds value truth (always (left_by a n q) (absolute n -ℤ pos 1))) (rows_hold value truth rest) more) in
          ((omega (arith, ints, low, first), omega (arith, ints, high, second)), and_right (row_holds value truth (always (left_by a n q) (absolute n -ℤ pos 1))) (rows_hold value truth rest) more)

      is_quotient : Within → value q ≡ quotient (value a) n
      is_quotient h = bounds (value a) n (value q) h.0 h.1

      is_left : Within → value a -ℤ n *ℤ value q ≡ remainder (value a) n
      is_left h =
          (only (value a) n (value q) (value a -ℤ n *ℤ value q)
          (record { whole = omega (arith, ints); not_negative = omega (arith, ints, h.0); below = omega (arith, ints, h.1) })).1

      by_division : IsDivision (value a) n (value q) (remainder (value a) n) → Within × (value a -ℤ n *ℤ value q ≡ remainder (value a) n)
      by_division d =
          let whole = d.whole in
          let not_negative = d.not_negative in
          let below = d.below in
          ((omega (arith, ints, whole, not_negative), omega (arith, ints, whole, below)), omega (arith, ints, whole))

      divided : n ≢ pos 0 → value q ≡ quotient (value a) n → Within × (value a -ℤ n *ℤ value q ≡ remainder (value a) n)
      divided some e = by_division (subst (λ z. IsDivision (value a) n z (remainder (value a) n)) (sym e) (divides (value a) n some))

    -- ---- the rows of what is left over

    module _ (a q t : A) (n : ℤ) where
      above_value : multiples_value value ((pos 1, t) ∷ beyond a n q) ≡ value t +ℤ (n *ℤ value q -ℤ value a)
      above_value = let once = one_time (value t) in let low = beyond_value a q n in omega (arith, ints, once, low)

      under_value : multiples_value value ((negsuc 0, t) ∷ left_by a n q) ≡ (value a -ℤ n *ℤ value q) -ℤ value t
      under_value = let turned = minus_one (value t) in let high = left_value a q n in omega (arith, ints, turned, high)

      abbrev above : Row A
      above = always ((pos 1, t) ∷ beyond a n q) (pos 0)

      abbrev under : Row A
      under = always ((negsuc 0, t) ∷ left_by a n q) (pos 0)

      left_true : value t ≡ value a -ℤ n *ℤ value q → rows_hold value truth (above ∷ under ∷ []) ≡ true
      left_true e =
          let up = above_value in
          let down = under_value in
          and_both (row_holds value truth above) _ (always_true ((pos 1, t) ∷ beyond a n q) (pos 0) (omega (arith, ints, up, e)))
          (and_both (row_holds value truth under) true (always_true ((negsuc 0, t) ∷ left_by a n q) (pos 0) (omega (arith, ints, down, e))) refl)

      left_holds : rows_hold value truth (above ∷ under ∷ []) ≡ true → value t ≡ value a -ℤ n *ℤ value q
      left_holds h =
          let up = above_value in
          let down = under_value in
          let first = always_holds ((pos 1, t) ∷ beyond a n q) (pos 0) (and_left (row_holds value truth above) _ h) in
          let second = always_holds ((negsuc 0, t) ∷ left_by a n q) (pos 0) (and_left (row_holds value truth under) true (and_right (row_holds value truth above) _ h)) in
          omega (arith, ints, up, down, first, second)

    -- ---- the rows of divisibility

    module _ (a q : A) (n : ℤ) where
      abbrev holds : Row A
      holds = unless true (beyond a n q) (negsuc 0)

      abbrev fails : Row A
      fails = unless false (left_by a n q) (pos 0)

      -- where the remainder is r
      divisible_true : (r : ℤ) → pos 0 ≤ℤ r → value a -ℤ n *ℤ value q ≡ r → truth ≡ int_eq r (pos 0) → rows_hold value truth (holds ∷ fails ∷ []) ≡ true
      divisible_true r h e k =
          let low = beyond_value a q n in
          let high = left_value a q n in
          zero_or_more r h (int_eq r (pos 0)) refl (rows_hold value truth (holds ∷ fails ∷ []) ≡ true)
          (λ none is.
          and_both (row_holds value truth holds) _ (first_true truth _ (k ∙ is))
          (and_both (row_holds value truth fails) true (second_true (not truth) _ (always_true (left_by a n q) (pos 0) (omega (arith, ints, high, e, none)))) refl))
          (λ some is.
          and_both (row_holds value truth holds) _ (second_true truth _ (always_true (beyond a n q) (negsuc 0) (omega (arith, ints, low, e, some))))
          (and_both (row_holds value truth fails) true (first_true (not truth) _ (ap not (k ∙ is))) refl))

      divisible_holds : (r : ℤ) → pos 0 ≤ℤ r → value a -ℤ n *ℤ value q ≡ r → rows_hold value truth (holds ∷ fails ∷ []) ≡ true → truth ≡ int_eq r (pos 0)
      divisible_holds r h e k =
          let low = beyond_value a q n in
          let high = left_value a q n in
          one_of truth _ (truth ≡ int_eq r (pos 0)) (and_left (row_holds value truth holds) _ k)
          (λ said.
          one_of (not truth) _ (truth ≡ int_eq r (pos 0)) (and_left (row_holds value truth fails) true (and_right (row_holds value truth holds) _ k))
          (λ denied. absurd (is_both truth truth refl (not_true truth denied) said))
          (λ said_so within. let le = always_holds (left_by a n q) (pos 0) within in said ∙ sym (zero_test r (omega (arith, ints, high, e, le, h)))))
          (λ denied within. let le = always_holds (beyond a n q) (negsuc 0) within in denied ∙ sym (some_test r (omega (arith, ints, low, e, le))))

    -- ---- the rows of the absolute value

    module _ (a t : A) where
      abbrev over : List (ℤ × A)
      over = (pos 1, a) ∷ (negsuc 0, t) ∷ []

      abbrev over_negated : List (ℤ × A)
      over_negated = (negsuc 0, a) ∷ (negsuc 0, t) ∷ []

      abbrev same : List (ℤ × A)
      same = (pos 1, t) ∷ (negsuc 0, a) ∷ []

      abbrev opposite : List (ℤ × A)
      opposite = (pos 1, t) ∷ (pos 1, a) ∷ []

      abbrev either_side : Row A
      either_side = record { truth = None; limits = limit same (pos 0) ∷ limit opposite (pos 0) ∷ [] }

      over_value : multiples_value value over ≡ value a -ℤ value t
      over_value = let once = one_time (value a) in let turned = minus_one (value t) in omega (arith, ints, once, turned)

      over_negated_value : multiples_value value over_negated ≡ neg_ℤ (value a) -ℤ value t
      over_negated_value = let one = minus_one (value a) in let turned = minus_one (value t) in omega (arith, ints, one, turned)

      same_value : multiples_value value same ≡ value t -ℤ value a
      same_value = let once = one_time (value t) in let turned = minus_one (value a) in omega (arith, ints, once, turned)

      opposite_value : multiples_value value opposite ≡ value t +ℤ value a
      opposite_value = let once = one_time (value t) in let one = one_time (value a) in omega (arith, ints, once, one)

      abbrev three : List (Row A)
      three = always over (pos 0) ∷ always over_negated (pos 0) ∷ either_side ∷ []

      three_true : (value a -ℤ value t) ≤ℤ pos 0 → (neg_ℤ (value a) -ℤ value t) ≤ℤ pos 0 → Holds either_side → rows_hold value truth three ≡ true
      three_true h k l =
          let one = over_value in
          let two = over_negated_value in
          and_both (row_holds value truth (always over (pos 0))) _ (always_true over (pos 0) (omega (arith, ints, one, h)))
          (and_both (row_holds value truth (always over_negated (pos 0))) _ (always_true over_negated (pos 0) (omega (arith, ints, two, k)))
          (and_both (row_holds value truth either_side) true l refl))

      same_true : (value t -ℤ value a) ≤ℤ pos 0 → Holds either_side
      same_true h = let is = same_value in first_true (int_le (multiples_value value same) (pos 0)) _ (le_true (multiples_value value same) (pos 0) (omega (arith, ints, is, h)))

      opposite_true : (value t +ℤ value a) ≤ℤ pos 0 → Holds either_side
      opposite_true h =
          let is = opposite_value in
          second_true (int_le (multiples_value value same) (pos 0)) _
          (first_true (int_le (multiples_value value opposite) (pos 0)) false (le_true (multiples_value value opposite) (pos 0) (omega (arith, ints, is, h))))

      size_true : value t ≡ absolute (value a) → rows_hold value truth three ≡ true
      size_true e = go (value a) refl e
        where
          go : (x : ℤ) → value a ≡ x → value t ≡ absolute x → rows_hold value truth three ≡ true
          go (pos m) k l = three_true (omega (arith, ints, k, l)) (omega (arith, ints, k, l)) (same_true (omega (arith, ints, k, l)))
          go (negsuc m) k l = three_true (omega (arith, ints, k, l)) (omega (arith, ints, k, l)) (opposite_true (omega (arith, ints, k, l)))

      from_above : (x y : ℤ) → y ≡ x → neg_ℤ x ≤ℤ y → y ≡ absolute x
      from_above (pos m) y e h = e
      from_above (negsuc m) y e h = absurd (omega (arith, ints, e, h))

      from_below : (x y : ℤ) → y ≡ neg_ℤ x → x ≤ℤ y → y ≡ absolute x
      from_below (pos zero) y e h = e
      from_below (pos (suc m)) y e h = absurd (omega (arith, ints, e, h))
      from_below (negsuc m) y e h = e

      size_holds : rows_hold value truth three ≡ true → value t ≡ absolute (value a)
      size_holds h =
          let one = over_value in
          let two = over_negated_value in
          let first = always_holds over (pos 0) (and_left (row_holds value truth (always over (pos 0))) _ h) in
          let rest = and_right (row_holds value truth (always over (pos 0))) _ h in
          let second = always_holds over_negated (pos 0) (and_left (row_holds value truth (always over_negated (pos 0))) _ rest) in
          let last = and_left (row_holds value truth either_side) true (and_right (row_holds value truth (always over_negated (pos 0))) _ rest) in
          one_of (int_le (multiples_value value same) (pos 0)) _ (value t ≡ absolute (value a)) last
          (λ within.
          let is = same_value in
          let le = true_le (multiples_value value same) (pos 0) within in
          from_above (value a) (value t) (omega (arith, ints, one, first, is, le)) (omega (arith, ints, two, second)))
          (λ past within.
          let is = opposite_value in
          let le = true_le (multiples_value value opposite) (pos 0) (alone (int_le (multiples_value value opposite) (pos 0)) within) in
          from_below (value a) (value t) (omega (arith, ints, two, second, is, le)) (omega (arith, ints, one, first)))

-- ---- the laws

pub rows_force : {A : Type 0} (value : A → ℤ) (truth : Bool) (n : ℤ) → n ≢ pos 0 → RowsForce value truth n
rows_force value truth n some = record {
  quotient_is = λ t a d h. is_quotient value truth a t n (within_holds value truth a t n [] h).0;
  quotient_meets = λ t a d e. within_true value truth a t n [] (divided value truth a t n some e).0 refl;
  remainder_is = λ t a d q h.
      let w = within_holds value truth a q n (above value truth a q t n ∷ under value truth a q t n ∷ []) h in
      (is_quotient value truth a q n w.0, left_holds value truth a q t n w.1 ∙ is_left value truth a q n w.0);
  remainder_meets = λ t a d q e f.
      let w = divided value truth a q n some e in
      within_true value truth a q n (above value truth a q t n ∷ under value truth a q t n ∷ []) w.0 (left_true value truth a q t n (f ∙ sym w.1));
  divisibility_is = λ t a d q h.
      let w = within_holds value truth a q n (holds value truth a q n ∷ fails value truth a q n ∷ []) h in
      let not_negative = (divides (value a) n some).not_negative in
      (is_quotient value truth a q n w.0, divisible_holds value truth a q n (remainder (value a) n) not_negative (is_left value truth a q n w.0) w.1);
  divisibility_meets = λ t a d q e f.
      let w = divided value truth a q n some e in
      let not_negative = (divides (value a) n some).not_negative in
      within_true value truth a q n (holds value truth a q n ∷ fails value truth a q n ∷ []) w.0 (divisible_true value truth a q n (remainder (value a) n) not_negative w.1 f);
}

pub absolute_forced : {A : Type 0} (value : A → ℤ) (truth : Bool) → AbsoluteForced value truth
absolute_forced value truth = record { absolute_is = λ n t a h. size_holds value truth a t h; absolute_meets = λ n t a e. size_true value truth a t e }

-- ---- what they are over

module _ {A : Type 0} (P : A → Type 0) where
  abbrev Has : ℤ × A → Type 0
  Has m = P m.1

  abbrev HasAll : Limit A → Type 0
  HasAll l = All Has l.multiples

  two_of : (m k : ℤ × A) → Has m → Has k → All Has (m ∷ k ∷ [])
  two_of m k h j = All-cons Has m (k ∷ []) h (All-cons Has k [] j (All-nil Has))

  three_of : (m k l : ℤ × A) → Has m → Has k → Has l → All Has (m ∷ k ∷ l ∷ [])
  three_of m k l h i j = All-cons Has m (k ∷ l ∷ []) h (two_of k l i j)

  one_limit : (b : Option Bool) (ms : List (ℤ × A)) (k : ℤ) → All Has ms → IsRowOf P (record { truth = b; limits = limit ms k ∷ [] })
  one_limit b ms k h = All-cons HasAll (limit ms k) [] h (All-nil HasAll)

  two_limits : (b : Option Bool) (ms ns : List (ℤ × A)) (k j : ℤ) → All Has ms → All Has ns → IsRowOf P (record { truth = b; limits = limit ms k ∷ limit ns j ∷ [] })
  two_limits b ms ns k j h g = All-cons HasAll (limit ms k) (limit ns j ∷ []) h (All-cons HasAll (limit ns j) [] g (All-nil HasAll))

  two_rows : (r s : Row A) (rest : List (Row A)) → IsRowOf P r → IsRowOf P s → All (IsRowOf P) rest → All (IsRowOf P) (r ∷ s ∷ rest)
  two_rows r s rest h g k = All-cons (IsRowOf P) r (s ∷ rest) h (All-cons (IsRowOf P) s rest g k)

  quotient_of : (a q : A) (n : ℤ) (rest : List (Row A)) → P a → P q → All (IsRowOf P) rest → All (IsRowOf P) (quotient_rows a n q ++ rest)
  quotient_of a q n rest h g k =
      two_rows (always (beyond a n q) (pos 0)) (always (left_by a n q) (absolute n -ℤ pos 1)) rest
      (one_limit None (beyond a n q) (pos 0) (two_of (n, q) (negsuc 0, a) g h)) (one_limit None (left_by a n q) (absolute n -ℤ pos 1) (two_of (pos 1, a) (neg_ℤ n, q) h g)) k

  none_of : All (IsRowOf P) []
  none_of = All-nil (IsRowOf P)

  first_of : (a : A) (us : List A) → All P (a ∷ us) → P a
  first_of a us h = All-head P a us h

  third_of : (a d q : A) (us : List A) → All P (a ∷ d ∷ q ∷ us) → P q
  third_of a d q us h = All-head P q us (All-tail P d (q ∷ us) (All-tail P a (d ∷ q ∷ us) h))

  pub of_term : (o : Operator) (n : ℤ) (t : A) (us : List A) → P t → All P us → All (IsRowOf P) (operator_rows o n t us)
  of_term Divide n t (a ∷ d ∷ []) p h = quotient_of a t n [] (first_of a (d ∷ []) h) p none_of
  of_term Modulo n t (a ∷ d ∷ q ∷ []) p h =
      let one = first_of a (d ∷ q ∷ []) h in
      let last = third_of a d q [] h in
      quotient_of a q n (always ((pos 1, t) ∷ beyond a n q) (pos 0) ∷ always ((negsuc 0, t) ∷ left_by a n q) (pos 0) ∷ []) one last
      (two_rows (always ((pos 1, t) ∷ beyond a n q) (pos 0)) (always ((negsuc 0, t) ∷ left_by a n q) (pos 0)) []
      (one_limit None ((pos 1, t) ∷ beyond a n q) (pos 0) (three_of (pos 1, t) (n, q) (negsuc 0, a) p last one))
      (one_limit None ((negsuc 0, t) ∷ left_by a n q) (pos 0) (three_of (negsuc 0, t) (pos 1, a) (neg_ℤ n, q) p one last)) none_of)
  of_term Divisible n t (a ∷ d ∷ q ∷ []) p h =
      let one = first_of a (d ∷ q ∷ []) h in
      let last = third_of a d q [] h in
      quotient_of a q n (unless true (beyond a n q) (negsuc 0) ∷ unless false (left_by a n q) (pos 0) ∷ []) one last
      (two_rows (unless true (beyond a n q) (negsuc 0)) (unless false (left_by a n q) (pos 0)) []
      (one_limit (Some true) (beyond a n q) (negsuc 0) (two_of (n, q) (negsuc 0, a) last one))
      (one_limit (Some false) (left_by a n q) (pos 0) (two_of (pos 1, a) (neg_ℤ n, q) one last)) none_of)
  of_term Absolute n t (a ∷ []) p h =
      let one = first_of a [] h in
      let either : Row A = record { truth = None; limits = limit ((pos 1, t) ∷ (negsuc 0, a) ∷ []) (pos 0) ∷ limit ((pos 1, t) ∷ (pos 1, a) ∷ []) (pos 0) ∷ [] } in
      two_rows (always ((pos 1, a) ∷ (negsuc 0, t) ∷ []) (pos 0)) (always ((negsuc 0, a) ∷ (negsuc 0, t) ∷ []) (pos 0)) (either ∷ [])
      (one_limit None ((pos 1, a) ∷ (negsuc 0, t) ∷ []) (pos 0) (two_of (pos 1, a) (negsuc 0, t) one p))
      (one_limit None ((negsuc 0, a) ∷ (negsuc 0, t) ∷ []) (pos 0) (two_of (negsuc 0, a) (negsuc 0, t) one p))
      (All-cons (IsRowOf P) either []
      (two_limits None ((pos 1, t) ∷ (negsuc 0, a) ∷ []) ((pos 1, t) ∷ (pos 1, a) ∷ []) (pos 0) (pos 0) (two_of (pos 1, t) (negsuc 0, a) p one) (two_of (pos 1, t) (pos 1, a) p one)) none_of)
  of_term o n t us p h = none_of

pub rows_of_term : (A : Type 0) → RowsAreOfTheTerm A
rows_of_term A o n t us =
    let every : All (Contains (t ∷ us)) (t ∷ us) = All-contains_itself (t ∷ us) in
    of_term (Contains (t ∷ us)) o n t us (All-head (Contains (t ∷ us)) t us every) (All-tail (Contains (t ∷ us)) t us every)
