-- Ints in the order of the numbers that they are given: those of one number stand together, so that each two of them are compared.
use Rattle.std.proofs.Common.{◌≡◌, ◌∙◌, ℕ, zero, suc, ◌+◌, ◌-◌, ◌<◌, ◌≤◌, inr, Bool, true, false, List, [], ◌∷◌, ◌++◌, length, get_or, below_more, refl, sym, ap, subst, arith}
use Rattle.std.specs.Prelude.{All, Contains, Option, None, Some, IfNone, nat_lt, slice_index_or, ℤ, pos, ◌≤ℤ◌}
use Rattle.std.specs.List.Sorted.{IsSorted, IsPermutation}
use Rattle.std.specs.declared.cmp.Ordering.{Ordering}
use Rattle.std.specs.Ordering.{is_lt, ordering_then, nat_cmp, int_cmp}
use Rattle.std.proofs.lemmas.Bool.Decides.{nat_tests}
use Rattle.std.proofs.lemmas.Int.{ints}
use Rattle.std.proofs.lemmas.List.{get_or_default}
use Rattle.std.proofs.lemmas.List.Elements.{All-nil, All-push, Contains-append_left, Contains-push}
use Rattle.std.proofs.lemmas.List.Sorted.{All-permutation, Contains-permutation}
use Rattle.smt_meaning.specs.Term.{int_eq}
use Rattle.smt_laws.proofs.SameValue.{int_eq-self, int_eq-true}
use Rattle.model_build.specs.declared.given.Given.{Given}
use Rattle.theory_combine.specs.declared.distincts.IntArgument.{IntArgument}
use Rattle.theory_combine.specs.declared.parts.Parts.{Parts}
use Rattle.theory_combine.specs.declared.parts.Progress.{Progress}
use Rattle.theory_combine.specs.Pairs.{IsFit}
use Rattle.theory_combine.specs.Settling.{AreTellable}
use Rattle.theory_combine.specs.ByValue.{number_given, int_argument, argument_cmp, argument_at, AreIntsAmong, AreTellableAt, AreTellableBefore}

pub none_then : {A : Type 0} (P Q : Type 0) (o : Option A) → (P → Q) → IfNone o P → IfNone o Q
none_then P Q None f h = f h
none_then P Q (Some x) f h = tt

-- ---- what is listed

module _ (p : Parts) (gs : List Given) (is : List ℕ) where
  pub none_yet : AreIntsAmong p gs is 0 []
  none_yet = record { within = All-nil (λ (x : IntArgument). x.number < length is); each = λ j less. absurd (omega (arith, less)) }

  pub passed : (n : ℕ) (xs : List IntArgument) → (IsFit p.stack.now p.marks.items (slice_index_or is n 0) → ⊥) → AreIntsAmong p gs is n xs → AreIntsAmong p gs is (n + 1) xs
  passed n xs unfit h = record {
    within = h.within;
    each = below_more (λ j. IsFit p.stack.now p.marks.items (slice_index_or is j 0) → Contains xs (int_argument gs is j)) n h.each (λ fit. absurd (unfit fit));
  }

  pub taken : (n : ℕ) (xs : List IntArgument) → n < length is → AreIntsAmong p gs is n xs → AreIntsAmong p gs is (n + 1) (xs ++ int_argument gs is n ∷ [])
  taken n xs less h = record {
    within = All-push (λ (x : IntArgument). x.number < length is) xs (int_argument gs is n) h.within less;
    each =
        below_more (λ j. IsFit p.stack.now p.marks.items (slice_index_or is j 0) → Contains (xs ++ int_argument gs is n ∷ []) (int_argument gs is j)) n
        (λ j before fit. Contains-append_left xs (int_argument gs is n ∷ []) (int_argument gs is j) (h.each j before fit)) (λ fit. Contains-push xs (int_argument gs is n));
  }

  pub fewer : (m n : ℕ) (xs : List IntArgument) → m ≤ n → AreIntsAmong p gs is n xs → AreIntsAmong p gs is m xs
  fewer m n xs less h = record { within = h.within; each = λ j before. h.each j (omega (arith, before, less)) }

  pub moved : (n : ℕ) (xs ys : List IntArgument) → IsPermutation xs ys → AreIntsAmong p gs is n xs → AreIntsAmong p gs is n ys
  moved n xs ys h among = record {
    within = All-permutation (λ (x : IntArgument). x.number < length is) xs ys h among.within;
    each = λ j before fit. Contains-permutation xs ys (int_argument gs is j) h (among.each j before fit);
  }

-- ---- their order

record Up (x y : IntArgument) : Type 0 where
  value : x.value ≤ℤ y.value
  number : x.value ≡ y.value → x.number ≤ y.number

up_by_value : (j k : ℤ) (o : Ordering) → is_lt (ordering_then (int_cmp k j) o) ≡ false → j ≤ℤ k
up_by_value j k o h = grind (arith, ints)

up_by_number : (j k : ℤ) (m n : ℕ) → j ≡ k → is_lt (ordering_then (int_cmp k j) (nat_cmp n m)) ≡ false → m ≤ n
up_by_number j k m n same h = grind (arith, ints, nat_tests)

up_of : (x y : IntArgument) → is_lt (argument_cmp y x) ≡ false → Up x y
up_of x y h = record { value = up_by_value x.value y.value _ h; number = λ e. up_by_number x.value y.value x.number y.number e h }

at_most_self : (k : ℤ) → k ≤ℤ k
at_most_self k = grind (arith, ints)

up_self : (x : IntArgument) → Up x x
up_self x = record { value = at_most_self x.value; number = λ e. omega arith }

at_most_then : (j k l : ℤ) → j ≤ℤ k → k ≤ℤ l → j ≤ℤ l
at_most_then j k l a b = grind (arith, ints)

-- a number between two equal ones
between : (j k l : ℤ) → j ≤ℤ k → k ≤ℤ l → j ≡ l → j ≡ k
between j k l a b e = omega (arith, ints)

up_then : (x y z : IntArgument) → Up x y → Up y z → Up x z
up_then x y z a b = record {
  value = at_most_then x.value y.value z.value a.value b.value;
  number = λ e.
      let first : x.value ≡ y.value = between x.value y.value z.value a.value b.value e in
      omega (arith, a.number first, b.number (sym first ∙ e));
}

module _ (xs : List IntArgument) (sorted : IsSorted argument_cmp xs) where
  far : (a m : ℕ) → a + m < length xs → Up (argument_at xs a) (argument_at xs (a + m))
  far a zero less = let same : a ≡ a + zero = omega arith in subst (λ k. Up (argument_at xs a) (argument_at xs k)) same (up_self (argument_at xs a))
  far a (suc m) less =
      let on : a + m + 1 ≡ a + suc m = omega arith in
      subst (λ k. Up (argument_at xs a) (argument_at xs k)) on
      (up_then (argument_at xs a) (argument_at xs (a + m)) (argument_at xs (a + m + 1)) (far a m (omega (arith, less)))
      (up_of (argument_at xs (a + m)) (argument_at xs (a + m + 1)) (sorted (a + m) (record { value = pos 0; number = 0 }) (omega arith) (omega (arith, less)))))

  in_order : (a b : ℕ) → a ≤ b → b < length xs → Up (argument_at xs a) (argument_at xs b)
  in_order a b le less = let at : a + (b - a) ≡ b = omega (arith, le) in subst (λ k. Up (argument_at xs a) (argument_at xs k)) at (far a (b - a) (omega (arith, le, less)))

  -- where one before has another number, so has each before that
  pub apart_before : (e b : ℕ) → e < b → b < length xs → ((argument_at xs e).value ≡ (argument_at xs b).value → ⊥) → (a : ℕ) → a ≤ e → (argument_at xs a).value ≡ (argument_at xs b).value → ⊥
  apart_before e b less within differ a le same =
      let x = argument_at xs a in
      let y = argument_at xs e in
      let z = argument_at xs b in
      let first = in_order a e le (omega (arith, less, within)) in
      let second = in_order e b (omega (arith, less)) within in
      differ (sym (between x.value y.value z.value first.value second.value same) ∙ same)

-- ---- each two

module _ (p : Parts) (w : Progress) (gs : List Given) (is : List ℕ) (xs : List IntArgument) (sorted : IsSorted argument_cmp xs) where
  -- those back to a place are tellable, and where there the number is another, all are
  pub tellable_before : (b back : ℕ) → back < b → b < length xs → ((argument_at xs (b - 1 - back)).value ≡ (argument_at xs b).value → ⊥)
      → ((a : ℕ) → b - back ≤ a → a < b → AreTellableAt p w gs is (argument_at xs a) (argument_at xs b)) → AreTellableBefore p w gs is xs b
  tellable_before b back less within differ before a below same = by (nat_lt a (b - back)) refl
    where
      by : (t : Bool) → nat_lt a (b - back) ≡ t → AreTellable p w gs (slice_index_or is (argument_at xs a).number 0) (slice_index_or is (argument_at xs b).number 0)
      by true e = absurd (apart_before xs sorted (b - 1 - back) b (omega (arith, less)) within differ a (grind (arith, nat_tests)) same)
      by false e = before a (grind (arith, nat_tests)) below same

  pub one_more_back : (b back : ℕ) → back < b → AreTellableAt p w gs is (argument_at xs (b - 1 - back)) (argument_at xs b) → ((a : ℕ) → b - back ≤ a → a < b → AreTellableAt p w gs is (argument_at xs a) (argument_at xs b))
      → (a : ℕ) → b - (back + 1) ≤ a → a < b → AreTellableAt p w gs is (argument_at xs a) (argument_at xs b)
  one_more_back b back less one before a from below = by (nat_lt a (b - back)) refl
    where
      by : (t : Bool) → nat_lt a (b - back) ≡ t → AreTellableAt p w gs is (argument_at xs a) (argument_at xs b)
      by true e = let same : b - 1 - back ≡ a = grind (arith, nat_tests) in subst (λ k. AreTellableAt p w gs is (argument_at xs k) (argument_at xs b)) same one
      by false e = before a (grind (arith, nat_tests)) below

  -- arguments of which each two that are given one number were compared are tellable
  pub all_tellable : AreIntsAmong p gs is (length is) xs → ((b : ℕ) → b < length xs → AreTellableBefore p w gs is xs b) → (j k : ℕ) → j < k → k < length is → AreTellable p w gs (slice_index_or is j 0) (slice_index_or is k 0)
  all_tellable among tellable j k less within left right = by (int_eq x.value y.value) refl left right
    where
      x : IntArgument
      x = int_argument gs is j

      y : IntArgument
      y = int_argument gs is k

      cx : Contains xs x
      cx = among.each j (omega (arith, less, within)) left

      cy : Contains xs y
      cy = among.each k within right

      x_there : argument_at xs cx.0 ≡ x
      x_there = get_or_default xs cx.0 _ x cx.1 ∙ cx.2

      y_there : argument_at xs cy.0 ≡ y
      y_there = get_or_default xs cy.0 _ y cy.1 ∙ cy.2

      by_order : x.value ≡ y.value → (t : Bool) → nat_lt cx.0 cy.0 ≡ t → AreTellable p w gs (slice_index_or is j 0) (slice_index_or is k 0)
      by_order same true e =
          let there : AreTellableAt p w gs is x y =
          subst (λ z. AreTellableAt p w gs is x z) y_there (subst (λ z. AreTellableAt p w gs is z (argument_at xs cy.0)) x_there (tellable cy.0 cy.1 cx.0 (grind (arith, nat_tests)))) in
          there same
      by_order same false e =
          let up : Up y x = subst (λ z. Up y z) x_there (subst (λ z. Up z (argument_at xs cx.0)) y_there (in_order xs sorted cy.0 cx.0 (grind (arith, nat_tests)) cx.1)) in
          let turned : k ≤ j = up.number (sym same) in
          absurd (omega (arith, turned, less))

      by : (t : Bool) → int_eq x.value y.value ≡ t → AreTellable p w gs (slice_index_or is j 0) (slice_index_or is k 0)
      by true e = by_order (int_eq-true x.value y.value e) (nat_lt cx.0 cy.0) refl
      by false e = λ one other. inr (λ same.
          let equal : x.value ≡ y.value = ap number_given same in
          let told : int_eq x.value y.value ≡ true = ap (int_eq x.value) (sym equal) ∙ int_eq-self x.value in
          cc)
