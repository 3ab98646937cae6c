-- Each part that truths and bounds don't leave open has the value that its operator makes.
use Rattle.std.proofs.Common.{◌≡◌, inl, inr, ℕ, true, false, List, [], ◌∷◌, map, length, All, refl, sym, ap, subst, ◌∙◌, arith}
use Rattle.std.specs.Prelude.{IsTrue, nat_lt}
use Rattle.std.proofs.lemmas.Bool.Decides.{nat_tests}
use Rattle.std.proofs.lemmas.List.Elements.{All-nil, All-cons, All-head, All-tail}
use Rattle.smt_meaning.specs.declared.values.Sort.{Sort}
use Rattle.smt_meaning.specs.declared.values.Sort.TheVariants.{Bool as Truths, Int as Ints, Free}
use Rattle.smt_meaning.specs.declared.terms.Operator.{Operator}
use Rattle.smt_meaning.specs.declared.terms.Operator.TheVariants.{True, False, Not, And, Or, Xor, Implies, Equal, Distinct, Ite, Add, Subtract, Multiply, AtMost, Less, AtLeast, Greater, Divide, Modulo, Absolute, Divisible}
use Rattle.smt_meaning.specs.declared.terms.Head.TheVariants.{Theory}
use Rattle.smt_meaning.specs.Signature.{stands_with, operator_sort, if_so, all_of}
use Rattle.search_port.specs.State.{IsMadeTrue}
use Rattle.bound_clauses.specs.Laws.{orders}
use Rattle.clause_form.specs.ForcedClausesLaws.{fits_clauses}
use Rattle.check_atoms.specs.Parts.{IsMarked}
use Rattle.check_atoms.specs.AssertedDistinct.{IsAssertedDistinct}
use Rattle.check_atoms.specs.Laws.{PartsHaveNumbers}
use Rattle.check_atoms.specs.OfStack.{IsNode}
use Rattle.order_clauses.specs.Clauses.{sort_at, by_sort, of_ints, order_part, equality_part, choice_part, part_clauses_of}
use Rattle.order_clauses.specs.Decided.{NumbersAreFound, OrderPartIsDecided, EqualityPartIsDecided, ChoicePartIsDecided, DivisionPartIsDecided}
use Rattle.first_clauses.specs.CheckClausesFirst.{AreBools}
use Rattle.exact_model.specs.Operators.{HasValueOf}
use Rattle.exact_model.specs.Fitting.{is_free, is_open, OperatorsAreDecided}
use Rattle.exact_model.proofs.FullLogs.{Case, ts, first}
use Rattle.exact_model.proofs.BoolParts.{bools_have}
use Rattle.exact_model.proofs.OrderParts.{order_has}
use Rattle.exact_model.proofs.EqualityParts.{equal_has, distinct_has, choice_has}
use Rattle.exact_model.proofs.DivisionParts.{quotient_has, remainder_has, absolute_has, divisible_has, arithmetic_has}
use Rattle.exact_model.proofs.PartSorts.{all_listed, HasListed, arguments_marked, stands_here, tested_sort, asked_sort, ChoosesSorts, choice_sorts}

-- ---- how many arguments there are

not_fits : (is : List ℕ) → stands_with Not (length is) ≡ true → fits_clauses Not is ≡ true
not_fits [] h = absurd cc
not_fits (i ∷ []) h = refl
not_fits (i ∷ j ∷ is) h = absurd (grind (arith, nat_tests))

one_fits : (o : Operator) (is : List ℕ) → stands_with And (length is) ≡ true → ((i : ℕ) (js : List ℕ) → fits_clauses o (i ∷ js) ≡ true) → fits_clauses o is ≡ true
one_fits o [] h f = absurd cc
one_fits o (i ∷ is) h f = f i is

two_fits : (o : Operator) (is : List ℕ) → stands_with Equal (length is) ≡ true → ((i j : ℕ) (js : List ℕ) → fits_clauses o (i ∷ j ∷ js) ≡ true) → fits_clauses o is ≡ true
two_fits o [] h f = absurd cc
two_fits o (i ∷ []) h f = absurd cc
two_fits o (i ∷ j ∷ is) h f = f i j is

xor_fits : (is : List ℕ) → stands_with Xor (length is) ≡ true → nat_lt 3 (length is) ≡ false → fits_clauses Xor is ≡ true
xor_fits [] h few = absurd cc
xor_fits (i ∷ []) h few = absurd cc
xor_fits (i ∷ j ∷ []) h few = refl
xor_fits (i ∷ j ∷ k ∷ []) h few = refl
xor_fits (i ∷ j ∷ k ∷ l ∷ is) h few = absurd (grind (arith, nat_tests))

module _ (c : Case) (ordered : OrderPartIsDecided) (equated : EqualityPartIsDecided) (chosen : ChoicePartIsDecided) (divided : DivisionPartIsDecided) where
  abbrev IsBoolAt : ℕ → Type 0
  IsBoolAt i = sort_at c.fitting.check.sorts i ≡ Truths

  -- ---- parts that aren't all of Bools

  made : (p : ℕ) (o : Operator) (is : List ℕ) → IsMarked c.marks p → IsNode (ts c) p (Theory o) is → (AreBools c.fitting.check.sorts (p ∷ is) → ⊥) → (IsAssertedDistinct c.stack p (Theory o) is → ⊥)
      → All (IsMadeTrue c.fitting.log) (part_clauses_of c.fitting.check.sorts (ts c) (first c) o p is)
  made p o is m n no_bools other = elim ((c.fitting.check.decided.holds p o is m n).of_others no_bools) [ inl asserted ↦ absurd (other asserted) | inr all ↦ all ]

  int_here : (p : ℕ) (is : List ℕ) → sort_at c.fitting.check.sorts p ≡ Ints → AreBools c.fitting.check.sorts (p ∷ is) → ⊥
  int_here p is e h = let k : Ints ≡ Truths = sym e ∙ All-head IsBoolAt p is h in cc

  int_first : (p i : ℕ) (is : List ℕ) → sort_at c.fitting.check.sorts i ≡ Ints → AreBools c.fitting.check.sorts (p ∷ i ∷ is) → ⊥
  int_first p i is e h = let k : Ints ≡ Truths = sym e ∙ All-head IsBoolAt i is (All-tail IsBoolAt p (i ∷ is) h) in cc

  module _ (p : ℕ) (m : IsMarked c.marks p) where
    -- of Bools
    of_bools : (o : Operator) (is : List ℕ) → IsNode (ts c) p (Theory o) is → operator_sort o (map (sort_at c.fitting.check.sorts) is) ≡ if_so (all_of Truths (map (sort_at c.fitting.check.sorts) is)) Truths → fits_clauses o is ≡ true
        → HasValueOf (ts c) c.values p o is
    of_bools o is n says fits =
        let so = asked_sort c p o is m n Truths Truths says in bools_have c p o is m (arguments_marked c p o is m n) n (All-cons IsBoolAt p is so.1 so.0) fits

    constant : (o : Operator) (is : List ℕ) → IsNode (ts c) p (Theory o) is → stands_with True (length is) ≡ true → operator_sort o (map (sort_at c.fitting.check.sorts) is) ≡ if_so true Truths → fits_clauses o is ≡ true
        → HasValueOf (ts c) c.values p o is
    constant o [] n h says fits =
        let so = tested_sort c p o [] m n true Truths says in bools_have c p o [] m (All-nil (IsMarked c.marks)) n (All-cons IsBoolAt p [] so.1 (All-nil IsBoolAt)) fits
    constant o (i ∷ is) n h says fits = absurd (grind (arith, nat_tests))

    -- comparisons
    of_order : (o : Operator) (is : List ℕ) → IsNode (ts c) p (Theory o) is → IsTrue (orders o) → operator_sort o (map (sort_at c.fitting.check.sorts) is) ≡ if_so (all_of Ints (map (sort_at c.fitting.check.sorts) is)) Truths
        → stands_with Equal (length is) ≡ true → part_clauses_of c.fitting.check.sorts (ts c) (first c) o p is ≡ order_part (ts c) (first c) o p is → (IsAssertedDistinct c.stack p (Theory o) is → ⊥)
        → HasValueOf (ts c) c.values p o is
    of_order o [] n h says few part other = absurd cc
    of_order o (i ∷ is) n h says few part other =
        let so = asked_sort c p o (i ∷ is) m n Ints Truths says in
        order_has c ordered p o (i ∷ is) h m n so.1 (subst (All (IsMadeTrue c.fitting.log)) part (made p o (i ∷ is) m n (int_first p i is (All-head (HasListed c Ints) i is so.0)) other))

    -- equalities
    of_one_sort : (o : Operator) (i : ℕ) (is : List ℕ) → IsNode (ts c) p (Theory o) (i ∷ is)
        → operator_sort o (map (sort_at c.fitting.check.sorts) (i ∷ is)) ≡ if_so (all_of (sort_at c.fitting.check.sorts i) (map (sort_at c.fitting.check.sorts) is)) Truths → All (HasListed c (sort_at c.fitting.check.sorts i)) (i ∷ is) × IsBoolAt p
    of_one_sort o i is n says =
        let r : Sort = sort_at c.fitting.check.sorts i in
        let so = tested_sort c p o (i ∷ is) m n (all_of r (map (sort_at c.fitting.check.sorts) is)) Truths says in
        (All-cons (HasListed c r) i is refl (all_listed (sort_at c.fitting.check.sorts) r is so.0), so.1)

    of_equal : (is : List ℕ) → IsNode (ts c) p (Theory Equal) is → is_open c.fitting.check.sorts Equal p is ≡ false → (IsAssertedDistinct c.stack p (Theory Equal) is → ⊥) → HasValueOf (ts c) c.values p Equal is
    of_equal [] n closed other = absurd (let e = stands_here c p Equal [] m n in cc)
    of_equal (i ∷ is) n closed other = by (sort_at c.fitting.check.sorts i) refl
      where
        marked : All (IsMarked c.marks) (i ∷ is)
        marked = arguments_marked c p Equal (i ∷ is) m n

        so : All (HasListed c (sort_at c.fitting.check.sorts i)) (i ∷ is) × IsBoolAt p
        so = of_one_sort Equal i is n refl

        by : (r : Sort) → sort_at c.fitting.check.sorts i ≡ r → HasValueOf (ts c) c.values p Equal (i ∷ is)
        by Truths e =
            bools_have c p Equal (i ∷ is) m marked n (All-cons IsBoolAt p (i ∷ is) so.1 (subst (λ r. All (HasListed c r) (i ∷ is)) e so.0))
            (two_fits Equal (i ∷ is) (stands_here c p Equal (i ∷ is) m n) (λ j k js. refl))
        by Ints e =
            equal_has c (i ∷ is) marked (subst (λ r. All (HasListed c r) (i ∷ is)) e so.0) equated p m n so.1
            (subst (λ (r : Sort). All (IsMadeTrue c.fitting.log) (by_sort r (length (i ∷ is)) (λ int. equality_part (ts c) (first c) int Equal p (i ∷ is)))) e (made p Equal (i ∷ is) m n (int_first p i is e) other))
        by (Free a) e = absurd (let k : is_free (Free a) ≡ false = ap is_free (sym e) ∙ closed in cc)

    of_distinct : (is : List ℕ) → IsNode (ts c) p (Theory Distinct) is → is_open c.fitting.check.sorts Distinct p is ≡ false → (IsAssertedDistinct c.stack p (Theory Distinct) is → ⊥)
        → HasValueOf (ts c) c.values p Distinct is
    of_distinct [] n closed other = absurd (let e = stands_here c p Distinct [] m n in cc)
    of_distinct (i ∷ is) n closed other = by (sort_at c.fitting.check.sorts i) refl
      where
        marked : All (IsMarked c.marks) (i ∷ is)
        marked = arguments_marked c p Distinct (i ∷ is) m n

        so : All (HasListed c (sort_at c.fitting.check.sorts i)) (i ∷ is) × IsBoolAt p
        so = of_one_sort Distinct i is n refl

        by : (r : Sort) → sort_at c.fitting.check.sorts i ≡ r → HasValueOf (ts c) c.values p Distinct (i ∷ is)
        by Truths e =
            bools_have c p Distinct (i ∷ is) m marked n (All-cons IsBoolAt p (i ∷ is) so.1 (subst (λ r. All (HasListed c r) (i ∷ is)) e so.0))
            (two_fits Distinct (i ∷ is) (stands_here c p Distinct (i ∷ is) m n) (λ j k js. refl))
        by Ints e =
            distinct_has c (i ∷ is) marked (subst (λ r. All (HasListed c r) (i ∷ is)) e so.0) equated p m n so.1 other
            (subst (λ (r : Sort). All (IsMadeTrue c.fitting.log) (by_sort r (length (i ∷ is)) (λ int. equality_part (ts c) (first c) int Distinct p (i ∷ is)))) e (made p Distinct (i ∷ is) m n (int_first p i is e) other))
        by (Free a) e = absurd (let k : is_free (Free a) ≡ false = ap is_free (sym e) ∙ closed in cc)

    -- choices
    of_choice : (is : List ℕ) → IsNode (ts c) p (Theory Ite) is → is_open c.fitting.check.sorts Ite p is ≡ false → (IsAssertedDistinct c.stack p (Theory Ite) is → ⊥) → stands_with Ite (length is) ≡ true
        → HasValueOf (ts c) c.values p Ite is
    of_choice [] n closed other h = absurd cc
    of_choice (k ∷ []) n closed other h = absurd cc
    of_choice (k ∷ i ∷ []) n closed other h = absurd cc
    of_choice (k ∷ i ∷ j ∷ []) n closed other h = by (sort_at c.fitting.check.sorts p) refl
      where
        so : ChoosesSorts c p k i j
        so = choice_sorts c p k i j m n

        by : (r : Sort) → sort_at c.fitting.check.sorts p ≡ r → HasValueOf (ts c) c.values p Ite (k ∷ i ∷ j ∷ [])
        by Truths e =
            bools_have c p Ite (k ∷ i ∷ j ∷ []) m (arguments_marked c p Ite (k ∷ i ∷ j ∷ []) m n) n
            (All-cons IsBoolAt p (k ∷ i ∷ j ∷ []) e
            (All-cons IsBoolAt k (i ∷ j ∷ []) so.condition (All-cons IsBoolAt i (j ∷ []) (so.first ∙ e) (All-cons IsBoolAt j [] (so.second ∙ e) (All-nil IsBoolAt))))) refl
        by Ints e =
            choice_has c chosen p k i j m n e
            (subst (λ (r : Sort). All (IsMadeTrue c.fitting.log) (of_ints r (choice_part (ts c) (first c) p k i j))) e (made p Ite (k ∷ i ∷ j ∷ []) m n (int_here p (k ∷ i ∷ j ∷ []) e) other))
        by (Free a) e = absurd (let x : is_free (Free a) ≡ false = ap is_free (sym e) ∙ closed in cc)
    of_choice (k ∷ i ∷ j ∷ l ∷ is) n closed other h = absurd (grind (arith, nat_tests))

    -- the sort of a term that asks Ints
    int_own : (o : Operator) (is : List ℕ) → IsNode (ts c) p (Theory o) is → (q : Sort) → operator_sort o (map (sort_at c.fitting.check.sorts) is) ≡ if_so (all_of Ints (map (sort_at c.fitting.check.sorts) is)) q
        → All (HasListed c Ints) is × (sort_at c.fitting.check.sorts p ≡ q)
    int_own o is n q says = asked_sort c p o is m n Ints q says

    divisible : (is : List ℕ) → IsNode (ts c) p (Theory Divisible) is → (IsAssertedDistinct c.stack p (Theory Divisible) is → ⊥) → HasValueOf (ts c) c.values p Divisible is
    divisible [] n other = absurd (let e = stands_here c p Divisible [] m n in cc)
    divisible (i ∷ is) n other =
        let so = int_own Divisible (i ∷ is) n Truths refl in
        divisible_has c divided p (i ∷ is) m n so.1 (made p Divisible (i ∷ is) m n (int_first p i is (All-head (HasListed c Ints) i is so.0)) other)

    pub part_has : (o : Operator) (is : List ℕ) → IsNode (ts c) p (Theory o) is → is_open c.fitting.check.sorts o p is ≡ false → (IsAssertedDistinct c.stack p (Theory o) is → ⊥) → HasValueOf (ts c) c.values p o is
    part_has True is n closed other = constant True is n (stands_here c p True is m n) refl refl
    part_has False is n closed other = constant False is n (stands_here c p False is m n) refl refl
    part_has Not is n closed other = of_bools Not is n refl (not_fits is (stands_here c p Not is m n))
    part_has And is n closed other = of_bools And is n refl (one_fits And is (stands_here c p And is m n) (λ i js. refl))
    part_has Or is n closed other = of_bools Or is n refl (one_fits Or is (stands_here c p Or is m n) (λ i js. refl))
    part_has Xor is n closed other = of_bools Xor is n refl (xor_fits is (stands_here c p Xor is m n) closed)
    part_has Implies is n closed other = of_bools Implies is n refl (two_fits Implies is (stands_here c p Implies is m n) (λ i j js. refl))
    part_has Equal is n closed other = of_equal is n closed other
    part_has Distinct is n closed other = of_distinct is n closed other
    part_has Ite is n closed other = of_choice is n closed other (stands_here c p Ite is m n)
    part_has Add is n closed other = arithmetic_has c p Add is refl m n (int_own Add is n Ints refl).0
    part_has Subtract is n closed other = arithmetic_has c p Subtract is refl m n (int_own Subtract is n Ints refl).0
    part_has Multiply is n closed other = arithmetic_has c p Multiply is refl m n (int_own Multiply is n Ints refl).0
    part_has AtMost is n closed other = of_order AtMost is n refl refl (stands_here c p AtMost is m n) refl other
    part_has Less is n closed other = of_order Less is n refl refl (stands_here c p Less is m n) refl other
    part_has AtLeast is n closed other = of_order AtLeast is n refl refl (stands_here c p AtLeast is m n) refl other
    part_has Greater is n closed other = of_order Greater is n refl refl (stands_here c p Greater is m n) refl other
    part_has Divide is n closed other =
        let own = (int_own Divide is n Ints refl).1 in quotient_has c divided p is m n own (made p Divide is m n (int_here p is own) other)
    part_has Modulo is n closed other =
        let own = (int_own Modulo is n Ints refl).1 in remainder_has c divided p is m n own (made p Modulo is m n (int_here p is own) other)
    part_has Absolute is n closed other =
        let own = (int_own Absolute is n Ints refl).1 in absolute_has c divided p is m n own (made p Absolute is m n (int_here p is own) other)
    part_has Divisible is n closed other = divisible is n other

pub operators_decided : NumbersAreFound → PartsHaveNumbers → OrderPartIsDecided → EqualityPartIsDecided → ChoicePartIsDecided → DivisionPartIsDecided → OperatorsAreDecided
operators_decided found numbers ordered equated chosen divided s marks known vs lawful listed fitting p o is m n closed other =
    let c : Case = record { stack = s; marks = marks; known = known; values = vs; lawful = lawful; listed = listed; fitting = fitting; numbers = numbers; found = found } in
    part_has c ordered equated chosen divided p m o is n closed other
