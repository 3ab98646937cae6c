-- An asserted wide `distinct` is true of the exact values, in a settled check.
use Rattle.std.proofs.Common.{◌≡◌, ℕ, suc, ◌<◌, Bool, true, false, not, List, [], ◌∷◌, map, length, All, Contains, Some, refl, sym, ap, subst, ◌∙◌, arith}
use Rattle.std.specs.Prelude.{ℤ, slice_index_or}
use Rattle.std.proofs.lemmas.List.Elements.{All-head, All-contains}
use Rattle.smt_meaning.specs.declared.values.Value.{Value}
use Rattle.smt_meaning.specs.declared.values.Value.TheVariants.{Truth, Whole}
use Rattle.smt_meaning.specs.declared.values.Sort.{Sort}
use Rattle.smt_meaning.specs.declared.values.Sort.TheVariants.{Bool as Truths, Int as Ints, Free}
use Rattle.smt_meaning.specs.declared.terms.Operator.TheVariants.{Distinct}
use Rattle.smt_meaning.specs.declared.terms.Head.TheVariants.{Theory}
use Rattle.smt_meaning.specs.declared.clauses.Atom.{Atom}
use Rattle.smt_meaning.specs.declared.clauses.Atom.TheVariants.{Truth as TruthAtom}
use Rattle.atom_form.specs.AtomTableNumbers.{IsAt}
use Rattle.smt_meaning.specs.Clause.{atom_places}
use Rattle.smt_meaning.specs.Term.{tree_at, truth_of, number_of, int_eq, differ, with_each, pairwise, operate}
use Rattle.smt_meaning.specs.Stack.{assertions_of}
use Rattle.smt_laws.proofs.Both.{and_both}
use Rattle.smt_laws.proofs.SameValue.{int_eq-true}
use Rattle.equality_clauses.specs.Ties.{yes}
use Rattle.bound_clauses.specs.Laws.{IsNumber}
use Rattle.check_atoms.specs.Parts.{IsMarked}
use Rattle.check_atoms.specs.AssertedDistinct.{IsAssertedDistinct}
use Rattle.check_atoms.specs.OfStack.{IsNode}
use Rattle.order_clauses.specs.Clauses.{truth_number}
use Rattle.order_clauses.specs.Decided.{IsGiven}
use Rattle.first_clauses.specs.Holding.{IsAssertionTold}
use Rattle.closure_log.specs.Distinct.{KeepsDistinct}
use Rattle.closure_log.specs.ByClass.{DistinctsAreByClass}
use Rattle.closure_log.specs.Whole.{Gives}
use Rattle.closure_log.proofs.ByClasses.{still_at}
use Rattle.exact_model.specs.Operators.{HasValueOf}
use Rattle.exact_model.proofs.Comparing.{number_at_place}
use Rattle.exact_model.proofs.FullLogs.{atoms, within, sort_there, truth_listed, truth_given, number_exact}
use Rattle.exact_model.proofs.PartSorts.{HasListed, arguments_marked}
use Rattle.theory_combine.specs.Pairs.{IsFit}
use Rattle.theory_combine.specs.Settling.{KeepsInts}
use Rattle.theory_combine.proofs.SettledCase.{SettledCase, stack, marks, table, log, check, first, full, v, sort, over, is_numbered, element_exact}

-- ---- values that differ, each two

module _ (f : ℕ → Value) where
  abbrev Differ : ℕ → ℕ → Type 0
  Differ i j = differ (f i) (f j) ≡ true

  each_differs : (i : ℕ) (is : List ℕ) → ((k : ℕ) → k < length is → Differ i (slice_index_or is k 0)) → with_each differ (f i) (map f is) ≡ true
  each_differs i [] h = refl
  each_differs i (j ∷ js) h =
      and_both (differ (f i) (f j)) (with_each differ (f i) (map f js)) (h 0 (omega arith)) (each_differs i js (λ k less. h (suc k) (omega arith)))

  all_differ : (is : List ℕ) → ((j k : ℕ) → j < k → k < length is → Differ (slice_index_or is j 0) (slice_index_or is k 0)) → pairwise differ (map f is) ≡ true
  all_differ [] h = refl
  all_differ (i ∷ is) h =
      and_both (with_each differ (f i) (map f is)) (pairwise differ (map f is)) (each_differs i is (λ k less. h 0 (suc k) (omega arith) (omega arith)))
      (all_differ is (λ j k before less. h (suc j) (suc k) (omega arith) (omega arith)))

other_numbers : (m n : ℤ) → (m ≡ n → ⊥) → not (int_eq m n) ≡ true
other_numbers m n h = by (int_eq m n) refl
  where
    by : (b : Bool) → int_eq m n ≡ b → not b ≡ true
    by true e = absurd (h (int_eq-true m n e))
    by false e = refl

numbers_differ : (x y : Value) → IsNumber x → IsNumber y → (number_of x ≡ number_of y → ⊥) → differ x y ≡ true
numbers_differ x y a b h =
    ap (λ w. differ w y) a ∙ ap (differ (Whole (number_of x))) b ∙ other_numbers (number_of x) (number_of y) h

module _ (k : SettledCase) (p : ℕ) (is : List ℕ) (m : IsMarked (marks k) p) (n : IsNode (stack k).trees p (Theory Distinct) is) (own : sort k p ≡ Truths) (a : IsAssertedDistinct (stack k) p (Theory Distinct) is) where
  -- ---- the log tells that it is true

  said : IsAssertionTold (stack k).trees (first k) (log k) (tree_at (stack k).trees p)
  said = All-contains (IsAssertionTold (stack k).trees (first k) (log k)) (assertions_of (stack k).frames) (tree_at (stack k).trees p) (check k).decided.asserted a.asserted

  -- a numbered truth is of a part
  told_marked : IsMarked (marks k) said.place
  told_marked =
      All-head (IsMarked (marks k)) said.place []
      (subst (λ (b : Atom). All (IsMarked (marks k)) (atom_places b)) (said.at.1 (TruthAtom 0)) ((atoms (full k)).over_parts said.number (TruthAtom 0) said.at.0))

  same_place : said.place ≡ p
  same_place = k.lawful.in_order.different said.place p (within (full k) said.place told_marked) n.within said.term

  at_here : IsAt (table k) said.number (TruthAtom p)
  at_here =
      subst (λ q. IsAt (table k) said.number (TruthAtom q)) same_place (still_at (first k) (table k) (check k).decided.more said.number (TruthAtom said.place) (check k).decided.table_is said.at)

  is_true : v k p ≡ Truth true
  is_true = truth_listed (full k) p m own ∙ k.settled.values.truths (yes said.number) p said.told at_here

  gives : Gives (table k) (log k) (TruthAtom p) true
  gives = record { number = said.number; at = at_here; told = said.told }

  given : IsGiven (log k) (truth_number (first k) p) true
  given = subst (λ b. IsGiven (log k) (truth_number (first k) p) b) (ap truth_of is_true) (truth_given (full k) p m own)

  -- ---- and its arguments differ

  abbrev DifferHere : Type 0
  DifferHere = truth_of (operate Distinct (map (v k) is)) ≡ true

  made_true : DifferHere → HasValueOf (stack k).trees k.values p Distinct is
  made_true h = is_true ∙ ap Truth (sym h)

  listed_here : Contains k.parts.wide_distincts.items p
  listed_here = k.settled.listed p is n a

  marked : All (IsMarked (marks k)) is
  marked = arguments_marked (full k) p Distinct is m n

  elements_differ : DistinctsAreByClass → (q : ℕ) → All (HasListed (full k) (Free q)) is → DifferHere
  elements_differ law q listed =
      law (stack k) (first k) (table k) (log k) k.closure (v k) p is (over k)
      (All-contains (KeepsDistinct (stack k).trees (table k) (log k) k.closure) k.parts.wide_distincts.items p k.settled.parts.apart listed_here)
      n (is_numbered k p m own) given (λ j d l. element_exact k _ q (marked j d l) (listed j d l))

  ints_differ : All (HasListed (full k) Ints) is → DifferHere
  ints_differ listed = all_differ (v k) is two_differ
    where
      fit : (j : ℕ) → j < length is → IsFit (stack k) (marks k) (slice_index_or is j 0)
      fit j less =
          let here : IsMarked (marks k) (slice_index_or is j 0) = marked j 0 less in
          record {
            within = within (full k) (slice_index_or is j 0) here;
            marked = here;
            is_int = sort_there (full k) (slice_index_or is j 0) here ∙ ap Some (listed j 0 less);
            readable = k.are_parts.1 (slice_index_or is j 0) here;
          }

      keeps : KeepsInts k.parts k.progress k.values p
      keeps = All-contains (KeepsInts k.parts k.progress k.values) k.parts.wide_distincts.items p k.settled.ints_apart listed_here

      number : (j : ℕ) → j < length is → IsNumber (v k (slice_index_or is j 0))
      number j less = number_exact (full k) (slice_index_or is j 0) (marked j 0 less) (listed j 0 less)

      two_differ : (i j : ℕ) → i < j → j < length is → Differ (v k) (slice_index_or is i 0) (slice_index_or is j 0)
      two_differ i j before less =
          let earlier : i < length is = omega (arith, before, less) in
          numbers_differ (v k (slice_index_or is i 0)) (v k (slice_index_or is j 0)) (number i earlier) (number j less)
          (λ e. keeps is (record { tree = n.tree; within = n.arguments }) gives i j before less (fit i earlier) (fit j less)
          (number_at_place (stack k).trees k.values (slice_index_or is i 0) ∙ e ∙ sym (number_at_place (stack k).trees k.values (slice_index_or is j 0))))

  -- where all arguments have one sort
  pub asserted_has : DistinctsAreByClass → (r : Sort) → All (HasListed (full k) r) is → (r ≡ Truths → ⊥) → HasValueOf (stack k).trees k.values p Distinct is
  asserted_has law Truths listed other = absurd (other refl)
  asserted_has law Ints listed other = made_true (ints_differ listed)
  asserted_has law (Free q) listed other = made_true (elements_differ law q listed)
