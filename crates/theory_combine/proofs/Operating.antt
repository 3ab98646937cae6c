-- In a settled check each marked term has the exact value that its operator makes.
use Rattle.std.proofs.Common.{◌≡◌, ℕ, ◌<◌, Bool, true, false, List, [], ◌∷◌, map, length, All, Some, refl, sym, ap, subst, ◌∙◌, arith}
use Rattle.std.specs.Prelude.{Option, None, nat_lt}
use Rattle.std.proofs.lemmas.Bool.Decides.{nat_tests}
use Rattle.std.proofs.lemmas.List.Elements.{All-cons, All-head, All-weaker}
use Rattle.smt_meaning.specs.declared.values.Value.{Value}
use Rattle.smt_meaning.specs.declared.values.Value.TheVariants.{Truth}
use Rattle.smt_meaning.specs.declared.values.Sort.{Sort}
use Rattle.smt_meaning.specs.declared.values.Sort.TheVariants.{Bool as Truths, Int as Ints, Free}
use Rattle.smt_meaning.specs.declared.terms.Operator.{Operator}
use Rattle.smt_meaning.specs.declared.terms.Operator.TheVariants.{Xor, Equal, Distinct, Ite}
use Rattle.smt_meaning.specs.declared.terms.Head.{Head}
use Rattle.smt_meaning.specs.declared.terms.Head.TheVariants.{Numeral, Theory, Symbol, Place}
use Rattle.smt_meaning.specs.Declaration.{Declaration}
use Rattle.smt_meaning.specs.Term.{tree_at, truth_of, pairwise, differ}
use Rattle.smt_meaning.specs.Signature.{tree_sort, tree_sorts, with_sorts, stands_with, operator_sort, all_of, if_so}
use Rattle.smt_meaning.specs.Nodes.{pick}
use Rattle.smt_meaning.specs.Stack.{signature_of}
use Rattle.term_store.specs.Terms.{tree_with}
use Rattle.scope_stack.specs.Shown.{IsLawful}
use Rattle.linear_forms.specs.Table.{Known, IsLinked}
use Rattle.congruence.specs.declared.congruence.Congruence.{Congruence}
use Rattle.check_atoms.specs.Parts.{IsMarked}
use Rattle.check_atoms.specs.AssertedDistinct.{IsAssertedDistinct, IsNoBool}
use Rattle.check_atoms.specs.Laws.{PartsHaveNumbers}
use Rattle.check_atoms.specs.OfStack.{IsNode}
use Rattle.order_clauses.specs.Decided.{NumbersAreFound}
use Rattle.model_build.specs.Building.{HasOperatorsValue}
use Rattle.closure_log.specs.ByClass.{ComparisonsAreByClass, ChoicesAreByClass, DistinctsAreByClass}
use Rattle.exact_model.specs.Exact.{AreListed, exact}
use Rattle.exact_model.specs.Operators.{HasValueOf}
use Rattle.exact_model.specs.Fitting.{OperatorsAreDecided, is_open, is_free}
use Rattle.exact_model.proofs.Heads.{numeral_has, symbol_has, operator_has}
use Rattle.exact_model.proofs.FullLogs.{within, sort_there, truth_exact}
use Rattle.exact_model.proofs.PartSorts.{HasListed, all_listed, arguments_marked, stands_here, tested_sort}
use Rattle.theory_combine.specs.declared.parts.Parts.{Parts}
use Rattle.theory_combine.specs.declared.parts.Progress.{Progress}
use Rattle.theory_combine.specs.Progress.{AreParts}
use Rattle.theory_combine.specs.Settling.{IsSettledCheck, OperatorsHold}
use Rattle.theory_combine.proofs.SettledCase.{SettledCase, stack, marks, check, fitting, full, v, sort}
use Rattle.theory_combine.proofs.Elements.{comparison_has, choice_has}
use Rattle.theory_combine.proofs.WideXors.{xor_has}
use Rattle.theory_combine.proofs.AssertedDistincts.{asserted_has}

not_other : (a b : Bool) → ((a ≡ b → ⊥) → ⊥) → a ≡ b
not_other true true h = refl
not_other false false h = refl
not_other true false h = absurd (h (λ e. cc))
not_other false true h = absurd (h (λ e. cc))

parameter_sort : (ds : List Declaration) (j : ℕ) (r : Option (List Sort)) (s : Sort) → with_sorts ds (Place j) r ≡ Some s → ⊥
parameter_sort ds j None s h = cc
parameter_sort ds j (Some ss) s h = cc

one_sort : (r s : Sort) → Some r ≡ Some s → r ≡ s
one_sort r s e = cc

-- what truths and bounds decide, and what classes do
pub record Laws : Type 0 where
  pub decided : OperatorsAreDecided
  pub comparisons : ComparisonsAreByClass
  pub choices : ChoicesAreByClass
  pub distincts : DistinctsAreByClass

module _ (laws : Laws) (k : SettledCase) (p : ℕ) (m : IsMarked (marks k) p) where
  abbrev Has : Operator → List ℕ → Type 0
  Has o is = HasValueOf (stack k).trees k.values p o is

  abbrev IsTerm : Operator → List ℕ → Type 0
  IsTerm o is = IsNode (stack k).trees p (Theory o) is

  -- what truths and bounds don't leave open
  closed_has : (o : Operator) (is : List ℕ) → IsTerm o is → is_open (check k).sorts o p is ≡ false → (IsAssertedDistinct (stack k) p (Theory o) is → ⊥) → Has o is
  closed_has o is n closed other = laws.decided (stack k) (marks k) k.known k.values k.lawful k.listed (fitting k) p o is m n closed other

  -- ---- `=` and `distinct`

  of_one_sort : (o : Operator) (i : ℕ) (is : List ℕ) → IsTerm o (i ∷ is) → operator_sort o (map (sort k) (i ∷ is)) ≡ if_so (all_of (sort k i) (map (sort k) is)) Truths
      → All (HasListed (full k) (sort k i)) (i ∷ is) × (sort k p ≡ Truths)
  of_one_sort o i is n says =
      let so = tested_sort (full k) p o (i ∷ is) m n (all_of (sort k i) (map (sort k) is)) Truths says in
      (All-cons (HasListed (full k) (sort k i)) i is refl (all_listed (sort k) (sort k i) is so.0), so.1)

  of_equal : (is : List ℕ) → IsTerm Equal is → Has Equal is
  of_equal [] n = absurd (let e = stands_here (full k) p Equal [] m n in cc)
  of_equal (i ∷ is) n = by (sort k i) refl
    where
      so : All (HasListed (full k) (sort k i)) (i ∷ is) × (sort k p ≡ Truths)
      so = of_one_sort Equal i is n refl

      no_distinct : IsAssertedDistinct (stack k) p (Theory Equal) (i ∷ is) → ⊥
      no_distinct d = let e = d.operator in cc

      by : (r : Sort) → sort k i ≡ r → Has Equal (i ∷ is)
      by Truths e = closed_has Equal (i ∷ is) n (ap is_free e) no_distinct
      by Ints e = closed_has Equal (i ∷ is) n (ap is_free e) no_distinct
      by (Free q) e =
          comparison_has k laws.comparisons Equal refl (λ vs. refl) p q i is m n so.1 (subst (λ r. All (HasListed (full k) r) (i ∷ is)) e so.0) (λ d. absurd (no_distinct d))

  of_distinct : (is : List ℕ) → IsTerm Distinct is → Has Distinct is
  of_distinct [] n = absurd (let e = stands_here (full k) p Distinct [] m n in cc)
  of_distinct (i ∷ is) n = by (sort k i) refl
    where
      so : All (HasListed (full k) (sort k i)) (i ∷ is) × (sort k p ≡ Truths)
      so = of_one_sort Distinct i is n refl

      asserted : (r : Sort) → sort k i ≡ r → (r ≡ Truths → ⊥) → IsAssertedDistinct (stack k) p (Theory Distinct) (i ∷ is) → Has Distinct (i ∷ is)
      asserted r e other d = asserted_has k p (i ∷ is) m n so.1 d laws.distincts r (subst (λ r. All (HasListed (full k) r) (i ∷ is)) e so.0) other

      no_bool : IsNoBool (stack k) i → sort k i ≡ Truths → ⊥
      no_bool b e =
          b.other (one_sort b.sort Truths (sym b.has ∙ sort_there (full k) i (All-head (IsMarked (marks k)) i is (arguments_marked (full k) p Distinct (i ∷ is) m n)) ∙ ap Some e))

      by : (r : Sort) → sort k i ≡ r → Has Distinct (i ∷ is)
      by Truths e = closed_has Distinct (i ∷ is) n (ap is_free e) (λ d. no_bool (All-head (IsNoBool (stack k)) i is d.no_bools) e)
      by Ints e =
          truth_exact (full k) p m so.1
          ∙ ap Truth (not_other (truth_of (v k p)) (pairwise differ (map (v k) (i ∷ is)))
          (λ no. no (ap truth_of (closed_has Distinct (i ∷ is) n (ap is_free e) (λ d. no (ap truth_of (asserted Ints e (λ x. cc) d)))))))
      by (Free q) e =
          comparison_has k laws.comparisons Distinct refl (λ vs. refl) p q i is m n so.1 (subst (λ r. All (HasListed (full k) r) (i ∷ is)) e so.0) (asserted (Free q) e (λ x. cc))

  -- ---- choices and `xor`

  of_choice : (is : List ℕ) → IsTerm Ite is → stands_with Ite (length is) ≡ true → Has Ite is
  of_choice [] n h = absurd cc
  of_choice (t ∷ []) n h = absurd cc
  of_choice (t ∷ i ∷ []) n h = absurd cc
  of_choice (t ∷ i ∷ j ∷ []) n h = by (sort k p) refl
    where
      no_distinct : IsAssertedDistinct (stack k) p (Theory Ite) (t ∷ i ∷ j ∷ []) → ⊥
      no_distinct d = let e = d.operator in cc

      by : (r : Sort) → sort k p ≡ r → Has Ite (t ∷ i ∷ j ∷ [])
      by Truths e = closed_has Ite (t ∷ i ∷ j ∷ []) n (ap is_free e) no_distinct
      by Ints e = closed_has Ite (t ∷ i ∷ j ∷ []) n (ap is_free e) no_distinct
      by (Free q) e = choice_has k laws.choices p t i j q m n e
  of_choice (t ∷ i ∷ j ∷ l ∷ is) n h = absurd (grind (arith, nat_tests))

  of_xor : (is : List ℕ) → IsTerm Xor is → Has Xor is
  of_xor is n = by (nat_lt 3 (length is)) refl
    where
      by : (b : Bool) → nat_lt 3 (length is) ≡ b → Has Xor is
      by true e = xor_has k p is m n e
      by false e = closed_has Xor is n e (λ d. let e = d.operator in cc)

  -- ---- any operator

  part_has : (o : Operator) (is : List ℕ) → IsTerm o is → Has o is
  part_has Xor is n = of_xor is n
  part_has Equal is n = of_equal is n
  part_has Distinct is n = of_distinct is n
  part_has Ite is n = of_choice is n (stands_here (full k) p Ite is m n)
  part_has o is n = closed_has o is n refl (λ d. let e = d.operator in cc)

  term_has : (h : Head) (is : List ℕ) → tree_at (stack k).trees p ≡ tree_with (stack k).trees h is → All (λ i. i < p) is → HasOperatorsValue (exact (stack k).trees k.values) (tree_at (stack k).trees p)
  term_has (Numeral n) is e earlier = numeral_has (stack k).trees k.values p n is e
  term_has (Symbol f) is e earlier = symbol_has (stack k).trees k.values p f is e
  term_has (Place j) is e earlier =
      absurd (
      parameter_sort (signature_of (stack k).frames) j (tree_sorts (signature_of (stack k).frames) (pick (stack k).trees is)) (sort k p)
      (sym (ap (tree_sort (signature_of (stack k).frames)) e) ∙ sort_there (full k) p m)
      )
  term_has (Theory o) is e earlier =
      let inside : p < length (stack k).trees = within (full k) p m in
      operator_has (stack k).trees k.values p o is e
      (part_has o is (record {
        within = inside;
        tree = e;
        arguments = All-weaker (λ i. i < p) (λ i. i < length (stack k).trees) (λ i l. omega (arith, l, inside)) is earlier;
      }))

  operator_holds : HasOperatorsValue (exact (stack k).trees k.values) (tree_at (stack k).trees p)
  operator_holds =
      let link : IsLinked (stack k).trees p = k.listed.forms.forms.linked p (within (full k) p m) in
      term_has link.head link.arguments link.tree link.earlier

pub operators_hold : NumbersAreFound → PartsHaveNumbers → OperatorsAreDecided → ComparisonsAreByClass → ChoicesAreByClass → DistinctsAreByClass → (p : Parts) (w : Progress) (c : Congruence) (vs : List Value) (known : List Known)
    → AreParts p → IsSettledCheck p w c vs → AreListed p.stack.now.trees known vs → IsLawful p.stack.now → OperatorsHold p vs
operators_hold found numbers decided comparisons choices distincts p w c vs known parts settled listed lawful q m =
    let laws : Laws = record { decided = decided; comparisons = comparisons; choices = choices; distincts = distincts } in
    let k : SettledCase = record { parts = p; progress = w; closure = c; values = vs; known = known; are_parts = parts; settled = settled; listed = listed; lawful = lawful; numbers = numbers; found = found } in
    operator_holds laws k q m
