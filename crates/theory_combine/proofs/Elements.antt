-- `=`, `distinct` and `ite` of elements have the values that their operators make, in a settled check.
use Rattle.std.proofs.Common.{◌≡◌, ◌⊎◌, inl, inr, ℕ, true, List, [], ◌∷◌, map, All, Some, sym, ap, ◌∙◌}
use Rattle.std.proofs.lemmas.List.Elements.{All-nil, All-cons, All-head, All-tail}
use Rattle.smt_meaning.specs.declared.values.Value.{Value}
use Rattle.smt_meaning.specs.declared.values.Value.TheVariants.{Truth}
use Rattle.smt_meaning.specs.declared.values.Sort.TheVariants.{Bool as Truths, Free}
use Rattle.smt_meaning.specs.declared.terms.Operator.{Operator}
use Rattle.smt_meaning.specs.declared.terms.Operator.TheVariants.{Ite}
use Rattle.smt_meaning.specs.declared.terms.Head.TheVariants.{Theory}
use Rattle.smt_meaning.specs.Term.{truth_of, operate}
use Rattle.smt_meaning.specs.Signature.{is_bool}
use Rattle.search_port.specs.State.{IsMadeTrue}
use Rattle.equality_clauses.specs.Laws.{compares}
use Rattle.check_atoms.specs.Parts.{IsMarked}
use Rattle.check_atoms.specs.AssertedDistinct.{IsAssertedDistinct}
use Rattle.check_atoms.specs.OfStack.{IsNode}
use Rattle.order_clauses.specs.Clauses.{truth_number, part_clauses_of}
use Rattle.order_clauses.specs.Decided.{IsGiven}
use Rattle.first_clauses.specs.CheckClausesFirst.{AreBools}
use Rattle.closure_log.specs.ByClass.{IsItsClass, ComparesElements, ComparisonsAreByClass, ChoicesAreByClass}
use Rattle.exact_model.specs.Operators.{HasValueOf}
use Rattle.exact_model.proofs.FullLogs.{atoms, sort_there, truth_given, truth_told}
use Rattle.exact_model.proofs.PartSorts.{HasListed, arguments_marked, ChoosesSorts, choice_sorts}
use Rattle.theory_combine.proofs.SettledCase.{SettledCase, stack, marks, table, log, check, first, full, v, sort, over, is_numbered, element_exact}

module _ (k : SettledCase) where
  abbrev Its : ℕ → Type 0
  Its = IsItsClass k.closure (v k)

  abbrev IsBoolAt : ℕ → Type 0
  IsBoolAt i = sort k i ≡ Truths

  -- ---- comparisons

  -- what is made of values is a truth
  abbrev MakesTruths : Operator → Type 0
  MakesTruths o = (vs : List Value) → operate o vs ≡ Truth (truth_of (operate o vs))

  module _ (law : ComparisonsAreByClass) (o : Operator) (does : compares o ≡ true) (truth : MakesTruths o) (p q i : ℕ) (is : List ℕ) (m : IsMarked (marks k) p) (n : IsNode (stack k).trees p (Theory o) (i ∷ is))
      (own : sort k p ≡ Truths) (listed : All (HasListed (full k) (Free q)) (i ∷ is)) where
    marked : All (IsMarked (marks k)) (i ∷ is)
    marked = arguments_marked (full k) p o (i ∷ is) m n

    its : All Its (i ∷ is)
    its = λ j d l. element_exact k _ q (marked j d l) (listed j d l)

    compared : ComparesElements (stack k) (marks k) o p q i is
    compared = record {
      compares = does;
      marked = m;
      term = n;
      bool = ap is_bool (sort_there (full k) p m ∙ ap Some own);
      elements = λ j d l. sort_there (full k) _ (marked j d l) ∙ ap Some (listed j d l);
    }

    no_bools : AreBools (check k).sorts (p ∷ i ∷ is) → ⊥
    no_bools h = let e : Free q ≡ Truths = sym (All-head (HasListed (full k) (Free q)) i is listed) ∙ All-head IsBoolAt i is (All-tail IsBoolAt p (i ∷ is) h) in cc

    decided : IsAssertedDistinct (stack k) p (Theory o) (i ∷ is) ⊎ All (IsMadeTrue (log k)) (part_clauses_of (check k).sorts (stack k).trees (first k) o p (i ∷ is))
    decided = ((check k).decided.holds p o (i ∷ is) m n).of_others no_bools

    given : All (IsMadeTrue (log k)) (part_clauses_of (check k).sorts (stack k).trees (first k) o p (i ∷ is))
        → IsAssertedDistinct (stack k) p (Theory o) (i ∷ is) ⊎ IsGiven (log k) (truth_number (first k) p) (truth_of (operate o (map (v k) (i ∷ is))))
    given made = law (stack k) (marks k) (check k).sorts (first k) (table k) (log k) k.closure (v k) o p q i is (atoms (full k)) (check k).sorted (over k) compared its made

    told : IsGiven (log k) (truth_number (first k) p) (truth_of (operate o (map (v k) (i ∷ is)))) → HasValueOf (stack k).trees k.values p o (i ∷ is)
    told g = truth_told (full k) p (truth_of (operate o (map (v k) (i ∷ is)))) m own g ∙ sym (truth (map (v k) (i ∷ is)))

    pub comparison_has : (IsAssertedDistinct (stack k) p (Theory o) (i ∷ is) → HasValueOf (stack k).trees k.values p o (i ∷ is)) → HasValueOf (stack k).trees k.values p o (i ∷ is)
    comparison_has asserted = elim decided [
      | inl d ↦ asserted d
      | inr made ↦ elim (given made) [
        | inl d ↦ asserted d
        | inr g ↦ told g
      ]
    ]

  -- ---- choices

  pub choice_has : ChoicesAreByClass → (p t i j q : ℕ) → IsMarked (marks k) p → IsNode (stack k).trees p (Theory Ite) (t ∷ i ∷ j ∷ []) → sort k p ≡ Free q
      → HasValueOf (stack k).trees k.values p Ite (t ∷ i ∷ j ∷ [])
  choice_has law p t i j q m n own =
      let so : ChoosesSorts (full k) p t i j = choice_sorts (full k) p t i j m n in
      let marked : All (IsMarked (marks k)) (t ∷ i ∷ j ∷ []) = arguments_marked (full k) p Ite (t ∷ i ∷ j ∷ []) m n in
      let branches : All (IsMarked (marks k)) (i ∷ j ∷ []) = All-tail (IsMarked (marks k)) t (i ∷ j ∷ []) marked in
      let mt : IsMarked (marks k) t = All-head (IsMarked (marks k)) t (i ∷ j ∷ []) marked in
      let mi : IsMarked (marks k) i = All-head (IsMarked (marks k)) i (j ∷ []) branches in
      let mj : IsMarked (marks k) j = All-head (IsMarked (marks k)) j [] (All-tail (IsMarked (marks k)) i (j ∷ []) branches) in
      let its : All Its (p ∷ i ∷ j ∷ []) =
      All-cons Its p (i ∷ j ∷ []) (element_exact k p q m own)
      (All-cons Its i (j ∷ []) (element_exact k i q mi (so.first ∙ own)) (All-cons Its j [] (element_exact k j q mj (so.second ∙ own)) (All-nil Its))) in
      law (stack k) (first k) (table k) (log k) k.closure (v k) p t i j (over k) n (is_numbered k t mt so.condition) (truth_given (full k) t mt so.condition) its
