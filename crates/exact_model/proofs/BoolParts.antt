-- Nodes of Bools have the values that their operators make.
use Rattle.std.proofs.Common.{◌≡◌, ℕ, Bool, true, false, List, [], ◌∷◌, map, All, refl, sym, ap, ◌∙◌}
use Rattle.std.specs.Prelude.{◌&&◌, ◌||◌, if◌then◌else◌}
use Rattle.std.proofs.lemmas.List.Elements.{All-head, All-tail, All-weaker}
use Rattle.smt_meaning.specs.declared.values.Value.{Value}
use Rattle.smt_meaning.specs.declared.values.Value.TheVariants.{Truth}
use Rattle.smt_meaning.specs.declared.values.Sort.TheVariants.{Bool as Truths}
use Rattle.smt_meaning.specs.declared.terms.Operator.{Operator}
use Rattle.smt_meaning.specs.declared.terms.Operator.TheVariants.{True, False, Not, And, Or, Xor, Implies, Equal, Distinct, Ite}
use Rattle.smt_meaning.specs.declared.terms.Head.TheVariants.{Theory}
use Rattle.smt_meaning.specs.Term.{truth_of, on_truths, fold_left, operate}
use Rattle.check_atoms.specs.Parts.{IsMarked}
use Rattle.check_atoms.specs.OfStack.{IsNode}
use Rattle.clause_form.specs.ForcedClausesLaws.{fits_clauses}
use Rattle.order_clauses.specs.Clauses.{sort_at, truth_number}
use Rattle.order_clauses.specs.Decided.{IsGiven}
use Rattle.first_clauses.specs.CheckClausesFirst.{AreBools}
use Rattle.first_clauses.specs.Holding.{DecidesNode}
use Rattle.exact_model.specs.Exact.{exact_at}
use Rattle.exact_model.specs.Operators.{all_exact, HasValueOf}
use Rattle.exact_model.proofs.FullLogs.{Case, ts, first, truth_exact, truth_given, truth_told}

-- ---- truths of truths

abbrev IsTruth : Value → Type 0
IsTruth v = v ≡ Truth (truth_of v)

folded_truth : (f : Bool → Bool → Bool) (v : Value) (ws : List Value) → IsTruth v → IsTruth (fold_left (on_truths f) v ws)
folded_truth f v [] h = h
folded_truth f v (w ∷ ws) h = folded_truth f (on_truths f v w) ws refl

chosen_truth : (b : Bool) (v w : Value) → IsTruth v → IsTruth w → IsTruth (if b then v else w)
chosen_truth true v w h k = h
chosen_truth false v w h k = k

-- what an operator with clauses makes of truths is one
made_truth : (a : ℕ → Bool) (o : Operator) (is : List ℕ) → fits_clauses o is ≡ true → IsTruth (operate o (map (λ i. Truth (a i)) is))
made_truth a True is h = refl
made_truth a False is h = refl
made_truth a Not (i ∷ []) h = refl
made_truth a And (i ∷ is) h = folded_truth ◌&&◌ (Truth (a i)) (map (λ j. Truth (a j)) is) refl
made_truth a Or (i ∷ is) h = folded_truth ◌||◌ (Truth (a i)) (map (λ j. Truth (a j)) is) refl
made_truth a Xor (i ∷ j ∷ []) h = refl
made_truth a Xor (i ∷ j ∷ k ∷ []) h = refl
made_truth a Implies (i ∷ j ∷ is) h = refl
made_truth a Equal is h = refl
made_truth a Distinct is h = refl
made_truth a Ite (i ∷ j ∷ k ∷ []) h = chosen_truth (a i) (Truth (a j)) (Truth (a k)) refl refl
made_truth a o is h = absurd cc

module _ (c : Case) where
  abbrev IsBool : ℕ → Type 0
  IsBool i = IsMarked c.marks i × (sort_at c.fitting.check.sorts i ≡ Truths)

  all_truths : (is : List ℕ) → All IsBool is → map (λ i. Truth (truth_of (exact_at (ts c) c.values i))) is ≡ all_exact (ts c) c.values is
  all_truths [] h = refl
  all_truths (i ∷ is) h =
      let here : IsBool i = All-head IsBool i is h in
      ap (λ v. v ∷ map (λ j. Truth (truth_of (exact_at (ts c) c.values j))) is) (sym (truth_exact c i here.0 here.1)) ∙ ap (λ vs. exact_at (ts c) c.values i ∷ vs) (all_truths is (All-tail IsBool i is h))

  pub bools_have : (p : ℕ) (o : Operator) (is : List ℕ) → IsMarked c.marks p → All (IsMarked c.marks) is → IsNode (ts c) p (Theory o) is → AreBools c.fitting.check.sorts (p ∷ is) → fits_clauses o is ≡ true
      → HasValueOf (ts c) c.values p o is
  bools_have p o is m ms n bools fits =
      let a : ℕ → Bool = λ i. truth_of (exact_at (ts c) c.values i) in
      let own : sort_at c.fitting.check.sorts p ≡ Truths = All-head (λ i. sort_at c.fitting.check.sorts i ≡ Truths) p is bools in
      let others : All (λ i. sort_at c.fitting.check.sorts i ≡ Truths) is = All-tail (λ i. sort_at c.fitting.check.sorts i ≡ Truths) p is bools in
      let all : All IsBool is = λ k d l. (ms k d l, others k d l) in
      let given : All (λ i. IsGiven c.fitting.log (truth_number (first c) i) (a i)) is = All-weaker IsBool (λ i. IsGiven c.fitting.log (truth_number (first c) i) (a i)) (λ i h. truth_given c i h.0 h.1) is all in
      let decides : DecidesNode c.fitting.log (first c) o p is = (c.fitting.check.decided.holds p o is m n).of_bools bools in
      truth_told c p (truth_of (operate o (map (λ i. Truth (a i)) is))) m own (decides a fits given) ∙ sym (made_truth a o is fits) ∙ ap (operate o) (all_truths is all)
