-- A core of three assertions is one, and inventions are none.
use Rattle.std.proofs.Common.{◌≡◌, ℕ, Bool, true, false, not, List, [], ◌∷◌, refl, subst, arith, pos}
use Rattle.std.proofs.lemmas.List.Elements.{All-nil, All-cons, All-head, All-tail}
use Rattle.std.specs.Prelude.{codes, IsTrue}
use Rattle.smt_meaning.specs.declared.values.Value.TheVariants.{Truth}
use Rattle.smt_meaning.specs.declared.reports.Report.{Report}
use Rattle.smt_meaning.specs.declared.replies.Reason.{Reason}
use Rattle.smt_meaning.specs.declared.replies.Reason.TheVariants.{Model, Reports}
use Rattle.smt_meaning.specs.declared.replies.Held.{Held}
use Rattle.smt_meaning.specs.Interpretation.{Interprets, IsFunctionFor, meaning}
use Rattle.smt_meaning.specs.Stack.{Frame, HasNoModel, Satisfies}
use Rattle.smt_meaning.specs.Keeping.{keeping, core_keeps, trial_keeps}
use Rattle.smt_meaning.specs.Model.{Fits, IsModel}
use Rattle.smt_meaning.specs.Report.{AreReports, AreAllSpent, Shows}
use Rattle.smt_meaning.specs.Core.{IsReason, places}
use Rattle.report_laws.specs.Cores.{truth_constant, p_tree, q_tree, not_p, three, all_three, IsCoreOfThree, values, held_by_model, core, ClashIsACore, OneIsNoCore, all_held, NoModelHoldsQ, nothing_spent, NoInventionHoldsQ}

abbrev only_false : Bool → Type 0
only_false true = ⊥
only_false false = Unit {0}

false_true : {A : Type 0} → false ≡ true → A
false_true e = absurd (subst only_false e tt)

clash : (b : Bool) → IsTrue b → IsTrue (not b) → ⊥
clash true h k = false_true k
clash false h k = false_true h

-- ---- p and (not p) are a core, each with a model of the others

abbrev Reasoned : ℕ → List Held → Held → Type 0
Reasoned workers hs h = IsReason workers [] (keeping (trial_keeps all_three (places hs) h.place) three) (pos 5) h.why

without_p : IsModel (keeping (trial_keeps all_three (places core) 0) three) (values false true)
without_p = record {
  tables = (
    record { symbol = refl; rows = All-nil _; default = refl; no_two = λ i j d k l. absurd (omega (arith, l)); constants = λ e. refl },
    (record { symbol = refl; rows = All-nil _; default = refl; no_two = λ i j d k l. absurd (omega (arith, l)); constants = λ e. refl }, tt),
  );
  holds = All-cons (Satisfies (meaning (values false true))) q_tree (not_p ∷ []) refl (All-cons (Satisfies (meaning (values false true))) not_p [] refl (All-nil (Satisfies (meaning (values false true)))));
  fits = All-cons (Fits (meaning (values false true))) q_tree (not_p ∷ []) refl (All-cons (Fits (meaning (values false true))) not_p [] refl (All-nil (Fits (meaning (values false true)))));
}

-- q is gone when (not p) is tried
without_not_p : IsModel (keeping (trial_keeps all_three (places core) 2) three) (values true true)
without_not_p = record {
  tables = (
    record { symbol = refl; rows = All-nil _; default = refl; no_two = λ i j d k l. absurd (omega (arith, l)); constants = λ e. refl },
    (record { symbol = refl; rows = All-nil _; default = refl; no_two = λ i j d k l. absurd (omega (arith, l)); constants = λ e. refl }, tt),
  );
  holds = All-cons (Satisfies (meaning (values true true))) p_tree [] refl (All-nil (Satisfies (meaning (values true true))));
  fits = All-cons (Fits (meaning (values true true))) p_tree [] refl (All-nil (Fits (meaning (values true true))));
}

core_has_no_model : HasNoModel (keeping (core_keeps all_three (places core)) three)
unfolding HasNoModel
core_has_no_model I i h = clash _ (All-head (Satisfies I) p_tree (not_p ∷ []) h) (All-head (Satisfies I) not_p [] (All-tail (Satisfies I) p_tree (not_p ∷ []) h))

pub core_is_one : ClashIsACore
core_is_one workers = record {
  listed = refl;
  enough = core_has_no_model;
  reasons = All-cons (Reasoned workers core) (held_by_model 0 (values false true)) (held_by_model 2 (values true true) ∷ []) without_p
      (All-cons (Reasoned workers core) (held_by_model 2 (values true true)) [] without_not_p (All-nil (Reasoned workers core)));
}

-- ---- inventions

-- p alone is no core: it has a model
pub too_few : OneIsNoCore
unfolding HasNoModel Interprets
too_few workers i r =
    r.enough (λ f vs. Truth true)
    (All-cons (IsFunctionFor (λ f vs. Truth true)) (truth_constant 0 (codes "p")) (truth_constant 1 (codes "q") ∷ []) (λ s vs hs. refl)
    (All-cons (IsFunctionFor (λ f vs. Truth true)) (truth_constant 1 (codes "q")) [] (λ s vs hs. refl) (All-nil (IsFunctionFor (λ f vs. Truth true)))))
    (All-cons (Satisfies (λ f vs. Truth true)) p_tree [] refl (All-nil (Satisfies (λ f vs. Truth true))))

second_reason : (workers : ℕ) (x y z : Reason) → IsCoreOfThree workers (all_held x y z) → IsReason workers [] (keeping (trial_keeps all_three all_three 1) three) (pos 5) y
second_reason workers x y z r =
    All-head (Reasoned workers (all_held x y z)) (record { place = 1; why = y }) (record { place = 2; why = z } ∷ [])
    (All-tail (Reasoned workers (all_held x y z)) (record { place = 0; why = x }) (record { place = 1; why = y } ∷ record { place = 2; why = z } ∷ []) r.reasons)

-- q isn't held by a model: without it there is none
pub no_model_holds_q : NoModelHoldsQ
no_model_holds_q workers x z i r =
    let m : IsModel (keeping (trial_keeps all_three all_three 1) three) i = second_reason workers x (Model i) z r in
    clash _ (All-head (Satisfies (meaning i)) p_tree (not_p ∷ []) m.holds) (All-head (Satisfies (meaning i)) not_p [] (All-tail (Satisfies (meaning i)) p_tree (not_p ∷ []) m.holds))

abbrev without_q : List Frame
without_q = keeping (trial_keeps all_three all_three 1) three

pub no_invention_holds_q : NoInventionHoldsQ
no_invention_holds_q workers x z others r =
    let shown : AreReports workers [] without_q (pos 5) (nothing_spent ∷ others) = second_reason workers x (Reports (nothing_spent ∷ others)) z r in
    let spent : AreAllSpent [] without_q (pos 5) [] [] =
    All-head (λ (t : Report). Shows [] without_q (pos 5) t.branches t.cause) nothing_spent others shown.shown
    in
    let none_spent : ◌≡◌ {A = ℕ} 0 5 = spent.count in
    absurd (omega (arith, none_spent))
