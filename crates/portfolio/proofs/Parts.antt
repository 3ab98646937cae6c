-- What the parts of workers come to, one after the other, and at the end.
use Rattle.std.proofs.Common.{◌≡◌, ℕ, ◌<◌, ℤ, List, [], ◌∷◌, ◌++◌, map, length, get_or, sym, refl, ap, ◌∙◌, subst, arith, All}
use Rattle.std.specs.Prelude.{Option, Some, None, IfSome, Contains, Result, Ok, Err, IfOk}
use Rattle.std.specs.List.{range_with_len}
use Rattle.std.proofs.lemmas.List.{map-append}
use Rattle.std.proofs.lemmas.List.Elements.{All-nil, All-push, Contains-append_left, Contains-push}
use Rattle.smt_meaning.specs.declared.reports.Report.{Report}
use Rattle.smt_meaning.specs.declared.values.Table.{Table}
use Rattle.smt_meaning.specs.Interpretation.{meaning, AreTablesFor}
use Rattle.smt_meaning.specs.Stack.{Frame, Satisfies, signature_of, assertions_of}
use Rattle.smt_meaning.specs.Term.{Tree}
use Rattle.smt_meaning.specs.StackCommand.{Stack}
use Rattle.smt_meaning.specs.Report.{Shows, AreReports}
use Rattle.smt_meaning.specs.Model.{Fits, IsModel}
use Rattle.race_model.specs.Shelves.{ShelfState}
use Rattle.race_cell.specs.declared.action.Action.TheVariants.{Win}
use Rattle.race_cell.specs.declared.view.Claim.{Claim}
use Rattle.race_cell.specs.Rules.{Ended}
use Rattle.race_cell.specs.Laws.{WinnerHasWon}
use Rattle.report_laws.specs.Boxed.{BoxedStacksAreNotSpent}
use Rattle.theory_port.specs.Verdicts.{IsVerdict}
use Rattle.theory_port.specs.declared.decider.Verdict.{Verdict}
use Rattle.theory_port.specs.declared.decider.Verdict.TheVariants as verdict
use Rattle.worker.specs.declared.outcome.Answer.{Answer}
use Rattle.worker.specs.declared.outcome.Answer.TheVariants.{Sat, Unsat}
use Rattle.worker.specs.declared.outcome.Outcome.TheVariants as part
use Rattle.worker.specs.Outcome.{HasWon, IsOutcome, MemoryAloneIsReported}
use Rattle.portfolio.specs.declared.tally.Tally.{Tally}
use Rattle.portfolio.specs.Ends.{BoxedIsNotSpent}
use Rattle.portfolio.specs.Tallies.{Tallied, IsAnswer, IsShown, IsOfMemory, HasNotWon, IsFound}
use Rattle.portfolio.proofs.Orders.{claim_worker, in_order}

abbrev report_worker : Report → ℕ
report_worker r = r.worker

module _ (s : Stack) (limit : ℤ) where
  pub no_parts : (t : Tally) → t.answer ≡ None → t.winner ≡ None → t.reports.items ≡ [] → Tallied s limit [] t
  no_parts t a w r = record {
    answer = subst (λ o. IfSome o (IsAnswer s.frames)) (sym a) tt;
    unwon = λ none. All-nil HasNotWon;
    cancelled = subst (λ o. IfSome o (IsFound [])) (sym w) tt;
    complete = λ none nobody. ap (map report_worker) r;
    shown = subst (All (IsShown s limit)) (sym r) (All-nil (IsShown s limit));
    memory = λ free unlimited. subst (All IsOfMemory) (sym r) (All-nil IsOfMemory);
  }

  still_found : (cs : List Claim) (c : Claim) (o : Option ℕ) → IfSome o (IsFound cs) → IfSome o (IsFound (cs ++ c ∷ []))
  still_found cs c None h = h
  still_found cs c (Some w) h = (h.0, Contains-append_left cs (c ∷ []) h.0 h.1, h.2)

  right : (c : Claim) (a : Answer) → IsOutcome s limit c (part.Answer a) → IsAnswer s.frames a
  right c (Sat i) k = k.1
  right c Unsat k = k.1

  pub with_answer : (cs : List Claim) (c : Claim) (a : Answer) (t u : Tally) → u.answer ≡ Some a → u.winner ≡ t.winner → u.reports.items ≡ t.reports.items
      → IsOutcome s limit c (part.Answer a) → Tallied s limit cs t → Tallied s limit (cs ++ c ∷ []) u
  with_answer cs c a t u e w r k h = record {
    answer = subst (λ o. IfSome o (IsAnswer s.frames)) (sym e) (right c a k);
    unwon = λ none. cc;
    cancelled = subst (λ o. IfSome o (IsFound (cs ++ c ∷ []))) (sym w) (still_found cs c t.winner h.cancelled);
    complete = λ none nobody. cc;
    shown = subst (All (IsShown s limit)) (sym r) h.shown;
    memory = λ free unlimited. subst (All IsOfMemory) (sym r) (h.memory free unlimited);
  }

  pub with_report : (cs : List Claim) (c : Claim) (x : Report) (t u : Tally) → u.answer ≡ t.answer → u.winner ≡ t.winner → u.reports.items ≡ t.reports.items ++ x ∷ []
      → IsOutcome s limit c (part.Report x) → MemoryAloneIsReported s.frames limit (part.Report x) → Tallied s limit cs t → Tallied s limit (cs ++ c ∷ []) u
  with_report cs c x t u e w r k m h = record {
    answer = subst (λ o. IfSome o (IsAnswer s.frames)) (sym e) h.answer;
    unwon = λ none. All-push HasNotWon cs c (h.unwon (sym e ∙ none)) k.0;
    cancelled = subst (λ o. IfSome o (IsFound (cs ++ c ∷ []))) (sym w) (still_found cs c t.winner h.cancelled);
    complete = λ none nobody.
        ap (map report_worker) r
        ∙ (map-append report_worker t.reports.items (x ∷ [])
        ∙ (ap (λ l. l ++ x.worker ∷ []) (h.complete (sym e ∙ none) (sym w ∙ nobody))
        ∙ (ap (λ n. map claim_worker cs ++ n ∷ []) k.1.0 ∙ sym (map-append claim_worker cs (c ∷ [])))));
    shown = subst (All (IsShown s limit)) (sym r) (All-push (IsShown s limit) t.reports.items x h.shown k.1.1);
    memory = λ free unlimited. subst (All IsOfMemory) (sym r) (All-push IsOfMemory t.reports.items x (h.memory free unlimited) (m free unlimited));
  }

  pub with_winner : (cs : List Claim) (c : Claim) (v : ℕ) (t u : Tally) → u.answer ≡ t.answer → u.winner ≡ Some v → u.reports.items ≡ t.reports.items
      → IsOutcome s limit c (part.Cancelled v) → Tallied s limit cs t → Tallied s limit (cs ++ c ∷ []) u
  with_winner cs c v t u e w r k h = record {
    answer = subst (λ o. IfSome o (IsAnswer s.frames)) (sym e) h.answer;
    unwon = λ none. All-push HasNotWon cs c (h.unwon (sym e ∙ none)) k.0;
    cancelled = subst (λ o. IfSome o (IsFound (cs ++ c ∷ []))) (sym w) (c, Contains-push cs c, k.1);
    complete = λ none nobody. cc;
    shown = subst (All (IsShown s limit)) (sym r) h.shown;
    memory = λ free unlimited. subst (All IsOfMemory) (sym r) (h.memory free unlimited);
  }

  -- without an answer nobody has found a winner, since the winner has one
  pub nobody_found : {S : Type 0} (state : S → ShelfState) → WinnerHasWon state → (b : ShelfState) (n : ℕ) (cs : List Claim) (y : S) → Ended state b n cs y
      → map claim_worker cs ≡ range_with_len 0 n → (t : Tally) → Tallied s limit cs t → t.answer ≡ None → t.winner ≡ None
  nobody_found state law b n cs y ended e t h none = at t.winner h.cancelled
    where
      order : (length cs ≡ n) × ((i : ℕ) (d : Claim) → i < length cs → (get_or cs i d).worker ≡ i)
      order = in_order cs n e

      at : (o : Option ℕ) → IfSome o (IsFound cs) → o ≡ None
      at None f = refl
      at (Some w) f =
          let won = law b n cs y ended order.1 order.0 f.0 f.1 w f.2 in
          let few = won.0 in
          let inside : w < length cs = omega (arith, few, order.0) in
          let own : HasWon (get_or cs w f.0) = subst (λ v. Contains (get_or cs w f.0).own (Win v)) (sym (order.1 w f.0 inside)) (won.1 f.0) in
          absurd (h.unwon none w f.0 inside own)

  pub all_reports : (n : ℕ) (cs : List Claim) (t : Tally) → map claim_worker cs ≡ range_with_len 0 n → Tallied s limit cs t → t.answer ≡ None → t.winner ≡ None
      → AreReports n s.trees s.frames limit t.reports.items
  all_reports n cs t e h none nobody = record { one_each = h.complete none nobody ∙ e; shown = h.shown }

-- ---- boxes

pub boxed_ends : BoxedStacksAreNotSpent → (n : ℕ) (ts : List Tree) (frames : List Frame) (limit : ℤ) (v : Verdict) → IsVerdict n ts frames limit v → BoxedIsNotSpent ts frames limit v
boxed_ends law n ts frames limit (verdict.Sat i) h boxed few none = tt
boxed_ends law n ts frames limit verdict.Unsat h boxed few none = tt
boxed_ends law n ts frames limit (verdict.Unknown rs) h boxed few none = λ k r lt us e.
    let s : Report = get_or rs k r in
    law ts frames limit s.branches us few.atoms none boxed few.each few.few (subst (λ c. Shows ts frames limit s.branches c) e (h.shown k r lt))

pub boxed_ends_ok : {E : Type 0} → BoxedStacksAreNotSpent → (n : ℕ) (ts : List Tree) (frames : List Frame) (limit : ℤ) (r : Result Verdict E) → IfOk r (IsVerdict n ts frames limit) → IfOk r (BoxedIsNotSpent ts frames limit)
boxed_ends_ok law n ts frames limit (Ok v) h = boxed_ends law n ts frames limit v h
boxed_ends_ok law n ts frames limit (Err e) h = tt

-- ---- nothing declared and nothing asserted

pub no_tables : (frames : List Frame) → signature_of frames ≡ [] → assertions_of frames ≡ [] → IsModel frames []
no_tables frames e f =
    let none : List Table = [] in record {
      tables = subst (λ ds. AreTablesFor ds none) (sym e) tt;
      holds = subst (All (Satisfies (meaning none))) (sym f) (All-nil (Satisfies (meaning none)));
      fits = subst (All (Fits (meaning none))) (sym f) (All-nil (Fits (meaning none)));
    }
