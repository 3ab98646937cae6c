-- What a verdict answers in any state of which it is found.
use Rattle.std.proofs.Common.{◌≡◌, ℕ, ℤ, List, refl, ap, sym, subst}
use Rattle.smt_meaning.specs.declared.answers.Mode.{Mode}
use Rattle.smt_meaning.specs.declared.values.Table.{Table}
use Rattle.smt_meaning.specs.declared.reports.Report.{Report}
use Rattle.smt_meaning.specs.declared.answers.Reply.TheVariants as Given
use Rattle.smt_meaning.specs.declared.answers.Mode.TheVariants as In
use Rattle.smt_meaning.specs.declared.options.UnknownReason.{UnknownReason}
use Rattle.smt_meaning.specs.declared.replies.Kept.TheVariants.{Nothing, Model, Reports}
use Rattle.smt_meaning.specs.Report.{reason_of}
use Rattle.smt_meaning.specs.Term.{Tree}
use Rattle.smt_meaning.specs.Stack.{Frame, HasNoModel}
use Rattle.smt_meaning.specs.StackCommand.{Stack}
use Rattle.smt_meaning.specs.State.{State, checked_frames}
use Rattle.theory_port.specs.declared.decider.Verdict.{Verdict}
use Rattle.theory_port.specs.declared.decider.Verdict.TheVariants.{Sat, Unsat, Unknown}
use Rattle.theory_port.specs.Verdicts.{IsVerdict}
use Rattle.goal_search.specs.declared.answer.Answer.{Answer}
use Rattle.goal_search.specs.Checked.{IsAnswerBy, IsChecked, WhereUnsat}

pub sat_answers : (i j : List Table) → j ≡ i → IsAnswerBy (Sat i) (record { reply = Given.Sat; kept = Model j; mode = In.Sat i })
sat_answers i j e s h = (i, ap Model e, h, refl)

pub unsat_answers : IsAnswerBy Unsat (record { reply = Given.Unsat; kept = Nothing; mode = In.Unsat })
unsat_answers s h = (refl, h, refl)

pub unknown_answers : (rs : List Report) (why : UnknownReason) → why ≡ reason_of rs → IsAnswerBy (Unknown rs) (record { reply = Given.Unknown; kept = Reports rs; mode = In.Unknown why })
unknown_answers rs why e s h = (rs, refl, h, ap (λ w. record s { mode = In.Unknown w }) e)

pub where_unsat : (m : Mode) (P Q : Type 0) → (P → Q) → WhereUnsat m P → WhereUnsat m Q
where_unsat In.Start P Q f h = tt
where_unsat In.Assert P Q f h = tt
where_unsat (In.Sat i) P Q f h = tt
where_unsat (In.Unknown r) P Q f h = tt
where_unsat In.Unsat P Q f h = f h

-- ---- what is found of a stack

verdict_at : (v : Verdict) (t : State) (ts : List Tree) (frames : List Frame) (workers : ℕ) (limit : ℤ) → t.stack.trees ≡ ts → checked_frames t ≡ frames → t.settings.workers ≡ workers → t.options.reproducible_resource_limit ≡ limit
    → IsVerdict workers ts frames limit v → IsVerdict t.settings.workers t.stack.trees (checked_frames t) t.options.reproducible_resource_limit v
verdict_at v t ts frames workers limit a b w c h =
    subst (λ n. IsVerdict n t.stack.trees (checked_frames t) t.options.reproducible_resource_limit v) (sym w)
    (subst (λ l. IsVerdict workers t.stack.trees (checked_frames t) l v) (sym c)
    (subst (λ fs. IsVerdict workers t.stack.trees fs limit v) (sym b) (subst (λ us. IsVerdict workers us frames limit v) (sym a) h)))

pub found_answers : (workers : ℕ) (limit : ℤ) (s : Stack) (v : Verdict) (a : Answer) → IsVerdict workers s.trees s.frames limit v → IsAnswerBy v a → WhereUnsat a.mode (v ≡ Unsat)
    → IsChecked workers limit s a
found_answers workers limit s v a verdict answers unsat = record {
  answer = λ t trees frames crew lim. answers t (verdict_at v t s.trees s.frames workers limit trees frames crew lim verdict);
  refuted = where_unsat a.mode (v ≡ Unsat) (HasNoModel s.frames) (λ u. subst (IsVerdict workers s.trees s.frames limit) u verdict) unsat;
}
