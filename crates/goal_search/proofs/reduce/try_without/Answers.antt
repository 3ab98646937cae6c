use Rattle.std.proofs.Common.{◌∙◌, ap, subst, slice_set, true, false}
use Rattle.smt_meaning.specs.Keeping.{keeping}
use Rattle.scope_stack.specs.Trials.{Trial, marks}
use Rattle.theory_port.specs.Verdicts.{IsVerdict}
use Rattle.goal_search.proofs.Trying.{put_back}
use Rattle.goal_search.proofs.reduce.try_without.Goals as goal

pub returns-in-None-clause-tried : goal.returns-in-None-clause-tried
returns-in-None-clause-tried g c =
    let verdict : IsVerdict c.args.settings.now.workers c.args.trial.now.stack.trees (keeping (marks (slice_set c.args.trial.now.kept c.args.place false)) c.args.trial.now.stack.frames) c.args.settings.now.units c.in_ok-verdict.verdict =
    subst (λ (t : Trial). IsVerdict c.args.settings.now.workers t.stack.trees (keeping (marks t.kept) t.stack.frames) c.args.settings.now.units c.in_ok-verdict.verdict) c.leave_out.ensures c.in_ok-verdict.ensures.verdict in
    (c.in-None.ensures _ _ _ _ verdict, ap (λ (t : Trial). t.kept) (c.in_ok-verdict.ensures.stays ∙ c.leave_out.ensures))

pub returns-in-Some-clause-tried : goal.returns-in-Some-clause-tried
returns-in-Some-clause-tried g c =
    let verdict : IsVerdict c.args.settings.now.workers c.args.trial.now.stack.trees (keeping (marks (slice_set c.args.trial.now.kept c.args.place false)) c.args.trial.now.stack.frames) c.args.settings.now.units c.in_ok-verdict.verdict =
    subst (λ (t : Trial). IsVerdict c.args.settings.now.workers t.stack.trees (keeping (marks t.kept) t.stack.frames) c.args.settings.now.units c.in_ok-verdict.verdict) c.leave_out.ensures c.in_ok-verdict.ensures.verdict in (
      c.in-Some.ensures _ _ _ _ verdict,
      ap (λ (t : Trial). t.kept) c.put_back.ensures
          ∙ ap (λ (t : Trial). slice_set t.kept c.args.place true) (c.in_ok-verdict.ensures.stays ∙ c.leave_out.ensures)
          ∙ put_back c.args.trial.now.kept c.args.place c.requires.kept,
    )
