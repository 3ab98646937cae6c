use Rattle.std.proofs.Common.{◌≡◌, ◌∙◌, ap, subst}
use Rattle.std.specs.Prelude.{IfOk}
use Rattle.smt_meaning.specs.Keeping.{keeping}
use Rattle.scope_stack.specs.Trials.{Trial, marks}
use Rattle.theory_port.specs.Verdicts.{IsVerdict}
use Rattle.goal_search.proofs.reduce.check.Goals as goal

pub returns-in-Ok-clause-verdict : goal.returns-in-Ok-clause-verdict
returns-in-Ok-clause-verdict g c =
    let same : c.in-Ok.thinned ≡ c.args.trial.now = c.in-Ok.ensures.ok ∙ c.replace-whole.ensures.value in
    let frames : c.stack.result.now.frames ≡ keeping (marks c.args.trial.now.kept) c.args.trial.now.stack.frames = c.stack.ensures.frames ∙ ap (λ (t : Trial). keeping (marks t.kept) t.stack.frames) same in
    let trees : c.stack.result.now.trees ≡ c.args.trial.now.stack.trees = c.stack.ensures.trees ∙ ap (λ (t : Trial). t.stack.trees) same in
    subst (λ ts. IfOk c.decide-verdict.result (IsVerdict c.args.settings.now.workers ts (keeping (marks c.args.trial.now.kept) c.args.trial.now.stack.frames) c.args.settings.now.units)) trees
    (subst (λ fs. IfOk c.decide-verdict.result (IsVerdict c.args.settings.now.workers c.stack.result.now.trees fs c.args.settings.now.units)) frames c.decide-verdict.ensures.verdict)
