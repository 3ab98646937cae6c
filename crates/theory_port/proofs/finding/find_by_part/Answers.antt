use Rattle.std.proofs.Common.{◌≡◌, ◌∙◌, ap, subst}
use Rattle.smt_meaning.specs.StackCommand.{Stack}
use Rattle.theory_port.specs.Found.{IsSettled}
use Rattle.theory_port.proofs.finding.find_by_part.Goals as goal

pub returns-in_ok-found-in-Ok-clause-found : goal.returns-in_ok-found-in-Ok-clause-found
returns-in_ok-found-in-Ok-clause-found g c =
    let same : c.stack.result.now.frames ≡ c.args.stack.now.frames = c.stack.ensures ∙ ap (λ (s : Stack). s.frames) (c.in-Ok.ensures.ok ∙ c.replace-whole.ensures.value) in
    subst (λ fs. IsSettled fs c.settled.result) same (c.settled.ensures c.args.settings.now.workers c.stack.result.now.trees c.stack.result.now.frames c.args.settings.now.units c.in_ok-found-in-Ok.ensures.verdict)
