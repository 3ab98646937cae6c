use Rattle.std.proofs.Common.{◌∙◌, subst}
use Rattle.std.specs.Prelude.{IfOk}
use Rattle.smt_meaning.specs.StackCommand.{Stack}
use Rattle.theory_port.specs.Verdicts.{IsVerdict}
use Rattle.theory_port.proofs.finding.found.Goals as goal

pub returns-clause-found : goal.returns-clause-found
returns-clause-found g c =
    let seen = c.into_stack-seen.ensures.same ∙ c.replace.ensures.value ∙ c.find_by_part.ensures.stays in
    subst (λ (s : Stack). IfOk c.decide-found.result (IsVerdict c.args.settings.now.workers s.trees s.frames c.args.settings.now.units)) seen c.decide-found.ensures.verdict
