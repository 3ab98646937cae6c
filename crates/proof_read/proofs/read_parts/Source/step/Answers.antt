use Rattle.proof_read.proofs.ReadStepForms.{reads_step}
use Rattle.proof_read.proofs.read_parts.Source.step.Goals as goal

pub returns-in-Some-step_name : goal.returns-in-Some-step_name
returns-in-Some-step_name c =
    reads_step c.args.self.now.proof.now c.args.at.now c.enter_named.new.at c.step_rest.new.at _ _ c.in-Some-step_name.rule c.step_rest.result c.in-Some.ensures c.in-Some-step_name.ensures c.step_rest.ensures
