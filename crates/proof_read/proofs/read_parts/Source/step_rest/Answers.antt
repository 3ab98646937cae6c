use Rattle.proof_read.proofs.ReadStepForms.{reads_plain}
use Rattle.proof_read.proofs.read_parts.Source.step_rest.Goals as goal

pub returns-in_default : goal.returns-in_default
returns-in_default c =
    reads_plain c.args.self.now.proof.now c.args.name c.args.at.now c.plain_step.new.at c.plain_step.result c.in_default.not-Form c.in_default.not-Round c.in_default.not-Farkas c.in_default.not-Res c.plain_step.ensures
