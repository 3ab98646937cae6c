use Rattle.std.proofs.Common.{◌/◌, inl, inr, arith}
use Rattle.proof_form.proofs.resolution.opposite.Goals as goal

pub returns-then-code-eq0 : goal.returns-then-code-eq0
returns-then-code-eq0 c = (c.args.code / 2, inl ((omega arith), (omega arith)))

pub returns-else-code-eq0 : goal.returns-else-code-eq0
returns-else-code-eq0 c = (c.args.code / 2, inr ((omega arith), (omega arith)))
