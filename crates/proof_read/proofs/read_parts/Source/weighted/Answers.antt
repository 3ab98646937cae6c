use Rattle.std.proofs.Common.{sym}
use Rattle.proof_read.proofs.ReadStepForms.{unread_weighted, takes_weighted}
use Rattle.proof_read.proofs.read_parts.Source.weighted.Goals as goal

pub returns : goal.returns
returns c =
    takes_weighted _ _ _ _ _ _ _ _ c.in-Some.ensures.0 c.in-Some.ensures.1 c.in-Some-multiplier.ensures (rw c.in-Some-2.is at c.in_ok-literal.ensures) (sym c.if-not-is_end.ensures)

pub returns-then-not-is_end : goal.returns-then-not-is_end
returns-then-not-is_end c =
    unread_weighted _ _ _ _ _ _ _ _ c.in-Some.ensures.0 c.in-Some.ensures.1 c.in-Some-multiplier.ensures (rw c.in-Some-2.is at c.in_ok-literal.ensures) (sym c.if-not-is_end.ensures)
