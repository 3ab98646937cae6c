use Rattle.proof_read.proofs.ReadArrange.{items_nonzero, reads_arranged_sum, reads_unordered_sum}
use Rattle.proof_read.proofs.read_parts.Source.sum.Goals as goal

pub arranged-requires : goal.arranged-requires
arranged-requires c = items_nonzero _ _ _ _ (rw c.in-Some.is at c.in_ok-summands.ensures) c.if-own.true

pub returns-then-own : goal.returns-then-own
returns-then-own c =
    reads_arranged_sum _ _ _ _ _ _ _ c.new-own.ensures (rw c.in-Some.is at c.in_ok-summands.ensures) c.note.ensures c.if-own.true c.arranged.ensures

pub returns-else-own : goal.returns-else-own
returns-else-own c =
    reads_unordered_sum _ _ _ _ _ _ _ c.new-own.ensures (rw c.in-Some.is at c.in_ok-summands.ensures) c.note.ensures c.if-own.false c.without_order.ensures
