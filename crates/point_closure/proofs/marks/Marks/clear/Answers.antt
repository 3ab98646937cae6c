use Rattle.point_closure.proofs.MarkLemmas.{earlier_off, earlier_up_to}
use Rattle.point_closure.proofs.marks.Marks.clear.Goals as goal

pub invariant_of-self : goal.invariant_of-self
invariant_of-self c =
    let next = c.next_round-self-inside in
    earlier_up_to next.result c.lengthen.new.rounds.items (c.lengthen.ensures.earlier next.result next.ensures.some next.ensures.earlier)

pub returns-clause-off : goal.returns-clause-off
returns-clause-off c =
    let next = c.next_round-self-inside in
    earlier_off next.result c.lengthen.new.rounds.items (c.lengthen.ensures.earlier next.result next.ensures.some next.ensures.earlier)
