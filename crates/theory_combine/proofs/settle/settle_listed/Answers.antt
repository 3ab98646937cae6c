use Rattle.theory_combine.proofs.settle.settle_listed.Goals as goal

pub given_exactly-given-requires-clause-may_be : goal.given_exactly-given-requires-clause-may_be
given_exactly-given-requires-clause-may_be c = rw c.deref.ensures.value c.requires.values.may_be

pub settle_given-requires-clause-given : goal.settle_given-requires-clause-given
settle_given-requires-clause-given c = rw c.deref-in-Ok.ensures.value (record { exact = rw c.deref.ensures.value at c.in-Ok.ensures.exact; given = c.in-Ok.ensures.given; values = rw c.deref.ensures.value at c.in-Ok.ensures.values })
