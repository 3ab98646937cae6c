use Rattle.theory_combine.proofs.settle.settle_values.Goals as goal

pub settle_listed-requires-clause-values : goal.settle_listed-requires-clause-values
settle_listed-requires-clause-values c = rw c.deref.ensures.value c.in-Ok.ensures
