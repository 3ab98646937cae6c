use Rattle.congruence.proofs.Reasoning.{same_conflict}
use Rattle.congruence.proofs.clause.lemma_of.Goals as goal

pub returns-clause-conflict : goal.returns-clause-conflict
returns-clause-conflict c = λ ds t told h.
    c.lemma_with.ensures.conflict ds t told (same_conflict ds t.reading.trees t.reading.table t.log c.args.literals.items c.each_once.result.items c.each_once.ensures.same h)
