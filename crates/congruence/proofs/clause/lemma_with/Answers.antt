use Rattle.std.proofs.Common.{rules, ◌≡◌, subst, sym}
use Rattle.congruence.specs.Clauses.{IsFalseClause}
use Rattle.congruence.proofs.Clausing.{false_is_conflict}
use Rattle.congruence.proofs.clause.lemma_with.Goals as goal

pub returns-clause-conflict : goal.returns-clause-conflict
returns-clause-conflict c = λ ds t told h.
    let same : c.from_vec.result ≡ c.args.literals.items = search rules in
    false_is_conflict ds t c.from_vec.result told (subst (IsFalseClause ds t.reading.trees t.reading.table t.log) (sym same) h)
