use Rattle.closure_log.proofs.Clausing.{false_where_read}
use Rattle.closure_log.proofs.clause.false_clause.Goals as goal

pub returns : goal.returns
returns c = false_where_read c.odd_clause_is_true.ensures c.flat_says_the_same.ensures c.args.clause.items c.lemma_of.result c.lemma_of.ensures.conflict
