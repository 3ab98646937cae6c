use Rattle.smt_sorts.proofs.KeptLemmas.{taken_of}
use Rattle.smt_sorts.proofs.table.Table.take_kept.Goals as goal

pub returns-clause-of : goal.returns-clause-of
returns-clause-of c = taken_of c.self.inside.count c.self.inside.given c.self.inside.base c.self.inside.entries c.args.self.now c.take.result c.self.inside.kept c.self.invariant.0 c.self.view_is c.take.ensures.value c.self.invariant.1
