use Rattle.std.proofs.Common.{length}
use Rattle.worker.proofs.Carried.{not_none, over_all, shared_follows}
use Rattle.worker.proofs.export.share_clause.Goals as goal

pub write_clause-requires : goal.write_clause-requires
write_clause-requires g c = over_all (length (g.T.Theory.state c.args.theory.now).reading.table) c.args.clause.now.literals c.as_slice.result.now c.as_slice.ensures c.requires.addable.1

pub share-requires-clause-follows : goal.share-requires-clause-follows
share-requires-clause-follows g c =
    shared_follows c.flat_says_the_same.ensures c.follows_as_written.ensures c.args.stack.now (g.T.Theory.state c.args.theory.now).reading c.args.clause.now _ c.in-Ok.clause c.depth.result
    c.as_slice.result.now c.assertions.result.now c.requires.base c.requires.heard c.requires.addable c.assertions.ensures (not_none (length c.assertions.result.now) c.if-is_empty.ensures) c.depth.ensures
    c.as_slice.ensures c.in-Ok.ensures
