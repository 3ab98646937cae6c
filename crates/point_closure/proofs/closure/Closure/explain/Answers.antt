use Rattle.point_closure.proofs.LawLemmas.{equal_then_root}
use Rattle.point_closure.proofs.closure.Closure.explain.Goals as goal

pub explain-requires-clause-same : goal.explain-requires-clause-same
explain-requires-clause-same c = equal_then_root c.args.self.now c.classes_are_the_closure.ensures c.requires.whole c.unions-each.ensures.each c.args.left c.args.right c.requires.equal
