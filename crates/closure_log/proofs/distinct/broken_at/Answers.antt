use Rattle.std.proofs.Common.{length}
use Rattle.closure_log.proofs.DistinctClauses.{all_within}
use Rattle.closure_log.proofs.distinct.broken_at.Goals as goal

pub equal_arguments-requires-clause-within : goal.equal_arguments-requires-clause-within
equal_arguments-requires-clause-within c =
    all_within (length c.args.stack.now.trees) (length c.args.congruence.now.closure.graph) c.in-Some.arguments.now c.in-Some.ensures.some.within c.requires.grounded.reasoned.every
