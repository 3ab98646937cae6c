use Rattle.std.proofs.Common.{arith}
use Rattle.std.proofs.lemmas.Option.{slice_get-get_or, slice_get_past}
use Rattle.elaborate.proofs.Puts.{put_argument, put_false_result}
use Rattle.elaborate.proofs.definitions.put_parameter.Goals as goal

pub returns-then-parameter-arguments-clause-ok : goal.returns-then-parameter-arguments-clause-ok
returns-then-parameter-arguments-clause-ok c =
    put_argument c.args.store.now.trees c.args.arguments.now c.args.parameter _ c.len.ensures.parts (slice_get-get_or c.args.arguments.now c.args.parameter _ (omega arith)) c.requires

pub returns-clause-ok : goal.returns-clause-ok
returns-clause-ok c =
    put_false_result c.args.store.now.trees c.stored.new.store.trees c.args.arguments.now c.args.parameter c.stored.result
    (slice_get_past c.args.arguments.now c.args.parameter (omega arith)) c.stored.ensures.ok
