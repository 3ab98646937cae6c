use Rattle.std.proofs.Common.{sym}
use Rattle.model_eval.proofs.Looks.{lengths_differ}
use Rattle.model_eval.proofs.rows.same_list.Goals as goal

pub returns-then-a-b : goal.returns-then-a-b
returns-then-a-b c = sym (lengths_differ c.args.a.now c.args.b.now c.if-a-b.true)
