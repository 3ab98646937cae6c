use Rattle.std.proofs.Common.{refl}
use Rattle.cdcl_core.proofs.Forgotten.{forgotten}
use Rattle.cdcl_core.proofs.forget.forget_one.Goals as goal

pub returns-then-is_spare : goal.returns-then-is_spare
returns-then-is_spare c = forgotten c.args.forgetting c.args.id c.args.store.now c.forget.new.self c.forget.ensures c.requires.allowed c.requires.late c.steps-steps.ensures.unique (c.if-is_spare.ensures.kept refl)
