use Rattle.std.proofs.Common.{false, get_or}
use Rattle.std.proofs.lemmas.List.Elements.{Contains-get_or}
use Rattle.cdcl_core.proofs.Forgotten.{unmarked}
use Rattle.cdcl_core.proofs.forget.is_spare.Goals as goal

pub returns-clause-unused : goal.returns-clause-unused
returns-clause-unused c spare k d lt e =
    unmarked c.args.store.now.trail.steps c.args.marks.now c.args.id false c.requires c.if-id-marks.false c.if-marked.false (get_or c.args.store.now.trail.steps k d) (Contains-get_or c.args.store.now.trail.steps k d lt) e
