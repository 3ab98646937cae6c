use Rattle.std.proofs.Common.{sym, subst}
use Rattle.difference_logic.specs.Edges.{AreTagsWith}
use Rattle.difference_logic.proofs.Tagging.{with_own}
use Rattle.difference_logic.proofs.repair.cycle_tags.Goals as goal

pub returns : goal.returns
returns c =
    subst (AreTagsWith c.args.edges.now c.args.edge) (sym c.in_ok-push.ensures.items) (with_own c.args.edges.now c.args.edge c.in_ok-tags.tags.items c.in_ok-tags.ensures)
