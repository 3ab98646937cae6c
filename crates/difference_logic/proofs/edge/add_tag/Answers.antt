use Rattle.std.proofs.Common.{sym, subst}
use Rattle.difference_logic.specs.Edges.{AreTags}
use Rattle.difference_logic.proofs.Tagging.{one_more}
use Rattle.difference_logic.proofs.edge.add_tag.Goals as goal

pub returns-in_ok-push : goal.returns-in_ok-push
returns-in_ok-push c = λ all. subst (AreTags c.args.edges.now) (sym c.in_ok-push.ensures.items) (one_more c.args.edges.now c.args.tags.now.items c.in-Some.edge c.in-Some.ensures all)
