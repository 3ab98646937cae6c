use Rattle.std.proofs.Common.{true, set, ap, ◌∙◌}
use Rattle.point_closure.proofs.MarkLemmas.{marked_now}
use Rattle.point_closure.proofs.marks.Marks.set.Goals as goal

pub returns : goal.returns
returns c = marked_now c.self.inside.round c.self.inside.rounds.items c.args.index ∙ ap (λ ms. set ms c.args.index true) c.self.view_is
