use Rattle.std.proofs.lemmas.Option.{IfSome_then}
use Rattle.sum_bounds.proofs.SplitLaws.{keeps_values, keeps_both, conflict_back}
use Rattle.sum_bounds.proofs.splits.conflict_and_undo.Goals as goal

pub returns-clause-keeps : goal.returns-clause-keeps
returns-clause-keeps c =
    keeps_both c.args.copy.now c.conflict-found.new.copy c.undo_to.new.self c.conflict-found.ensures.keeps (keeps_values c.conflict-found.new.copy c.undo_to.new.self c.undo_to.ensures.values)

pub returns-clause-some : goal.returns-clause-some
returns-clause-some c =
    IfSome_then c.conflict-found.result c.conflict-found.ensures.some (λ ls h. conflict_back c.args.copy.now c.conflict-found.new.copy ls.items c.conflict-found.ensures.keeps c.conflict-found.ensures.told h)
