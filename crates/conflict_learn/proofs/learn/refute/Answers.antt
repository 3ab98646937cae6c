use Rattle.std.proofs.Common.{[], ◌∙◌, subst, sym}
use Rattle.conflict_learn.specs.Learning.{ComesFrom}
use Rattle.conflict_learn.proofs.Concluding.{refuted}
use Rattle.conflict_learn.proofs.Descent.{none_waits}
use Rattle.conflict_learn.proofs.learn.refute.Goals as goal

pub returns-clause-refuted : goal.returns-clause-refuted
returns-clause-refuted c =
    let d = c.in_ok-_top.ensures.comes in
    subst (λ n. ComesFrom c.args.store.now.clauses c.resolve_deepest.new.self.premises n []) (sym c.level.ensures)
    (refuted c.args.store.now.clauses c.args.store.now.trail.steps c.resolve_deepest.new.self c.args.id c.in_ok-_top._top d.sound d.grounded (d.deepest ∙ c.requires.deepest)
    (none_waits c.args.store.now.trail.steps c.resolve_deepest.new.self c.in_ok-_top._top d.at d.count))
