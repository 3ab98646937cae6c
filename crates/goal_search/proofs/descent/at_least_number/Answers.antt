use Rattle.std.proofs.Common.{sym, subst}
use Rattle.smt_meaning.specs.Term.{tree_at}
use Rattle.goal_search.specs.declared.text.Ask.TheVariants.{BelowLeast}
use Rattle.goal_search.specs.Goals.{IsLeast}
use Rattle.goal_search.specs.Points.{IsStep}
use Rattle.goal_search.proofs.Above.{best_at_bottom, minimum_at_bottom, never_lower}
use Rattle.goal_search.proofs.descent.at_least_number.Goals as goal

pub unreachable-requires : goal.unreachable-requires
unreachable-requires g c =
    let old = c.args.stack.now in
    let t = tree_at old.trees c.args.term in
    never_lower old.frames c.args.text.now t c.in-Lower.field-0
    (subst (IsStep c.args.settings.now.workers old.trees old.frames c.args.settings.now.units c.args.text.now t BelowLeast) c.in-Lower.is c.in_ok-step.ensures.step)

pub returns-in-Nothing-clause-least : goal.returns-in-Nothing-clause-least
returns-in-Nothing-clause-least g c =
    let old = c.args.stack.now in
    let t = tree_at old.trees c.args.term in
    subst (IsLeast c.args.settings.now.workers old.trees old.frames c.args.settings.now.units c.args.text.now t) (sym c.minimum.ensures)
    (minimum_at_bottom c.args.settings.now.workers old.trees old.frames c.args.settings.now.units c.args.text.now t c.args.point c.requires.point c.requires.least
    (subst (IsStep c.args.settings.now.workers old.trees old.frames c.args.settings.now.units c.args.text.now t BelowLeast) c.in-Nothing.is c.in_ok-step.ensures.step))

pub returns-in-Unknown-clause-least : goal.returns-in-Unknown-clause-least
returns-in-Unknown-clause-least g c =
    let old = c.args.stack.now in
    let t = tree_at old.trees c.args.term in
    best_at_bottom c.args.settings.now.workers old.trees old.frames c.args.settings.now.units c.args.text.now t c.args.point c.in-Unknown.reports c.requires.point c.requires.least
    (subst (IsStep c.args.settings.now.workers old.trees old.frames c.args.settings.now.units c.args.text.now t BelowLeast) c.in-Unknown.is c.in_ok-step.ensures.step)
