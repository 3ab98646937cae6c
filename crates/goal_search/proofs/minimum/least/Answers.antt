use Rattle.std.proofs.Common.{sym, subst}
use Rattle.smt_meaning.specs.StackCommand.{Stack}
use Rattle.smt_meaning.specs.Term.{tree_at}
use Rattle.goal_search.specs.declared.text.Ask.TheVariants.{Itself}
use Rattle.goal_search.specs.Goals.{IsGoal, IsLeast}
use Rattle.goal_search.specs.Points.{IsPoint, IsStep}
use Rattle.goal_search.proofs.Asking.{none_at_all}
use Rattle.goal_search.proofs.minimum.least.Goals as goal

pub descend-requires-clause-goal : goal.descend-requires-clause-goal
descend-requires-clause-goal g c = subst (λ (s : Stack). IsGoal s c.args.text.now c.args.term) (sym c.in_ok-step.ensures.stays) c.requires.goal

pub descend-requires-clause-point : goal.descend-requires-clause-point
descend-requires-clause-point g c =
    let old = c.args.stack.now in
    let step : IsStep c.args.settings.now.workers old.trees old.frames c.args.settings.now.units c.args.text.now (tree_at old.trees c.args.term) Itself c.in_ok-step.step = c.in_ok-step.ensures.step in
    subst (λ (s : Stack). IsPoint s.frames c.args.text.now (tree_at s.trees c.args.term) c.in-Lower.point) (sym c.in_ok-step.ensures.stays)
    (subst (IsStep c.args.settings.now.workers old.trees old.frames c.args.settings.now.units c.args.text.now (tree_at old.trees c.args.term) Itself) c.in-Lower.is step).0

pub returns-in_ok-found-in-Lower-clause-least : goal.returns-in_ok-found-in-Lower-clause-least
returns-in_ok-found-in-Lower-clause-least g c =
    subst (λ (s : Stack). IsLeast c.args.settings.now.workers s.trees s.frames c.args.settings.now.units c.args.text.now (tree_at s.trees c.args.term) c.in_ok-found-in-Lower.found.value) c.in_ok-step.ensures.stays
    c.in_ok-found-in-Lower.ensures.least

pub returns-in-Nothing-clause-least : goal.returns-in-Nothing-clause-least
returns-in-Nothing-clause-least g c =
    let old = c.args.stack.now in
    let t = tree_at old.trees c.args.term in
    none_at_all old.frames c.args.text.now t (subst (IsStep c.args.settings.now.workers old.trees old.frames c.args.settings.now.units c.args.text.now t Itself) c.in-Nothing.is c.in_ok-step.ensures.step)

pub returns-in-Unknown-clause-least : goal.returns-in-Unknown-clause-least
returns-in-Unknown-clause-least g c =
    let old = c.args.stack.now in
    subst (IsStep c.args.settings.now.workers old.trees old.frames c.args.settings.now.units c.args.text.now (tree_at old.trees c.args.term) Itself) c.in-Unknown.is c.in_ok-step.ensures.step
