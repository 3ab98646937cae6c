use Rattle.std.proofs.Common.{◌∙◌, ◌-◌, ◌^◌, ◌<◌, ◌≤◌, refl, sym, subst, arith}
use Rattle.std.proofs.lemmas.Nat.{one_shl, pow_pos}
use Rattle.smt_meaning.specs.StackCommand.{Stack}
use Rattle.smt_meaning.specs.Term.{tree_at}
use Rattle.goal_search.specs.Goals.{IsGoal, IsLeast}
use Rattle.goal_search.specs.Points.{IsFloor, IsLowered, IsPoint, number_at}
use Rattle.goal_search.proofs.Above.{best_below, near_first, near_last, near_lower}
use Rattle.goal_search.proofs.descent.descend.Goals as goal

pub loop-turn-init : goal.loop-turn-init
loop-turn-init g c = record { may = c.requires.may; stays = refl; point = c.requires.point; near = near_first c.args.point.above c.requires.point.within }

pub at_least_number-requires-clause-goal : goal.at_least_number-requires-clause-goal
at_least_number-requires-clause-goal g c = subst (λ (s : Stack). IsGoal s c.args.text.now c.args.term) (sym c.loop-turn.invariant.stays) c.requires.goal

pub at_least_number-requires-clause-point : goal.at_least_number-requires-clause-point
at_least_number-requires-clause-point g c = subst (λ (s : Stack). IsPoint s.frames c.args.text.now (tree_at s.trees c.args.term) c.loop-turn.point) (sym c.loop-turn.invariant.stays) c.loop-turn.invariant.point

pub returns-then-point-eq0-clause-least : goal.returns-then-point-eq0-clause-least
returns-then-point-eq0-clause-least g c =
    subst (λ (s : Stack). IsLeast c.args.settings.now.workers s.trees s.frames c.args.settings.now.units c.args.text.now (tree_at s.trees c.args.term) c.in_ok-value.value) c.loop-turn.invariant.stays c.in_ok-value.ensures.least

pub lower-requires-clause-goal : goal.lower-requires-clause-goal
lower-requires-clause-goal g c = subst (λ (s : Stack). IsGoal s c.args.text.now c.args.term) (sym c.loop-turn.invariant.stays) c.requires.goal

pub lower-requires-clause-bound : goal.lower-requires-clause-bound
lower-requires-clause-bound g c = omega (arith, c.saturating_sub-bound.ensures, c.loop-turn.invariant.point.within)

pub narrow-requires-clause-goal : goal.narrow-requires-clause-goal
narrow-requires-clause-goal g c = subst (λ (s : Stack). IsGoal s c.args.text.now c.args.term) (sym (c.in_ok-step.ensures.stays ∙ c.loop-turn.invariant.stays)) c.requires.goal

pub narrow-requires-clause-point : goal.narrow-requires-clause-point
narrow-requires-clause-point g c =
    subst (λ (s : Stack). IsPoint s.frames c.args.text.now (tree_at s.trees c.args.term) c.loop-turn.point) (sym (c.in_ok-step.ensures.stays ∙ c.loop-turn.invariant.stays)) c.loop-turn.invariant.point

pub narrow-requires-clause-floor : goal.narrow-requires-clause-floor
narrow-requires-clause-floor g c =
    let s = c.loop-turn.stack in
    subst (λ (s : Stack). IsFloor s.frames (tree_at s.trees c.args.term) (number_at c.saturating_sub-bound.result)) (sym c.in_ok-step.ensures.stays)
    (subst (IsLowered c.args.settings.now.workers s.trees s.frames c.args.settings.now.units c.args.text.now (tree_at s.trees c.args.term) c.saturating_sub-bound.result) c.in-Nothing.is c.in_ok-step.ensures.lowered)

pub returns-in-Nothing-clause-least : goal.returns-in-Nothing-clause-least
returns-in-Nothing-clause-least g c =
    subst (λ (s : Stack). IsLeast c.args.settings.now.workers s.trees s.frames c.args.settings.now.units c.args.text.now (tree_at s.trees c.args.term) c.in_ok-found-in-Nothing.found.value)
    (c.in_ok-step.ensures.stays ∙ c.loop-turn.invariant.stays) c.in_ok-found-in-Nothing.ensures.least

pub best-requires : goal.best-requires
best-requires g c = omega (arith, c.saturating_sub-bound.ensures, c.loop-turn.invariant.point.within)

pub returns-in-Unknown-clause-least : goal.returns-in-Unknown-clause-least
returns-in-Unknown-clause-least g c =
    let old = c.args.stack.now in
    let t = tree_at old.trees c.args.term in
    let bound = c.saturating_sub-bound.result in
    let step : IsLowered c.args.settings.now.workers old.trees old.frames c.args.settings.now.units c.args.text.now t bound c.in_ok-step.step =
    subst (λ (s : Stack). IsLowered c.args.settings.now.workers s.trees s.frames c.args.settings.now.units c.args.text.now (tree_at s.trees c.args.term) bound c.in_ok-step.step) c.loop-turn.invariant.stays c.in_ok-step.ensures.lowered in
    let below : bound < c.loop-turn.point.above = omega (arith, c.saturating_sub-bound.ensures, one_shl c.loop-turn.turn 128 c.loop-turn-test.true, pow_pos c.loop-turn.turn, c.if-point-eq0.false) in
    subst (IsLeast c.args.settings.now.workers old.trees old.frames c.args.settings.now.units c.args.text.now t) (sym c.best.ensures)
    (best_below c.args.settings.now.workers old.trees old.frames c.args.settings.now.units c.args.text.now t c.loop-turn.point bound c.in-Unknown.reports c.loop-turn.invariant.point below
    (subst (IsLowered c.args.settings.now.workers old.trees old.frames c.args.settings.now.units c.args.text.now t bound) c.in-Unknown.is step))

pub loop-turn-preserved : goal.loop-turn-preserved
loop-turn-preserved g c =
    let old = c.args.stack.now in
    let t = tree_at old.trees c.args.term in
    let bound = c.saturating_sub-bound.result in
    let step : IsLowered c.args.settings.now.workers old.trees old.frames c.args.settings.now.units c.args.text.now t bound c.in_ok-step.step =
    subst (λ (s : Stack). IsLowered c.args.settings.now.workers s.trees s.frames c.args.settings.now.units c.args.text.now (tree_at s.trees c.args.term) bound c.in_ok-step.step) c.loop-turn.invariant.stays c.in_ok-step.ensures.lowered in
    let next : IsPoint old.frames c.args.text.now t c.in-Lower.next × (c.in-Lower.next.above ≤ bound) =
    subst (IsLowered c.args.settings.now.workers old.trees old.frames c.args.settings.now.units c.args.text.now t bound) c.in-Lower.is step in
    let lower : c.in-Lower.next.above ≤ c.loop-turn.point.above - 2 ^ c.loop-turn.turn = omega (arith, next.1, c.saturating_sub-bound.ensures, one_shl c.loop-turn.turn 128 c.loop-turn-test.true) in
    record {
      may = c.lower.ensures.still;
      stays = c.in_ok-step.ensures.stays ∙ c.loop-turn.invariant.stays;
      point = next.0;
      near = near_lower c.loop-turn.turn c.loop-turn.point.above c.in-Lower.next.above c.loop-turn.invariant.near (omega (arith, c.if-point-eq0.false)) lower;
    }

pub at_least_number-requires-2-clause-goal : goal.at_least_number-requires-2-clause-goal
at_least_number-requires-2-clause-goal g c = subst (λ (s : Stack). IsGoal s c.args.text.now c.args.term) (sym c.loop-turn.invariant.stays) c.requires.goal

pub at_least_number-requires-2-clause-point : goal.at_least_number-requires-2-clause-point
at_least_number-requires-2-clause-point g c = subst (λ (s : Stack). IsPoint s.frames c.args.text.now (tree_at s.trees c.args.term) c.loop-turn.point) (sym c.loop-turn.invariant.stays) c.loop-turn.invariant.point

pub at_least_number-requires-2-clause-least : goal.at_least_number-requires-2-clause-least
at_least_number-requires-2-clause-least g c =
    near_last c.loop-turn.point.above c.loop-turn.turn c.loop-turn.invariant.near c.loop-turn.invariant.point.within (omega arith) (omega arith)

pub returns-clause-least : goal.returns-clause-least
returns-clause-least g c =
    subst (λ (s : Stack). IsLeast c.args.settings.now.workers s.trees s.frames c.args.settings.now.units c.args.text.now (tree_at s.trees c.args.term) c.in_ok-value-2.value) c.loop-turn.invariant.stays c.in_ok-value-2.ensures.least
