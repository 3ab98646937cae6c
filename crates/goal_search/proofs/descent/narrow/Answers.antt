use Rattle.std.proofs.Common.{◌≡◌, ◌∙◌, ◌+◌, ◌/◌, ◌≤◌, refl, sym, subst, arith}
use Rattle.smt_meaning.specs.StackCommand.{Stack}
use Rattle.smt_meaning.specs.Term.{tree_at}
use Rattle.goal_search.specs.Goals.{IsGoal, IsLeast}
use Rattle.goal_search.specs.Points.{IsLowered}
use Rattle.goal_search.proofs.Above.{IsNarrow, best_below, halved_out, minimum_above, narrowed_by_floor, narrowed_by_value}
use Rattle.goal_search.proofs.descent.narrow.Goals.{in-Lower, in-Nothing}
use Rattle.goal_search.proofs.descent.narrow.Goals as goal

pub loop-turn-init : goal.loop-turn-init
loop-turn-init g c = record {
  may = c.requires.may;
  stays = refl;
  point = c.requires.point;
  floor = c.requires.floor;
  near = omega (arith, c.requires.point.within);
}

pub minimum-requires : goal.minimum-requires
minimum-requires g c = c.loop-turn.invariant.point.within

pub returns-then-gap-le1-clause-least : goal.returns-then-gap-le1-clause-least
returns-then-gap-le1-clause-least g c =
    let old = c.args.stack.now in
    let t = tree_at old.trees c.args.term in
    subst (IsLeast c.args.settings.now.workers old.trees old.frames c.args.settings.now.units c.args.text.now t) (sym c.minimum.ensures)
    (minimum_above c.args.settings.now.workers old.trees old.frames c.args.settings.now.units c.args.text.now t c.loop-turn.point c.loop-turn.floor c.loop-turn.invariant.point c.loop-turn.invariant.floor (omega (arith, c.saturating_sub-gap.ensures, c.if-gap-le1.true)))

pub lower-requires-clause-goal : goal.lower-requires-clause-goal
lower-requires-clause-goal g c = subst (λ (s : Stack). IsGoal s c.args.text.now c.args.term) (sym c.loop-turn.invariant.stays) c.requires.goal

pub lower-requires-clause-bound : goal.lower-requires-clause-bound
lower-requires-clause-bound g c = omega (arith, c.saturating_sub-gap.ensures, c.if-gap-le1.false, c.loop-turn.invariant.point.within)

pub best-requires : goal.best-requires
best-requires g c = omega (arith, c.saturating_sub-gap.ensures, c.if-gap-le1.false, c.loop-turn.invariant.point.within)

pub returns-in-Unknown-clause-least : goal.returns-in-Unknown-clause-least
returns-in-Unknown-clause-least g c =
    let old = c.args.stack.now in
    let t = tree_at old.trees c.args.term in
    let middle = c.loop-turn.floor + c.saturating_sub-gap.result / 2 in
    let step : IsLowered c.args.settings.now.workers old.trees old.frames c.args.settings.now.units c.args.text.now t middle c.in_ok-step.step =
    subst (λ (s : Stack). IsLowered c.args.settings.now.workers s.trees s.frames c.args.settings.now.units c.args.text.now (tree_at s.trees c.args.term) middle c.in_ok-step.step) c.loop-turn.invariant.stays c.in_ok-step.ensures.lowered in
    subst (IsLeast c.args.settings.now.workers old.trees old.frames c.args.settings.now.units c.args.text.now t) (sym c.best.ensures)
    (best_below c.args.settings.now.workers old.trees old.frames c.args.settings.now.units c.args.text.now t c.loop-turn.point middle c.in-Unknown.reports c.loop-turn.invariant.point (omega (arith, c.saturating_sub-gap.ensures, c.if-gap-le1.false))
    (subst (IsLowered c.args.settings.now.workers old.trees old.frames c.args.settings.now.units c.args.text.now t middle) c.in-Unknown.is step))

pub loop-turn-preserved : goal.loop-turn-preserved
loop-turn-preserved g c =
    let old = c.args.stack.now in
    let t = tree_at old.trees c.args.term in
    let middle = c.loop-turn.floor + c.saturating_sub-gap.result / 2 in
    let step : IsLowered c.args.settings.now.workers old.trees old.frames c.args.settings.now.units c.args.text.now t middle c.in_ok-step.step =
    subst (λ (s : Stack). IsLowered c.args.settings.now.workers s.trees s.frames c.args.settings.now.units c.args.text.now (tree_at s.trees c.args.term) middle c.in_ok-step.step) c.loop-turn.invariant.stays c.in_ok-step.ensures.lowered in
    let stays : c.lower.new.stack ≡ old = c.in_ok-step.ensures.stays ∙ c.loop-turn.invariant.stays in
    let inv = c.loop-turn.invariant in
    let here : IsLowered c.args.settings.now.workers old.trees old.frames c.args.settings.now.units c.args.text.now t middle c.in_ok-step.step → IsNarrow old.frames c.args.text.now t (c.loop-turn.turn + 1) c.match-step.point c.match-step.floor =
    elim c.match-step.branch [
      | in-Lower w ↦ λ h. narrowed_by_value c.args.settings.now.workers old.trees old.frames c.args.settings.now.units c.args.text.now t c.loop-turn.turn c.loop-turn.floor c.loop-turn.point c.saturating_sub-gap.result w.in-Lower.next
          c.match-step.point c.match-step.floor inv.floor inv.near c.loop-turn-test.true c.saturating_sub-gap.ensures w.point-is w.floor-is (subst (IsLowered c.args.settings.now.workers old.trees old.frames c.args.settings.now.units c.args.text.now t middle) w.in-Lower.is h)
      | in-Nothing w ↦ λ h. narrowed_by_floor c.args.settings.now.workers old.trees old.frames c.args.settings.now.units c.args.text.now t c.loop-turn.turn c.loop-turn.floor c.loop-turn.point c.saturating_sub-gap.result
          c.match-step.point c.match-step.floor inv.point inv.near c.loop-turn-test.true c.saturating_sub-gap.ensures w.point-is w.floor-is (subst (IsLowered c.args.settings.now.workers old.trees old.frames c.args.settings.now.units c.args.text.now t middle) w.in-Nothing.is h)
    ] in
    let k = here step in
    record { may = c.lower.ensures.still; stays = stays; point = k.point; floor = k.floor_none; near = k.near }

pub minimum-requires-2 : goal.minimum-requires-2
minimum-requires-2 g c = c.loop-turn.invariant.point.within

pub returns-clause-least : goal.returns-clause-least
returns-clause-least g c =
    let old = c.args.stack.now in
    let t = tree_at old.trees c.args.term in
    let near : c.loop-turn.point.above ≤ c.loop-turn.floor + 1 = halved_out c.loop-turn.turn c.loop-turn.floor c.loop-turn.point.above c.loop-turn.invariant.near c.loop-turn-test.false in
    subst (IsLeast c.args.settings.now.workers old.trees old.frames c.args.settings.now.units c.args.text.now t) (sym c.minimum-2.ensures)
    (minimum_above c.args.settings.now.workers old.trees old.frames c.args.settings.now.units c.args.text.now t c.loop-turn.point c.loop-turn.floor c.loop-turn.invariant.point c.loop-turn.invariant.floor near)
