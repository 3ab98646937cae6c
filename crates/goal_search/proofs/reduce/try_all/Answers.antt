use Rattle.std.proofs.Common.{◌∙◌, ◌+◌, sym, subst, refl, slice_index}
use Rattle.smt_meaning.specs.StackCommand.{Stack}
use Rattle.goal_search.specs.Tries.{IsTried}
use Rattle.goal_search.proofs.Trying.{IsStage, first_stage, next_marked, next_stage, last_stage}
use Rattle.goal_search.proofs.reduce.try_all.Goals as goal

pub loop-place-init : goal.loop-place-init
loop-place-init g c =
    record {
      may = c.requires.may;
      stays = refl;
      stage = subst (IsStage c.args.settings.now.workers c.args.trial.now.stack c.args.settings.now.units c.args.candidates.now 0 c.args.trial.now.kept) (sym c.new-held.ensures)
          (first_stage c.args.settings.now.workers c.args.trial.now.stack c.args.settings.now.units c.args.candidates.now c.args.trial.now.kept c.requires.candidates c.requires.whole c.requires.none);
    }

pub try_without-requires-clause-kept : goal.try_without-requires-clause-kept
try_without-requires-clause-kept g c =
    next_marked c.args.settings.now.workers c.args.trial.now.stack c.args.settings.now.units c.args.candidates.now c.loop-place.place-index (slice_index c.args.candidates.now c.loop-place.place-index) c.loop-place.trial.kept
    c.loop-place.held c.loop-place-test.true refl c.loop-place.invariant.stage

pub loop-place-preserved : goal.loop-place-preserved
loop-place-preserved g c =
    let place = slice_index c.args.candidates.now c.loop-place.place-index in
    let tried : IsTried c.args.settings.now.workers c.args.trial.now.stack c.args.settings.now.units place c.loop-place.trial.kept c.in_ok-why.why c.try_without.new.trial.kept =
    subst (λ (s : Stack). IsTried c.args.settings.now.workers s c.args.settings.now.units place c.loop-place.trial.kept c.in_ok-why.why c.try_without.new.trial.kept) c.loop-place.invariant.stays c.in_ok-why.ensures.tried in
    record {
      may = c.try_without.ensures.still;
      stays = c.in_ok-why.ensures.stack ∙ c.loop-place.invariant.stays;
      stage = subst (IsStage c.args.settings.now.workers c.args.trial.now.stack c.args.settings.now.units c.args.candidates.now (c.loop-place.place-index + 1) c.try_without.new.trial.kept) (sym c.in_ok-hold.ensures)
          (next_stage c.args.settings.now.workers c.args.trial.now.stack c.args.settings.now.units c.args.candidates.now c.loop-place.place-index place c.loop-place.trial.kept c.loop-place.held c.loop-place-test.true refl
          c.loop-place.invariant.stage c.in_ok-why.why c.try_without.new.trial.kept tried);
    }

pub returns-clause-core : goal.returns-clause-core
returns-clause-core g c =
    last_stage c.args.settings.now.workers c.args.trial.now.stack c.args.settings.now.units c.args.candidates.now c.loop-place.place-index c.loop-place.trial.kept c.loop-place.held c.loop-place-test.false
    c.loop-place.invariant.stage
