use Rattle.std.proofs.Common.{◌≡◌}
use Rattle.goal_search.proofs.Trying.{IsStage}
use Rattle.goal_search.proofs.reduce.try_all.Given as goal

abbrev pub invariant-loop-place : goal.invariant-loop-place
invariant-loop-place g l = record {
  may : g.D.Decider.may l.decider;
  stays : l.trial.stack ≡ l.fn.trial.stack;
  stage : IsStage l.settings.workers l.fn.trial.stack l.settings.units l.candidates l.place-index l.trial.kept l.held;
}
