use Rattle.closure_log.specs.Said.{AreSaidBy}
use Rattle.closure_log.proofs.said.add_choices.Given as goal

abbrev pub invariant-loop-link : goal.invariant-loop-link
invariant-loop-link l = AreSaidBy l.store.trees l.condition l.value l.initial.steps.items → AreSaidBy l.store.trees l.condition l.value l.steps.items

abbrev pub decreases-loop-link : goal.decreases-loop-link
decreases-loop-link l = l.link
