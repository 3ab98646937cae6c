use Rattle.std.proofs.Common.{sym, subst}
use Rattle.closure_log.specs.Said.{AreSaidBy}
use Rattle.closure_log.proofs.Saying.{own_said}
use Rattle.closure_log.proofs.said.add_own.Goals as goal

pub returns-then-watched-term : goal.returns-then-watched-term
returns-then-watched-term c = λ ts less said.
    subst (AreSaidBy ts c.args.term c.args.value) (sym c.in_ok-add_truth_step.ensures) (own_said c.truth_is_justified.ensures ts c.args.term c.args.value c.args.steps.now.items less said)
