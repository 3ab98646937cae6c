use Rattle.std.proofs.Common.{◌∙◌, sym, subst}
use Rattle.std.specs.Prelude.{Contains}
use Rattle.search_port.specs.State.{IsFalseIn}
use Rattle.equality_clauses.specs.Ties.{literal}
use Rattle.theory_combine.proofs.Settling.{differ, more_hold, told_false}
use Rattle.theory_combine.proofs.settled.are_false.Goals as goal

pub loop-literal-preserved : goal.loop-literal-preserved
loop-literal-preserved c =
    let told = subst (λ n. Contains c.args.held.now.closure.log.items (literal c.truth_told.result n)) c.atom.ensures c.truth_told.ensures in
    let here = told_false c.args.held.now.closure.log.items c.literal-item.result c.truth_told.result told (λ e. differ c.truth_told.result c.is_positive.result c.if-truth_told-is_positive.false (e ∙ sym c.is_positive.ensures)) in
    more_hold (IsFalseIn c.args.held.now.closure.log.items) c.args.literals.now c.loop-literal.literal-index c.literal-item.result c.loop-literal-test.true c.literal-item.is here c.loop-literal.invariant
