use Rattle.std.proofs.Common.{arith}
use Rattle.look_ahead.proofs.MarkLemmas.{leave_marked, enter_marked, enter_nothing, word_marked}
use Rattle.look_ahead.proofs.marks.mark.Goals as goal

pub returns-in_ok-push-in-Leave : goal.returns-in_ok-push-in-Leave
returns-in_ok-push-in-Leave c = leave_marked c.args.term.now c.args.place _ _ _ c.requires.within c.in-Leave.ensures.rest c.in_ok-push-in-Leave.ensures.items c.requires.marked

pub returns-in-Some : goal.returns-in-Some
returns-in-Some c = enter_marked c.args.term.now c.args.place _ c.args.closing.now.items _ c.in-Some.close c.requires.within c.in-Enter.ensures.rest c.in-Some.ensures.items c.requires.marked

pub returns-in_default-pop : goal.returns-in_default-pop
returns-in_default-pop c = absurd (enter_nothing c.args.term.now c.args.place _ c.args.closing.now.items c.in-Enter.ensures.rest (grind arith) (c.requires.inside c.args.place) c.requires.marked)

pub returns-in_default : goal.returns-in_default
returns-in_default c = word_marked c.args.term.now c.args.place _ _ c.token.result c.token.ensures.rest c.in_default.not-Enter c.in_default.not-Leave c.requires.marked
