use Rattle.std.proofs.Common.{Ok, Some, None, ap}
use Rattle.proof_terms.proofs.FormForcing.{forced, forced_choice}
use Rattle.proof_terms.proofs.form_values.is_forced.Goals as goal

pub returns-then-is_choice-clause-yes : goal.returns-then-is_choice-clause-yes
returns-then-is_choice-clause-yes c = λ e.
    forced_choice c.args.parts.connective c.args.codes.now c.args.parts.numbers.now c.args.sign c.requires.signs (c.is_choice.ensures.yes c.if-is_choice.true)
    (c.in_ok-both_give.ensures.yes (ap Ok c.if-not-branch.false)) (c.each_gives.ensures.yes e)

pub returns-in-Some-clause-yes : goal.returns-in-Some-clause-yes
returns-in-Some-clause-yes c = λ e.
    forced c.args.parts.connective c.args.codes.now c.args.parts.numbers.now (Some c.in-Some.number) c.args.sign c.requires.signs c.in-Some.ensures
    (c.in_ok-both_give.ensures.yes (ap Ok c.if-not-branch.false)) (c.both_give-in-Some.ensures.yes e) (c.is_choice.ensures.no c.if-is_choice.false)

pub returns-in-None-clause-yes : goal.returns-in-None-clause-yes
returns-in-None-clause-yes c = λ _.
    forced c.args.parts.connective c.args.codes.now c.args.parts.numbers.now None c.args.sign c.requires.signs c.in-None.ensures
    (c.in_ok-both_give.ensures.yes (ap Ok c.if-not-branch.false)) tt (c.is_choice.ensures.no c.if-is_choice.false)
