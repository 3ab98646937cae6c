use Rattle.std.proofs.Common.{sym, ◌∙◌, ap}
use Rattle.proof_terms.specs.FormValues.{on_rest}
use Rattle.proof_terms.proofs.FormChosen.{at_negative, at_positive, at_other, turned_same, turned_other}
use Rattle.proof_terms.proofs.form_values.truth.Goals as goal

pub returns-then-has : goal.returns-then-has
returns-then-has c = sym (at_negative c.args.codes.now c.args.rest c.args.turned c.args.number (sym c.if-has.ensures))

pub returns-then-has-2 : goal.returns-then-has-2
returns-then-has-2 c = sym (at_positive c.args.codes.now c.args.rest c.args.turned c.args.number (sym c.if-has.ensures) (sym c.if-has-2.ensures))

pub returns-then-other-number : goal.returns-then-other-number
returns-then-other-number c =
    sym (turned_same c.args.rest c.in-Some.other c.args.number c.if-other-number.true) ∙ ap (λ t. on_rest c.args.rest t c.args.number) (sym c.in-Some.is)
    ∙ sym (at_other c.args.codes.now c.args.rest c.args.turned c.args.number (sym c.if-has.ensures) (sym c.if-has-2.ensures))

pub returns-else-other-number : goal.returns-else-other-number
returns-else-other-number c =
    sym (turned_other c.args.rest c.in-Some.other c.args.number c.if-other-number.false) ∙ ap (λ t. on_rest c.args.rest t c.args.number) (sym c.in-Some.is)
    ∙ sym (at_other c.args.codes.now c.args.rest c.args.turned c.args.number (sym c.if-has.ensures) (sym c.if-has-2.ensures))

pub returns-in-None : goal.returns-in-None
returns-in-None c =
    ap (λ t. on_rest c.args.rest t c.args.number) (sym c.in-None.is)
    ∙ sym (at_other c.args.codes.now c.args.rest c.args.turned c.args.number (sym c.if-has.ensures) (sym c.if-has-2.ensures))
