use Rattle.std.proofs.Common.{true, false, sym, ◌∙◌}
use Rattle.proof_terms.proofs.FormChosen.{negative, positive}
use Rattle.proof_terms.proofs.FormAlways.{always_clash, always_forced, sometimes_open, sometimes_free, free_by}
use Rattle.proof_terms.proofs.form_values.is_always.Goals as goal

pub returns-then-has_clash-clause-yes : goal.returns-then-has_clash-clause-yes
returns-then-has_clash-clause-yes c = λ _ u _ f. always_clash c.args.codes.now u (c.has_clash.ensures.clash c.if-has_clash.true) f

pub is_forced-requires-clause-signs : goal.is_forced-requires-clause-signs
is_forced-requires-clause-signs c = c.has_clash.ensures.none c.if-has_clash.false

pub returns-then-has-clause-yes : goal.returns-then-has-clause-yes
returns-then-has-clause-yes c = λ e.
    always_forced c.args.parts.connective c.args.codes.now c.args.own c.args.parts.numbers.now true (positive c.args.codes.now c.args.own (sym c.has.ensures ∙ c.if-has.true))
    (c.is_forced.ensures.yes e)

pub returns-then-has-clause-no : goal.returns-then-has-clause-no
returns-then-has-clause-no c = λ e.
    sometimes_open c.args.parts.connective c.args.codes.now c.args.own c.args.parts.numbers.now true (c.has_clash.ensures.none c.if-has_clash.false)
    (positive c.args.codes.now c.args.own (sym c.has.ensures ∙ c.if-has.true)) (c.is_forced.ensures.no e)

pub is_forced-requires-then-has-2-clause-signs : goal.is_forced-requires-then-has-2-clause-signs
is_forced-requires-then-has-2-clause-signs c = c.has_clash.ensures.none c.if-has_clash.false

pub returns-then-has-2-clause-yes : goal.returns-then-has-2-clause-yes
returns-then-has-2-clause-yes c = λ e.
    always_forced c.args.parts.connective c.args.codes.now c.args.own c.args.parts.numbers.now false
    (negative c.args.codes.now c.args.own (sym c.has-2.ensures ∙ c.if-has-2.true)) (c.is_forced-then-has-2.ensures.yes e)

pub returns-then-has-2-clause-no : goal.returns-then-has-2-clause-no
returns-then-has-2-clause-no c = λ e.
    sometimes_open c.args.parts.connective c.args.codes.now c.args.own c.args.parts.numbers.now false (c.has_clash.ensures.none c.if-has_clash.false)
    (negative c.args.codes.now c.args.own (sym c.has-2.ensures ∙ c.if-has-2.true)) (c.is_forced-then-has-2.ensures.no e)

pub returns-clause-no : goal.returns-clause-no
returns-clause-no c = λ _.
    sometimes_free c.args.parts.connective c.args.codes.now c.args.own c.args.parts.numbers.now (c.has_clash.ensures.none c.if-has_clash.false)
    (free_by c.args.codes.now c.args.own (sym c.has.ensures ∙ c.if-has.false) (sym c.has-2.ensures ∙ c.if-has-2.false)) c.requires.other
