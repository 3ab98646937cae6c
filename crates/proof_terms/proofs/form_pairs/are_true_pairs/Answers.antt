use Rattle.std.proofs.Common.{◌≡◌, true, false, ◌*◌, sym, ◌∙◌}
use Rattle.proof_terms.specs.FormPairs.{by_pairs, by_negative, lacking, no_negative, without}
use Rattle.proof_terms.proofs.FormChosen.{from_in, positive}
use Rattle.proof_terms.proofs.FormAlways.{free_by}
use Rattle.proof_terms.proofs.form_pairs.are_true_pairs.Goals as goal

pub returns-then-has-clause-yes : goal.returns-then-has-clause-yes
returns-then-has-clause-yes c = λ e. by_pairs (positive c.args.codes.now c.args.own (sym c.has.ensures ∙ c.if-has.true)) (c.has_all_pairs.ensures.yes e)

pub returns-then-has-clause-no : goal.returns-then-has-clause-no
returns-then-has-clause-no c = λ e.
    lacking (c.has_clash.ensures.none c.if-has_clash.false) (positive c.args.codes.now c.args.own (sym c.has.ensures ∙ c.if-has.true)) (c.has_all_pairs.ensures.no e)

pub returns-then-has-2-clause-yes : goal.returns-then-has-2-clause-yes
returns-then-has-2-clause-yes c = λ e.
    let found : c.has_negative.result ≡ true = cc in
    by_negative (from_in c.args.codes.now (c.args.own * 2) (sym c.has-2.ensures ∙ c.if-has-2.true)) (c.has_negative.ensures.yes found)

pub returns-then-has-2-clause-no : goal.returns-then-has-2-clause-no
returns-then-has-2-clause-no c = λ e.
    let found : c.has_negative.result ≡ false = cc in
    no_negative (c.has_clash.ensures.none c.if-has_clash.false) (from_in c.args.codes.now (c.args.own * 2) (sym c.has-2.ensures ∙ c.if-has-2.true)) (c.has_negative.ensures.no found)

pub returns-clause-no : goal.returns-clause-no
returns-clause-no c = λ _.
    without (c.has_clash.ensures.none c.if-has_clash.false) (free_by c.args.codes.now c.args.own (sym c.has.ensures ∙ c.if-has.false) (sym c.has-2.ensures ∙ c.if-has-2.false))
