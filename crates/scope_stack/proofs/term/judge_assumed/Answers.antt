use Rattle.std.proofs.Common.{◌≡◌, ◌∙◌, ◌≤◌, List, map, true, false, length, arith, ap, sym, subst}
use Rattle.std.proofs.lemmas.Result.{err_from_is_err_and}
use Rattle.smt_meaning.specs.declared.values.Sort.TheVariants.{Bool as Truths}
use Rattle.smt_meaning.specs.Signature.{all_of as all_sorts}
use Rattle.scope_stack.specs.declared.answers.Asked.{Asked}
use Rattle.smt_meaning.specs.StackCommand.{most_terms}
use Rattle.scope_stack.specs.Judged.{assertions_by, scope_by, sort_asked}
use Rattle.scope_stack.proofs.AssumeLemmas.{are_assumed, assumed_cause, not_all_bool, too_deep}
use Rattle.scope_stack.proofs.term.judge_assumed.Goals as goal

pub returns-in_err-asked-clause-causes : goal.returns-in_err-asked-clause-causes
returns-in_err-asked-clause-causes c =
    let p = err_from_is_err_and c.from_residual.result c.from_residual.ensures.1 in
    rw (p.1, p.2) (assumed_cause c.args.depth c.args.texts.now (scope_by c.args.table.now c.args.terms.now.trees) _ c.in_err-asked.ensures.causes)

pub returns-then-not-are_bool-clause-causes : goal.returns-then-not-are_bool-clause-causes
returns-then-not-are_bool-clause-causes c =
    not_all_bool c.args.texts.now c.args.table.now c.judge_terms.new.table c.args.terms.now.trees c.judge_terms.new.terms.trees c.in_ok-asked.asked c.in_ok-asked.ensures.gives c.args.depth
    (subst (λ (ys : List Asked). all_sorts Truths (map sort_asked ys) ≡ false) c.as_slice.ensures (sym c.are_bool.ensures ∙ c.if-not-are_bool.true))

pub returns-then-depth-eq65535-clause-causes : goal.returns-then-depth-eq65535-clause-causes
returns-then-depth-eq65535-clause-causes c =
    let le : length c.judge_terms.new.terms.trees ≤ most_terms = omega (arith, c.len.ensures.within, c.in_ok-asked.ensures.limit, c.requires) in
    too_deep c.args.texts.now c.args.table.now c.judge_terms.new.table c.args.terms.now.trees c.judge_terms.new.terms.trees c.in_ok-asked.asked c.in_ok-asked.ensures.gives c.args.depth
    (subst (λ (ys : List Asked). all_sorts Truths (map sort_asked ys) ≡ true) c.as_slice.ensures (sym c.are_bool.ensures ∙ c.if-not-are_bool.false)) le c.if-depth-eq65535.true

pub returns-clause-gives : goal.returns-clause-gives
returns-clause-gives c =
    let le : length c.judge_terms.new.terms.trees ≤ most_terms = omega (arith, c.len.ensures.within, c.in_ok-asked.ensures.limit, c.requires) in
    are_assumed c.args.texts.now c.args.table.now c.judge_terms.new.table c.args.terms.now.trees c.judge_terms.new.terms.trees c.in_ok-asked.asked c.in_ok-asked.ensures.gives c.args.depth
    c.in_ok-made.made.items c.in_ok-asked.ensures.within (subst (λ (ys : List Asked). all_sorts Truths (map sort_asked ys) ≡ true) c.as_slice.ensures (sym c.are_bool.ensures ∙ c.if-not-are_bool.false)) le
    (omega (arith, c.if-depth-eq65535.false, c.ranges.depth.fits)) (c.in_ok-made.ensures ∙ ap (assertions_by c.args.texts.now) c.as_slice-2.ensures)
