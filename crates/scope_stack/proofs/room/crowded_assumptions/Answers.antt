use Rattle.std.proofs.Common.{◌≡◌, ◌∙◌, [], List, map, true, false, sym, ap, subst}
use Rattle.smt_meaning.specs.declared.values.Sort.TheVariants.{Bool as Truths}
use Rattle.smt_meaning.specs.Signature.{all_of as all_sorts}
use Rattle.scope_stack.specs.declared.answers.Asked.{Asked}
use Rattle.smt_meaning.specs.Sorts.{done}
use Rattle.smt_meaning.specs.StackCommand.{judge_terms}
use Rattle.smt_meaning.specs.Term.{Tree}
use Rattle.term_store.specs.Terms.{Terms}
use Rattle.scope_stack.specs.Carries.{typed_by}
use Rattle.scope_stack.specs.Judged.{IsCause, scope_by, sort_asked}
use Rattle.scope_stack.proofs.AssumeLemmas.{assumptions_full, assumptions_not_bool, assumptions_refused}
use Rattle.scope_stack.proofs.room.crowded_assumptions.Goals as goal

pub returns-then-are_bool-clause-causes : goal.returns-then-are_bool-clause-causes
returns-then-are_bool-clause-causes c =
    let empty : c.new-apart.result.trees ≡ [] = ap (λ (s : Terms). s.trees) c.new-apart.ensures in
    assumptions_full c.questions_join_alike.ensures c.args.depth c.args.texts.now c.args.table.now c.judge_terms.new.table c.args.terms.now.trees c.judge_terms.new.terms.trees c.in-Ok.asked
    (subst (λ (ts : List Tree). judge_terms c.args.texts.now (scope_by c.args.table.now ts) ≡ done (typed_by c.judge_terms.new.terms.trees c.in-Ok.asked) (scope_by c.judge_terms.new.table c.judge_terms.new.terms.trees)) empty c.in-Ok.ensures.gives)
    c.room_error.result (subst (λ (ys : List Asked). all_sorts Truths (map sort_asked ys) ≡ true) c.as_slice.ensures (sym c.are_bool.ensures ∙ c.if-are_bool.true)) c.room_error.ensures.error

pub returns-then-are_bool-clause-table : goal.returns-then-are_bool-clause-table
returns-then-are_bool-clause-table c = c.cut_ids.ensures.restored c.args.table.now (sym c.ids-ids.ensures.value) (c.in-Ok.ensures.gained c.args.table.now c.ids-ids.ensures.gained)

pub returns-in-Ok-clause-causes : goal.returns-in-Ok-clause-causes
returns-in-Ok-clause-causes c =
    let empty : c.new-apart.result.trees ≡ [] = ap (λ (s : Terms). s.trees) c.new-apart.ensures in
    assumptions_not_bool c.questions_join_alike.ensures c.args.depth c.args.texts.now c.args.table.now c.judge_terms.new.table c.args.terms.now.trees c.judge_terms.new.terms.trees c.in-Ok.asked
    (subst (λ (ts : List Tree). judge_terms c.args.texts.now (scope_by c.args.table.now ts) ≡ done (typed_by c.judge_terms.new.terms.trees c.in-Ok.asked) (scope_by c.judge_terms.new.table c.judge_terms.new.terms.trees)) empty c.in-Ok.ensures.gives)
    (subst (λ (ys : List Asked). all_sorts Truths (map sort_asked ys) ≡ false) c.as_slice.ensures (sym c.are_bool.ensures ∙ c.if-are_bool.false))

pub returns-in-Ok-clause-table : goal.returns-in-Ok-clause-table
returns-in-Ok-clause-table c = c.cut_ids.ensures.restored c.args.table.now (sym c.ids-ids.ensures.value) (c.in-Ok.ensures.gained c.args.table.now c.ids-ids.ensures.gained)

pub returns-clause-causes : goal.returns-clause-causes
returns-clause-causes c =
    let empty : c.new-apart.result.trees ≡ [] = ap (λ (s : Terms). s.trees) c.new-apart.ensures in
    assumptions_refused c.questions_join_alike.ensures c.args.depth c.args.texts.now c.args.table.now c.args.terms.now.trees c.in-Err.error
    (subst (λ (ts : List Tree). IsCause c.in-Err.error (judge_terms c.args.texts.now (scope_by c.args.table.now ts))) empty c.in-Err.ensures.causes)

pub returns-clause-table : goal.returns-clause-table
returns-clause-table c = c.cut_ids-in-Err.ensures.restored c.args.table.now (sym c.ids-ids.ensures.value) (c.in-Err.ensures.gained c.args.table.now c.ids-ids.ensures.gained)
