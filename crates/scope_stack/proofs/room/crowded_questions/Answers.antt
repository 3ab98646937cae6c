use Rattle.std.proofs.Common.{◌≡◌, [], List, sym, ap, subst}
use Rattle.smt_meaning.specs.Sorts.{done}
use Rattle.smt_meaning.specs.StackCommand.{judge_terms}
use Rattle.smt_meaning.specs.Term.{Tree}
use Rattle.term_store.specs.Terms.{Terms}
use Rattle.scope_stack.specs.Carries.{typed_by}
use Rattle.scope_stack.specs.Judged.{IsCause, scope_by}
use Rattle.scope_stack.proofs.RoomSteps.{question_full, question_refused}
use Rattle.scope_stack.proofs.room.crowded_questions.Goals as goal

pub returns-in-Ok-clause-causes : goal.returns-in-Ok-clause-causes
returns-in-Ok-clause-causes c =
    let empty : c.new-apart.result.trees ≡ [] = ap (λ (s : Terms). s.trees) c.new-apart.ensures in
    question_full c.questions_join_alike.ensures c.args.table.now c.judge_terms.new.table c.args.terms.now.trees c.judge_terms.new.terms.trees c.args.texts.now (typed_by c.judge_terms.new.terms.trees c.in-Ok.field-0) c.room_error.result
    (subst (λ (ts : List Tree). judge_terms c.args.texts.now (scope_by c.args.table.now ts) ≡ done (typed_by c.judge_terms.new.terms.trees c.in-Ok.field-0) (scope_by c.judge_terms.new.table c.judge_terms.new.terms.trees)) empty c.in-Ok.ensures.gives)
    c.room_error.ensures.error

pub returns-in-Ok-clause-table : goal.returns-in-Ok-clause-table
returns-in-Ok-clause-table c = c.cut_ids.ensures.restored c.args.table.now (sym c.ids-ids.ensures.value) (c.in-Ok.ensures.gained c.args.table.now c.ids-ids.ensures.gained)

pub returns-clause-causes : goal.returns-clause-causes
returns-clause-causes c =
    let empty : c.new-apart.result.trees ≡ [] = ap (λ (s : Terms). s.trees) c.new-apart.ensures in
    question_refused c.questions_join_alike.ensures c.args.table.now c.args.terms.now.trees c.args.texts.now c.in-Err.error
    (subst (λ (ts : List Tree). IsCause c.in-Err.error (judge_terms c.args.texts.now (scope_by c.args.table.now ts))) empty c.in-Err.ensures.causes)

pub returns-clause-table : goal.returns-clause-table
returns-clause-table c = c.cut_ids-in-Err.ensures.restored c.args.table.now (sym c.ids-ids.ensures.value) (c.in-Err.ensures.gained c.args.table.now c.ids-ids.ensures.gained)
