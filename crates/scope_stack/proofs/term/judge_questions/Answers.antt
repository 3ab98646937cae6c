use Rattle.std.proofs.Common.{◌≡◌, ◌∙◌, ◌≤◌, length, arith, sym}
use Rattle.smt_meaning.specs.StackCommand.{ask_terms, most_terms}
use Rattle.scope_stack.specs.Judged.{IsCause, scope_by}
use Rattle.scope_stack.specs.Carries.{typed_by}
use Rattle.scope_stack.proofs.TermSteps.{questions_done, questions_cause, cut_back}
use Rattle.scope_stack.proofs.RoomSteps.{before, still}
use Rattle.scope_stack.proofs.term.judge_questions.Goals as goal

pub returns-in-Ok-clause-gives : goal.returns-in-Ok-clause-gives
returns-in-Ok-clause-gives c =
    let le : length c.judge_terms.new.terms.trees ≤ most_terms = omega (arith, c.len.ensures.within, c.in-Ok.ensures.limit, c.requires) in
    record {
      names = c.judge_terms.new.table;
      is_judged = questions_done c.args.texts.now (scope_by c.args.table.now c.args.terms.now.trees) (scope_by c.judge_terms.new.table c.judge_terms.new.terms.trees)
          (typed_by c.judge_terms.new.terms.trees c.in-Ok.asked) c.in-Ok.ensures.gives le;
      within = c.in-Ok.ensures.within;
    }

pub returns-in-Ok-clause-table : goal.returns-in-Ok-clause-table
returns-in-Ok-clause-table c = c.cut_ids.ensures.restored c.args.table.now (sym c.ids-ids.ensures.value) (c.in-Ok.ensures.gained c.args.table.now c.ids-ids.ensures.gained)

pub question_error-requires-clause-cause : goal.question_error-requires-clause-cause
question_error-requires-clause-cause c =
    let table : c.cut_ids-in-Err.new.self ≡ c.args.table.now = c.cut_ids-in-Err.ensures.restored c.args.table.now (sym c.ids-ids.ensures.value) (c.in-Err.ensures.gained c.args.table.now c.ids-ids.ensures.gained) in
    let terms : c.cut.new.self ≡ c.args.terms.now = c.cut.ensures ∙ cut_back c.args.terms.now c.judge_terms.new.terms c.len-count.result c.in-Err.ensures.limit c.in-Err.ensures.longer c.len-count.ensures.value in
    still c.args.table.now c.cut_ids-in-Err.new.self c.args.terms.now c.cut.new.self table terms (λ s. IsCause c.in-Err.error (ask_terms c.args.texts.now s))
    (questions_cause c.args.texts.now (scope_by c.args.table.now c.args.terms.now.trees) c.in-Err.error c.in-Err.ensures.causes)

pub returns-in-Err-clause-table : goal.returns-in-Err-clause-table
returns-in-Err-clause-table c =
    c.question_error.ensures.table ∙ c.cut_ids-in-Err.ensures.restored c.args.table.now (sym c.ids-ids.ensures.value) (c.in-Err.ensures.gained c.args.table.now c.ids-ids.ensures.gained)

pub returns-in-Err-clause-causes : goal.returns-in-Err-clause-causes
returns-in-Err-clause-causes c =
    let table : c.cut_ids-in-Err.new.self ≡ c.args.table.now = c.cut_ids-in-Err.ensures.restored c.args.table.now (sym c.ids-ids.ensures.value) (c.in-Err.ensures.gained c.args.table.now c.ids-ids.ensures.gained) in
    let terms : c.cut.new.self ≡ c.args.terms.now = c.cut.ensures ∙ cut_back c.args.terms.now c.judge_terms.new.terms c.len-count.result c.in-Err.ensures.limit c.in-Err.ensures.longer c.len-count.ensures.value in
    before c.args.table.now c.cut_ids-in-Err.new.self c.args.terms.now c.cut.new.self table terms (λ s. IsCause c.question_error.result (ask_terms c.args.texts.now s)) c.question_error.ensures.causes
