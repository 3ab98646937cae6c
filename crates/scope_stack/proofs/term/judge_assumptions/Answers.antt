use Rattle.std.proofs.Common.{◌≡◌, ◌∙◌, sym}
use Rattle.smt_meaning.specs.StackCommand.{assume_terms}
use Rattle.scope_stack.specs.Judged.{IsCause}
use Rattle.scope_stack.proofs.TermSteps.{cut_back}
use Rattle.scope_stack.proofs.RoomSteps.{before, still}
use Rattle.scope_stack.proofs.term.judge_assumptions.Goals as goal

pub assumption_error-requires-clause-cause : goal.assumption_error-requires-clause-cause
assumption_error-requires-clause-cause c =
    let table : c.cut_ids-in-Err.new.self ≡ c.args.table.now = c.cut_ids-in-Err.ensures.restored c.args.table.now (sym c.ids-ids.ensures.value) (c.in-Err.ensures.gained c.args.table.now c.ids-ids.ensures.gained) in
    let terms : c.cut.new.self ≡ c.args.terms.now = c.cut.ensures ∙ cut_back c.args.terms.now c.judge_assumed.new.terms c.len-count.result c.in-Err.ensures.limit c.in-Err.ensures.longer c.len-count.ensures.value in
    still c.args.table.now c.cut_ids-in-Err.new.self c.args.terms.now c.cut.new.self table terms (λ s. IsCause c.in-Err.error (assume_terms c.args.depth c.args.texts.now s)) c.in-Err.ensures.causes

pub returns-in-Ok-clause-table : goal.returns-in-Ok-clause-table
returns-in-Ok-clause-table c = c.cut_ids.ensures.restored c.args.table.now (sym c.ids-ids.ensures.value) (c.in-Ok.ensures.gained c.args.table.now c.ids-ids.ensures.gained)

pub returns-in-Err-clause-table : goal.returns-in-Err-clause-table
returns-in-Err-clause-table c =
    c.assumption_error.ensures.table ∙ c.cut_ids-in-Err.ensures.restored c.args.table.now (sym c.ids-ids.ensures.value) (c.in-Err.ensures.gained c.args.table.now c.ids-ids.ensures.gained)

pub returns-in-Err-clause-causes : goal.returns-in-Err-clause-causes
returns-in-Err-clause-causes c =
    let table : c.cut_ids-in-Err.new.self ≡ c.args.table.now = c.cut_ids-in-Err.ensures.restored c.args.table.now (sym c.ids-ids.ensures.value) (c.in-Err.ensures.gained c.args.table.now c.ids-ids.ensures.gained) in
    let terms : c.cut.new.self ≡ c.args.terms.now = c.cut.ensures ∙ cut_back c.args.terms.now c.judge_assumed.new.terms c.len-count.result c.in-Err.ensures.limit c.in-Err.ensures.longer c.len-count.ensures.value in
    before c.args.table.now c.cut_ids-in-Err.new.self c.args.terms.now c.cut.new.self table terms (λ s. IsCause c.assumption_error.result (assume_terms c.args.depth c.args.texts.now s)) c.assumption_error.ensures.causes
