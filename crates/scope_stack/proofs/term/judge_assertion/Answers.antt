use Rattle.std.proofs.Common.{◌≤◌, [], length, arith, sym, ◌∙◌}
use Rattle.smt_meaning.specs.Sexp.{sexp}
use Rattle.smt_meaning.specs.Sorts.{judge}
use Rattle.smt_meaning.specs.StackCommand.{assert_term, in_assert, most_terms}
use Rattle.elaborate.specs.Judged.{IsCauseOf, typed_term}
use Rattle.scope_stack.specs.Judged.{IsCause, scope_by}
use Rattle.scope_stack.proofs.TermSteps.{assert_done, assert_not_bool, cut_back}
use Rattle.scope_stack.proofs.RoomSteps.{before, still}
use Rattle.scope_stack.proofs.term.judge_assertion.Goals as goal

pub returns-then-is_bool-clause-gives : goal.returns-then-is_bool-clause-gives
returns-then-is_bool-clause-gives c =
    let le : length c.term.new.store.trees ≤ most_terms = omega (arith, c.len.ensures.within, c.in-Ok.ensures.limit, c.requires) in
    assert_done c.args.term.now (scope_by c.args.table.now c.args.terms.now.trees) (scope_by c.term.new.table c.term.new.store.trees) (typed_term c.term.new.store.trees c.in-Ok.judged) c.in-Ok.ensures.ok
    (sym c.is_bool.ensures ∙ c.if-is_bool.true) le

pub returns-else-is_bool-clause-causes : goal.returns-else-is_bool-clause-causes
returns-else-is_bool-clause-causes c =
    assert_not_bool c.args.term.now (scope_by c.args.table.now c.args.terms.now.trees) (scope_by c.term.new.table c.term.new.store.trees) (typed_term c.term.new.store.trees c.in-Ok.judged) c.in-Ok.ensures.ok
    (sym c.is_bool.ensures ∙ c.if-is_bool.false)

pub returns-else-is_bool-clause-err : goal.returns-else-is_bool-clause-err
returns-else-is_bool-clause-err c = (
  c.cut_ids.ensures.restored c.args.table.now (sym c.ids-ids.ensures.value) (c.in-Ok.ensures.gained c.args.table.now c.ids-ids.ensures.gained),
  c.cut.ensures ∙ cut_back c.args.terms.now c.term.new.store c.len-count.result c.in-Ok.ensures.limit c.in-Ok.ensures.longer c.len-count.ensures.value,
)

pub assertion_error-requires-clause-cause : goal.assertion_error-requires-clause-cause
assertion_error-requires-clause-cause c =
    still c.args.table.now c.term.new.table c.args.terms.now c.term.new.store c.in-Err.ensures.err.0 c.in-Err.ensures.err.1
    (λ s. IsCauseOf c.in-Err.error (judge in_assert [] (sexp c.args.term.now) s)) c.in-Err.ensures.refused

pub returns-in-Err-clause-causes : goal.returns-in-Err-clause-causes
returns-in-Err-clause-causes c =
    before c.args.table.now c.term.new.table c.args.terms.now c.term.new.store c.in-Err.ensures.err.0 c.in-Err.ensures.err.1 (λ s. IsCause c.assertion_error.result (assert_term c.args.term.now s)) c.assertion_error.ensures.causes
