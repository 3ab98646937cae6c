use Rattle.std.proofs.Common.{◌≡◌, ◌∙◌, [], List, sym, ap, subst}
use Rattle.elaborate.specs.Judged.{IsCauseOf, typed_term}
use Rattle.smt_meaning.specs.Sexp.{sexp}
use Rattle.smt_meaning.specs.Sorts.{done, judge}
use Rattle.smt_meaning.specs.StackCommand.{in_assert}
use Rattle.smt_meaning.specs.Term.{Tree}
use Rattle.term_store.specs.Terms.{Terms}
use Rattle.scope_stack.specs.Judged.{scope_by}
use Rattle.scope_stack.proofs.RoomSteps.{assertion_full, assertion_not_bool, assertion_refused}
use Rattle.scope_stack.proofs.room.crowded_assertion.Goals as goal

pub returns-then-is_bool-clause-causes : goal.returns-then-is_bool-clause-causes
returns-then-is_bool-clause-causes c =
    let empty : c.new-apart.result.trees ≡ [] = ap (λ (s : Terms). s.trees) c.new-apart.ensures in
    assertion_full c.terms_join_alike.ensures c.args.table.now c.term.new.table c.args.terms.now.trees c.term.new.store.trees c.args.term.now (typed_term c.term.new.store.trees c.in-Ok.judged) c.room_error.result
    (subst (λ (ts : List Tree). judge in_assert [] (sexp c.args.term.now) (scope_by c.args.table.now ts) ≡ done (typed_term c.term.new.store.trees c.in-Ok.judged) (scope_by c.term.new.table c.term.new.store.trees)) empty c.in-Ok.ensures.ok)
    (sym c.is_bool.ensures ∙ c.if-is_bool.true) c.room_error.ensures.error

pub returns-then-is_bool-clause-table : goal.returns-then-is_bool-clause-table
returns-then-is_bool-clause-table c = c.cut_ids.ensures.restored c.args.table.now (sym c.ids-ids.ensures.value) (c.in-Ok.ensures.gained c.args.table.now c.ids-ids.ensures.gained)

pub returns-in-Ok-clause-causes : goal.returns-in-Ok-clause-causes
returns-in-Ok-clause-causes c =
    let empty : c.new-apart.result.trees ≡ [] = ap (λ (s : Terms). s.trees) c.new-apart.ensures in
    assertion_not_bool c.terms_join_alike.ensures c.args.table.now c.term.new.table c.args.terms.now.trees c.term.new.store.trees c.args.term.now (typed_term c.term.new.store.trees c.in-Ok.judged)
    (subst (λ (ts : List Tree). judge in_assert [] (sexp c.args.term.now) (scope_by c.args.table.now ts) ≡ done (typed_term c.term.new.store.trees c.in-Ok.judged) (scope_by c.term.new.table c.term.new.store.trees)) empty c.in-Ok.ensures.ok)
    (sym c.is_bool.ensures ∙ c.if-is_bool.false)

pub returns-in-Ok-clause-table : goal.returns-in-Ok-clause-table
returns-in-Ok-clause-table c = c.cut_ids.ensures.restored c.args.table.now (sym c.ids-ids.ensures.value) (c.in-Ok.ensures.gained c.args.table.now c.ids-ids.ensures.gained)

pub returns-clause-causes : goal.returns-clause-causes
returns-clause-causes c =
    let empty : c.new-apart.result.trees ≡ [] = ap (λ (s : Terms). s.trees) c.new-apart.ensures in
    assertion_refused c.terms_join_alike.ensures c.args.table.now c.args.terms.now.trees c.args.term.now c.in-Err.error c.judge_error.result c.judge_error.ensures
    (subst (λ (ts : List Tree). IsCauseOf c.in-Err.error (judge in_assert [] (sexp c.args.term.now) (scope_by c.args.table.now ts))) empty c.in-Err.ensures.refused)
