use Rattle.std.proofs.Common.{◌≡◌, ◌∙◌, ◌++◌, ◌∷◌, [], List, ap, sym, subst}
use Rattle.std.specs.Prelude.{Err}
use Rattle.std.proofs.lemmas.Result.{IfOk-weaker}
use Rattle.smt_meaning.specs.declared.tokens.Token.{Token}
use Rattle.smt_meaning.specs.Reading.{IsSExpr}
use Rattle.smt_meaning.specs.Sorts.{done, refused}
use Rattle.smt_meaning.specs.StackCommand.{asks, judged}
use Rattle.scope_stack.specs.Carries.{Answers, IsAsked, IsRefused, question, typed_by}
use Rattle.session.specs.Minimized.{negation}
use Rattle.session.proofs.LeastSteps.{negation_reads, told_done, told_refused}
use Rattle.session.proofs.negated.refusal_without_room.Goals as goal

pub returns-in-Ok-clause-refused : goal.returns-in-Ok-clause-refused
returns-in-Ok-clause-refused c =
    let t : List Token = c.args.text.now in
    let reads = negation_reads c.tokens_read_back.ensures c.s_expressions_read_back.ensures t (subst IsSExpr c.sexpr.ensures.same c.len.ensures.matched) in
    let texts : c.as_slice.result.now ≡ negation t ∷ [] =
    c.as_slice.ensures ∙ c.in_ok-push.ensures.ok ∙ ap (λ xs. xs ++ c.in_ok-negated.field-0 ∷ []) c.new-texts.ensures ∙ ap (λ (v : List Token). v ∷ []) c.in_ok-negated.ensures in
    let k : IsAsked c.as_slice.result.now c.in-Ok.field-0 c.args.stack.now c.ask.new.self = c.in-Ok.ensures in
    told_done t c.args.stack.now c.in-Ok.field-0 k.scope reads c.requires
    (subst (λ us. judged (question us) c.args.stack.now ≡ done (asks (typed_by k.scope.trees c.in-Ok.field-0)) k.scope) texts k.is_judged)

pub returns-in-Err-Refused-clause-refused : goal.returns-in-Err-Refused-clause-refused
returns-in-Err-Refused-clause-refused c =
    let t : List Token = c.args.text.now in
    let reads = negation_reads c.tokens_read_back.ensures c.s_expressions_read_back.ensures t (subst IsSExpr c.sexpr.ensures.same c.len.ensures.matched) in
    let texts : c.as_slice.result.now ≡ negation t ∷ [] =
    c.as_slice.ensures ∙ c.in_ok-push.ensures.ok ∙ ap (λ xs. xs ++ c.in_ok-negated.field-0 ∷ []) c.new-texts.ensures ∙ ap (λ (v : List Token). v ∷ []) c.in_ok-negated.ensures in
    let k : IsRefused (question c.as_slice.result.now) c.in-Err-Refused.why c.args.stack.now c.ask.new.self =
    subst (λ e. Answers c.as_slice.result.now c.args.stack.now (Err e) c.ask.new.self) c.in-Err-Refused.field-0-is c.in-Err-Refused.ensures in
    IfOk-weaker c.told.result _ _
    (λ r e. told_refused t c.args.stack.now c.in-Err-Refused.why reads c.requires (subst (λ us. judged (question us) c.args.stack.now ≡ refused c.in-Err-Refused.why) texts k.is_judged)
    ∙ ap (λ x. refused x) (sym e)) c.told.ensures
