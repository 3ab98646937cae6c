use Rattle.std.proofs.Common.{◌≡◌, ◌∙◌, ◌++◌, ◌∷◌, [], List, ap, sym, subst, length}
use Rattle.std.specs.Prelude.{slice_get}
use Rattle.smt_meaning.specs.declared.tokens.Token.{Token}
use Rattle.smt_meaning.specs.Reading.{IsSExpr}
use Rattle.term_store.specs.Terms.{AreComplete}
use Rattle.scope_stack.specs.Carries.{IsAsked}
use Rattle.session.proofs.LeastSteps.{first_one, goal_there, no_first, no_goal}
use Rattle.session.proofs.minimizing.ask_goal.Goals as goal

pub unreachable-requires : goal.unreachable-requires
unreachable-requires c =
    let t : List Token = c.args.text.now in
    let texts : c.as_slice.result.now ≡ t ∷ [] =
    c.as_slice.ensures ∙ c.in_ok-push.ensures.ok ∙ ap (λ xs. xs ++ c.in_ok-copy.field-0 ∷ []) c.new-texts.ensures ∙ ap (λ (v : List Token). v ∷ []) (c.in_ok-copy.ensures ∙ c.sexpr.ensures.same) in
    let k : IsAsked (t ∷ []) c.in-Ok.asked c.args.stack.now c.ask.new.self = subst (λ us. IsAsked us c.in-Ok.asked c.args.stack.now c.ask.new.self) texts c.in-Ok.ensures in
    no_first t c.args.stack.now c.ask.new.self c.in-Ok.asked k (ap (λ ys. slice_get ys 0) (sym c.as_slice-2.ensures) ∙ sym c.in_default.ensures.value)

pub returns-in-Ok-None : goal.returns-in-Ok-None
returns-in-Ok-None c =
    let t : List Token = c.args.text.now in
    let texts : c.as_slice.result.now ≡ t ∷ [] =
    c.as_slice.ensures ∙ c.in_ok-push.ensures.ok ∙ ap (λ xs. xs ++ c.in_ok-copy.field-0 ∷ []) c.new-texts.ensures ∙ ap (λ (v : List Token). v ∷ []) (c.in_ok-copy.ensures ∙ c.sexpr.ensures.same) in
    let k : IsAsked (t ∷ []) c.in-Ok.asked c.args.stack.now c.ask.new.self = subst (λ us. IsAsked us c.in-Ok.asked c.args.stack.now c.ask.new.self) texts c.in-Ok.ensures in
    let one = first_one t c.args.stack.now c.ask.new.self c.in-Ok.asked k c.in-Some.goal.now (c.in-Some.ensures.value ∙ ap (λ ys. slice_get ys 0) c.as_slice-2.ensures) in
    goal_there c.judged_again.ensures t c.args.stack.now c.ask.new.self c.in-Ok.asked k c.in-Some.goal.now one (subst IsSExpr c.sexpr-2.ensures.same c.len-2.ensures.matched)
    (subst AreComplete c.terms-2.ensures.trees c.len.ensures.parts) (sym c.in-Ok-None.ensures ∙ c.in-Ok-None.field-0-is)

pub returns-in-Ok-Some : goal.returns-in-Ok-Some
returns-in-Ok-Some c =
    let t : List Token = c.args.text.now in
    let texts : c.as_slice.result.now ≡ t ∷ [] =
    c.as_slice.ensures ∙ c.in_ok-push.ensures.ok ∙ ap (λ xs. xs ++ c.in_ok-copy.field-0 ∷ []) c.new-texts.ensures ∙ ap (λ (v : List Token). v ∷ []) (c.in_ok-copy.ensures ∙ c.sexpr.ensures.same) in
    let k : IsAsked (t ∷ []) c.in-Ok.asked c.args.stack.now c.ask.new.self = subst (λ us. IsAsked us c.in-Ok.asked c.args.stack.now c.ask.new.self) texts c.in-Ok.ensures in
    let one = first_one t c.args.stack.now c.ask.new.self c.in-Ok.asked k c.in-Some.goal.now (c.in-Some.ensures.value ∙ ap (λ ys. slice_get ys 0) c.as_slice-2.ensures) in
    record {
      is_judged = no_goal c.judged_again.ensures t c.args.stack.now c.ask.new.self c.in-Ok.asked k c.in-Some.goal.now one (subst IsSExpr c.sexpr-2.ensures.same c.len-2.ensures.matched)
          (subst AreComplete c.terms-2.ensures.trees c.len.ensures.parts) c.asks_are_assumed.ensures c.in-Ok-Some.why (sym c.in-Ok-Some.ensures ∙ c.in-Ok-Some.field-0-is);
      same = c.forget.ensures (t ∷ []) c.in-Ok.asked c.args.stack.now (sym (c.len-count.ensures.value ∙ ap length c.terms.ensures.trees)) k;
    }
