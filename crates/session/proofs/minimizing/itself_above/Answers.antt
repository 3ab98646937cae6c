use Rattle.std.proofs.Common.{◌≡◌, ◌∙◌, ◌++◌, ◌∷◌, [], List, ap, sym, subst, length, arith}
use Rattle.std.specs.Prelude.{codes, Err}
use Rattle.smt_meaning.specs.declared.tokens.Token.{Token}
use Rattle.smt_meaning.specs.Goal.{pair_text}
use Rattle.scope_stack.specs.Carries.{Assumes, IsAssumed, IsRefused, assumption}
use Rattle.goal_search.proofs.Unders.{below_within}
use Rattle.session.proofs.Itself.{never_refused, stands_above}
use Rattle.session.proofs.minimizing.itself_above.Goals as goal

pub unreachable-requires : goal.unreachable-requires
unreachable-requires c =
    let texts : c.as_slice.result.now ≡ pair_text (codes "=") c.args.text.now c.args.text.now ∷ [] =
    c.as_slice.ensures ∙ c.in_ok-push.ensures.ok ∙ ap (λ xs. xs ++ c.in_ok-itself.field-0 ∷ []) c.new-texts.ensures ∙ ap (λ (v : List Token). v ∷ []) c.in_ok-itself.ensures in
    let k : IsRefused (assumption c.as_slice.result.now) c.in-Err-Refused.field-0-0 c.args.stack.now c.assume.new.self =
    subst (λ e. Assumes c.as_slice.result.now c.args.stack.now (Err e) c.assume.new.self) c.in-Err-Refused.field-0-is c.in-Err-Refused.ensures in
    never_refused c.asks_are_assumed.ensures c.args.text.now c.args.term c.args.stack.now c.assume.new.self c.as_slice.result.now c.in-Err-Refused.field-0-0 c.requires texts k

pub copied_after-requires : goal.copied_after-requires
copied_after-requires c =
    below_within c.as_slice.result.now c.in-Ok.ensures.0 c.args.stack.now c.assume.new.self c.assertions-below.result.now c.assertions-below.ensures c.in-Ok.ensures.1

pub returns-in-Ok-copied_after-clause-ok : goal.returns-in-Ok-copied_after-clause-ok
returns-in-Ok-copied_after-clause-ok c =
    let texts : c.as_slice.result.now ≡ pair_text (codes "=") c.args.text.now c.args.text.now ∷ [] =
    c.as_slice.ensures ∙ c.in_ok-push.ensures.ok ∙ ap (λ xs. xs ++ c.in_ok-itself.field-0 ∷ []) c.new-texts.ensures ∙ ap (λ (v : List Token). v ∷ []) c.in_ok-itself.ensures in
    let k : IsAssumed (pair_text (codes "=") c.args.text.now c.args.text.now ∷ []) c.in-Ok.ensures.0 c.args.stack.now c.assume.new.self =
    subst (λ us. IsAssumed us c.in-Ok.ensures.0 c.args.stack.now c.assume.new.self) texts c.in-Ok.ensures.1 in
    stands_above c.asks_are_assumed.ensures c.args.text.now c.args.term c.args.stack.now c.assume.new.self c.requires c.in-Ok.ensures.0 k c.withdraw.new.self c.assertions-below.result.now
    c.in-Ok-copied_after.assumptions c.assertions-below.ensures c.in-Ok-copied_after.ensures c.laws.ensures (omega (arith, c.depth.ensures, c.depth.type_inv))
    (c.withdraw.ensures c.as_slice.result.now c.in-Ok.ensures.0 c.args.stack.now c.in-Ok.ensures.1)

pub returns-clause-err : goal.returns-clause-err
returns-clause-err c =
    c.take_back.ensures c.as_slice.result.now c.in-Ok.ensures.0 c.args.stack.now (sym (c.len-count.ensures.value ∙ ap length c.terms.ensures.trees)) c.in-Ok.ensures.1
