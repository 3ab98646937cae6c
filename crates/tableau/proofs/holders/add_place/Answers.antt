use Rattle.std.proofs.Common.{◌++◌, ◌∷◌, [], sym, ap, ◌∙◌, subst, arith, Contains}
use Rattle.tableau.proofs.Lists.{items_get, items_set_other, set_same, set_keeps, set_has}
use Rattle.tableau.proofs.holders.add_place.Goals as goal

pub returns-in_err-push-clause-keeps : goal.returns-in_err-push-clause-keeps
returns-in_err-push-clause-keeps c =
    let vs = c.args.holders.now.items in
    λ j k h. subst (λ ks. Contains ks k)
    (sym (set_same vs c.args.variable c.push.new.self (omega arith)
    (c.in_err-push.ensures.items ∙ ap (λ v. v.items) c.index_mut.ensures.value ∙ sym (items_get vs c.args.variable c.index_mut.result.now (omega arith))) j)) h

pub returns-in_err-push-clause-others : goal.returns-in_err-push-clause-others
returns-in_err-push-clause-others c = λ j ne. items_set_other c.args.holders.now.items c.args.variable j c.push.new.self ne

pub returns-in_ok-push-clause-keeps : goal.returns-in_ok-push-clause-keeps
returns-in_ok-push-clause-keeps c =
    let vs = c.args.holders.now.items in
    set_keeps vs c.args.variable c.push.new.self c.args.place (omega arith)
    (c.in_ok-push.ensures.items ∙ ap (λ v. v.items ++ c.args.place ∷ []) c.index_mut.ensures.value ∙ ap (λ l. l ++ c.args.place ∷ []) (sym (items_get vs c.args.variable c.index_mut.result.now (omega arith))))

pub returns-in_ok-push-clause-others : goal.returns-in_ok-push-clause-others
returns-in_ok-push-clause-others c = λ j ne. items_set_other c.args.holders.now.items c.args.variable j c.push.new.self ne

pub returns-in_ok-push-clause-ok : goal.returns-in_ok-push-clause-ok
returns-in_ok-push-clause-ok c =
    let vs = c.args.holders.now.items in
    λ lt. set_has vs c.args.variable c.push.new.self c.args.place lt
    (c.in_ok-push.ensures.items ∙ ap (λ v. v.items ++ c.args.place ∷ []) c.index_mut.ensures.value ∙ ap (λ l. l ++ c.args.place ∷ []) (sym (items_get vs c.args.variable c.index_mut.result.now lt)))
