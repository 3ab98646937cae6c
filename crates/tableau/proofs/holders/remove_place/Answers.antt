use Rattle.std.proofs.Common.{◌≡◌, ◌<◌, length, get_or, sym, ap, ◌∙◌, subst, arith}
use Rattle.tableau.proofs.Lists.{items_get, removed}
use Rattle.tableau.proofs.holders.remove_place.Goals as goal

pub returns-in-Some-clause-others : goal.returns-in-Some-clause-others
returns-in-Some-clause-others c =
    let vs = c.args.holders.now.items in
    let here : c.index_mut.result.now.items ≡ _ = ap (λ v. v.items) c.index_mut.ensures.value ∙ sym (items_get vs c.args.variable c.index_mut.result.now (omega arith)) in
    let list : c.deref.result.now ≡ _ = c.deref.ensures.value ∙ ap (λ v. v.items) c.index.ensures ∙ sym (items_get vs c.args.variable c.index.result.now (omega arith)) ∙ sym here in
    removed vs c.args.variable c.args.place c.in-Some.i c.swap_remove.result c.index_mut.result.now c.swap_remove.new.self (omega arith) here
    (let l = c.in-Some.ensures.within in subst (λ ks. c.in-Some.i < length ks) list l)
    c.swap_remove.ensures.value
    (c.swap_remove.ensures.value ∙ ap (λ ks. get_or ks c.in-Some.i c.swap_remove.result) (sym list) ∙ c.in-Some.ensures.is c.swap_remove.result)
    c.swap_remove.ensures.items
