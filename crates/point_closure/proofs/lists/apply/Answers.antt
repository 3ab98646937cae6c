use Rattle.std.proofs.Common.{◌≡◌, ◌<◌, ℕ, [], ◌∷◌, ◌++◌, set, length, sym, ap, ◌∙◌, subst}
use Rattle.point_closure.specs.declared.lists.Change.{Change}
use Rattle.point_closure.specs.Lists.{IsChangeOf, items_at, changed}
use Rattle.point_closure.proofs.ListsLemmas.{err_when, same_items, put_on, items_get}
use Rattle.point_closure.proofs.lists.apply.Goals as goal

pub returns-in_err-push-in-Put-clause-err : goal.returns-in_err-push-in-Put-clause-err
returns-in_err-push-in-Put-clause-err c =
    let within : c.in-Put.class < length c.args.lists.now.items = subst (λ (x : Change). IsChangeOf (length c.args.lists.now.items) x) c.in-Put.is c.requires in
    err_when c.from_residual.result _ (λ e.
    same_items c.args.lists.now.items c.in-Put.class c.push.new.self within
    (c.in_err-push-in-Put.ensures.items ∙ ap (λ v. v.items) c.index_mut.ensures.value ∙ sym (items_get c.args.lists.now.items c.in-Put.class c.index_mut.result.now within)))

pub returns-in_ok-push-in-Put-clause-ok : goal.returns-in_ok-push-in-Put-clause-ok
returns-in_ok-push-in-Put-clause-ok c =
    let within : c.in-Put.class < length c.args.lists.now.items = subst (λ (x : Change). IsChangeOf (length c.args.lists.now.items) x) c.in-Put.is c.requires in
    subst (λ (x : Change). (r : ℕ) → items_at (set c.args.lists.now.items c.in-Put.class c.push.new.self) r ≡ changed (items_at c.args.lists.now.items) x r) (sym c.in-Put.is)
    (put_on c.args.lists.now.items c.in-Put.class c.in-Put.item c.push.new.self within
    (c.in_ok-push-in-Put.ensures.items ∙ ap (λ v. v.items ++ c.in-Put.item ∷ []) c.index_mut.ensures.value ∙ ap (λ l. l ++ c.in-Put.item ∷ []) (sym (items_get c.args.lists.now.items c.in-Put.class c.index_mut.result.now within))))
