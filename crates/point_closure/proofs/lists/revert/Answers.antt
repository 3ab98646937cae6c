use Rattle.std.proofs.Common.{◌≡◌, ◌<◌, ◌-◌, ℕ, take, length, sym, ap, ◌∙◌, subst, arith}
use Rattle.std.specs.Vec.{vec_len}
use Rattle.point_closure.specs.declared.lists.Change.{Change}
use Rattle.point_closure.specs.Lists.{IsChangeOf, items_at, changed}
use Rattle.point_closure.proofs.ListsLemmas.{put_back, join_back, join_fits, items_get}
use Rattle.point_closure.proofs.lists.revert.Goals as goal

pub returns-in-Put-clause-reverted : goal.returns-in-Put-clause-reverted
returns-in-Put-clause-reverted c = λ before e.
    let vs = c.args.lists.now.items in
    let within : c.in-Put.class < length vs = subst (λ (x : Change). IsChangeOf (length vs) x) c.in-Put.is c.requires in
    let here : c.index_mut.result.now.items ≡ items_at vs c.in-Put.class = ap (λ v. v.items) c.index_mut.ensures.value ∙ sym (items_get vs c.in-Put.class c.index_mut.result.now within) in
    put_back vs before c.in-Put.class c.in-Put.field-1 c.pop.new.self within
    (subst (λ (x : Change). (r : ℕ) → items_at vs r ≡ changed before x r) c.in-Put.is e)
    (let size : vec_len c.index_mut.result.now ≡ length (items_at vs c.in-Put.class) = omega (arith, ap length here) in
    c.pop.ensures.rest ∙ ap (λ n. take (n - 1) c.index_mut.result.now.items) size ∙ ap (λ l. take (length (items_at vs c.in-Put.class) - 1) l) here)

pub returns-then-more-count-clause-reverted : goal.returns-then-more-count-clause-reverted
returns-then-more-count-clause-reverted c = λ before e.
    let vs = c.args.lists.now.items in
    let is = subst (λ (x : Change). IsChangeOf (length vs) x) c.in-Join.is c.requires in
    let here : c.index_mut-list.result.now.items ≡ items_at vs c.in-Join.kept = ap (λ v. v.items) c.index_mut-list.ensures.value ∙ sym (items_get vs c.in-Join.kept c.index_mut-list.result.now is.0) in
    let there : c.index.result.now.items ≡ items_at vs c.in-Join.gone = ap (λ v. v.items) c.index.ensures ∙ sym (items_get vs c.in-Join.gone c.index.result.now is.1) in
    join_back vs before c.in-Join.kept c.in-Join.gone c.truncate.new.self is.0 is.2
    (subst (λ (x : Change). (r : ℕ) → items_at vs r ≡ changed before x r) c.in-Join.is e)
    (let size : c.len-count.result - c.len-more.result ≡ length (items_at vs c.in-Join.kept) - length (items_at vs c.in-Join.gone) = omega (arith, ap length here, ap length there) in
    c.truncate.ensures.items ∙ ap (λ n. take n c.index_mut-list.result.now.items) size ∙ ap (λ l. take (length (items_at vs c.in-Join.kept) - length (items_at vs c.in-Join.gone)) l) here)

pub returns-else-more-count-clause-reverted : goal.returns-else-more-count-clause-reverted
returns-else-more-count-clause-reverted c = λ before e.
    let vs = c.args.lists.now.items in
    let is = subst (λ (x : Change). IsChangeOf (length vs) x) c.in-Join.is c.requires in
    let here : c.index_mut-list.result.now.items ≡ items_at vs c.in-Join.kept = ap (λ v. v.items) c.index_mut-list.ensures.value ∙ sym (items_get vs c.in-Join.kept c.index_mut-list.result.now is.0) in
    let there : c.index.result.now.items ≡ items_at vs c.in-Join.gone = ap (λ v. v.items) c.index.ensures ∙ sym (items_get vs c.in-Join.gone c.index.result.now is.1) in
    let fits = join_fits vs before c.in-Join.kept c.in-Join.gone is.2 (subst (λ (x : Change). (r : ℕ) → items_at vs r ≡ changed before x r) c.in-Join.is e) in
    absurd (omega (arith, ap length here, ap length there))
