use Rattle.std.proofs.Common.{◌≡◌, ◌<◌, ◌≤◌, All, length, subst, sym, ap, ◌∙◌, arith}
use Rattle.std.proofs.lemmas.List.{get_or_default, take_all}
use Rattle.std.proofs.lemmas.List.Elements.{All-contains}
use Rattle.clause_store.specs.declared.waits.Wait.{Wait}
use Rattle.clause_store.proofs.Loops.{All-grown}
use Rattle.clause_store.proofs.Numbers.{apart_removed}
use Rattle.clause_store.proofs.Removing.{removed_keeps, removed_only, removed_front}
use Rattle.clause_store.proofs.waits.drop_of.Goals as goal

pub waits-preserved-then-index-row : goal.waits-preserved-then-index-row
waits-preserved-then-index-row c =
    let xs = c.waits.waiting.items in
    let lt : c.waits.k < length xs = omega (arith, c.waits.waiting.ok) in
    record {
      keeps = λ w h b. rw c.swap_remove.ensures.items (removed_keeps xs c.waits.k c.swap_remove.result w lt
          (λ e. let same : w ≡ c.index.result.now = e ∙ (get_or_default xs c.waits.k w c.index.result.now lt ∙ sym c.index.ensures) in
          b (ap (λ (x : Wait). x.row) same ∙ c.if-index-row.true))
          (c.waits.invariant.keeps w h b));
      only = λ w h. c.waits.invariant.only w (removed_only xs c.waits.k c.swap_remove.result w lt (rw c.swap_remove.ensures.items at h));
      apart = λ a. rw c.swap_remove.ensures.items (apart_removed xs c.waits.k c.swap_remove.result lt (c.waits.invariant.apart a));
      room = c.swap_remove.ensures.capacity ∙ c.waits.invariant.room;
      front = rw (c.swap_remove.ensures.items, removed_front xs c.waits.k c.swap_remove.result lt) c.waits.invariant.front;
    }

pub waits-preserved : goal.waits-preserved
waits-preserved c =
    let xs = c.waits.waiting.items in
    let lt : c.waits.k < length xs = omega (arith, c.waits.waiting.ok) in
    record {
      keeps = c.waits.invariant.keeps;
      only = c.waits.invariant.only;
      apart = c.waits.invariant.apart;
      room = c.waits.invariant.room;
      front = All-grown (λ (w : Wait). w.row ≡ c.args.row → ⊥) xs c.waits.k c.index.result.now lt c.index.ensures c.waits.invariant.front c.if-index-row.false;
    }

pub returns-clause-only : goal.returns-clause-only
returns-clause-only c = λ w h.
    let xs = c.waits.waiting.items in
    let ge : length xs ≤ c.waits.k = omega (arith, c.waits.waiting.ok) in
    let all : All (λ (x : Wait). x.row ≡ c.args.row → ⊥) xs = subst (All (λ (x : Wait). x.row ≡ c.args.row → ⊥)) (take_all c.waits.k xs ge) c.waits.invariant.front in
    (c.waits.invariant.only w h, All-contains (λ (x : Wait). x.row ≡ c.args.row → ⊥) xs w all h)
