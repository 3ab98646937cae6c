-- What the steps of a call tell together.
use Rattle.std.proofs.Common.{◌≡◌, ℕ, List, length, drop, sym, refl, ap, ◌∙◌, subst, Vec, Global, All}
use Rattle.std.specs.Prelude.{Option as Maybe}
use Rattle.smt_meaning.specs.declared.clauses.Clause.{Clause}
use Rattle.race_model.specs.declared.event.Entry.{Entry}
use Rattle.race_model.specs.Laws.{IsSound}
use Rattle.race_model.specs.Shelves.{ShelfState}
use Rattle.race_cell.specs.declared.action.Action.{Action}
use Rattle.race_cell.specs.declared.action.Action.TheVariants.{Share, TakeBatch}
use Rattle.race_cell.specs.Actions.{entries_after, mark_after}
use Rattle.race_cell.specs.declared.view.Claim.{Claim}
use Rattle.race_cell.specs.declared.view.View.{View}
use Rattle.race_cell.specs.declared.answer.Sharing.{Sharing}
use Rattle.race_cell.specs.declared.answer.Sharing.TheVariants as s
use Rattle.race_cell.specs.declared.answer.Batch.TheVariants as t
use Rattle.race_cell.specs.Rules.{Saw, claim, base_in, alone, holding, sees, adds, returns}
use Rattle.race_cell.specs.Calls.{Extends, Returns, ShareTells, BatchTells, mark_of, entries_seen}
use Rattle.race_cell.proofs.Lists.{entries_after-share, entries_after-batch, mark_after-batch, mark_after-share, mark_after-since}

module _ {S : Type 0} where
  -- the views of a call that takes the slot, enters an action and gives the slot back
  entered_view : (v v1 v2 v3 v4 : View S) (log : List Action) (e : Action) → v1 ≡ holding v.base (sees (claim v) log) → v2 ≡ v1 → v3 ≡ holding v2.base (adds (claim v2) e) → v4 ≡ alone v3.base (claim v3)
      → v4 ≡ alone v.base (adds (sees (claim v) log) e)
  entered_view v v1 v2 v3 v4 log e p1 p2 p3 p4 = p4 ∙ ap (λ (z : View S). alone z.base (claim z)) (p3 ∙ ap (λ (z : View S). holding z.base (adds (claim z) e)) (p2 ∙ p1))

  -- the worker stays
  pub same_worker : (v v1 v2 : View S) (log : List Action) → v1 ≡ holding v.base (sees (claim v) log) → v2 ≡ v1 → (claim v2).worker ≡ (claim v).worker
  same_worker v v1 v2 log p1 p2 = ap (λ (z : View S). (claim z).worker) (p2 ∙ p1)

  batch_view : (v v1 v2 v3 v4 : View S) (log : List Action) → v1 ≡ holding v.base (sees (claim v) log) → v2 ≡ v1 → v3 ≡ holding v2.base (adds (claim v2) (TakeBatch (claim v2).worker)) → v4 ≡ alone v3.base (claim v3)
      → v4 ≡ alone v.base (adds (sees (claim v) log) (TakeBatch (claim v).worker))
  batch_view v v1 v2 v3 v4 log p1 p2 p3 p4 =
      entered_view v v1 v2 v3 v4 log (TakeBatch (claim v).worker) p1 p2 (p3 ∙ ap (λ k. holding v2.base (adds (claim v2) (TakeBatch k))) (same_worker v v1 v2 log p1 p2)) p4

extends : (c : Claim) (log : List Action) (e : Action) → Saw c.worker log c.seen → Extends c e (adds (sees c log) e)
extends c log e saw = record { before = log; seen = saw; now = refl }

-- the mark stays where a worker's seen actions go on without it
returns_mark : (c d : Claim) → Returns c d → (k : ℕ) → mark_after c.worker k 0 d.seen ≡ mark_after c.worker k 0 c.seen
returns_mark c d l k = ap (mark_after c.worker k 0) l.seen.whole ∙ mark_after-since c.worker k 0 c.seen l.seen.since l.seen.idle

pub share_worker : (b : ShelfState) (c d : Claim) (clause : Clause) (r : Sharing) → ShareTells b c clause r d → d.worker ≡ c.worker
share_worker b c d clause (s.Shared place) t = ap (λ (z : Claim). z.worker) t.0.now
share_worker b c d clause (s.Busy back) t = ap (λ (z : Claim). z.worker) t.1
share_worker b c d clause (s.Full back) t = ap (λ (z : Claim). z.worker) t.1.now
share_worker b c d clause (s.Memory back) t = ap (λ (z : Claim). z.worker) t.1.now

module _ {S : Type 0} (state : S → ShelfState) where
  pub share_told : (v v1 v2 v3 v4 : View S) (log : List Action) (worker : ℕ) (clause : Clause) (place : ℕ) (e : Action) → Saw (claim v).worker log (claim v).seen → worker ≡ (claim v).worker → e ≡ Share worker clause
      → v1 ≡ holding v.base (sees (claim v) log) → v2 ≡ v1 → v3 ≡ holding v2.base (adds (claim v2) e) → v4 ≡ alone v3.base (claim v3)
      → place ≡ length (entries_seen state v1) → ShareTells (base_in state v.base) (claim v) clause (s.Shared place) (claim v4)
  share_told v v1 v2 v3 v4 log worker clause place e saw mine is p1 p2 p3 p4 at =
      let c = claim v in
      let b = base_in state v.base in
      let d : claim v4 ≡ adds (sees c log) (Share c.worker clause) =
      ap claim (entered_view v v1 v2 v3 v4 log e p1 p2 p3 p4) ∙ ap (adds (sees c log)) (is ∙ ap (λ k. Share k clause) mine) in
      subst (ShareTells b c clause (s.Shared place)) (sym d)
      (extends c log (Share c.worker clause) saw, (entries_after b.entries log, entries_after-share b.entries log c.worker clause, at ∙ ap (λ (z : View S). length (entries_seen state z)) p1))

  pub batch_told : (v v1 v2 v3 v4 : View S) (log : List Action) (mark : ℕ) (items : Vec Entry Global) → Saw (claim v).worker log (claim v).seen → mark ≡ mark_of state v
      → v1 ≡ holding v.base (sees (claim v) log) → v2 ≡ v1 → v3 ≡ holding v2.base (adds (claim v2) (TakeBatch (claim v2).worker)) → v4 ≡ alone v3.base (claim v3)
      → items.items ≡ drop mark (entries_seen state v1) → All (λ (e : Entry). IsSound (base_in state v1.base).base e.clause) items.items → BatchTells (base_in state v.base) (claim v) (t.Batch items) (claim v4)
  batch_told v v1 v2 v3 v4 log mark items saw marked p1 p2 p3 p4 got sound =
      let c = claim v in
      let b = base_in state v.base in
      let e = TakeBatch c.worker in
      let d : claim v4 ≡ adds (sees c log) e = ap claim (batch_view v v1 v2 v3 v4 log p1 p2 p3 p4) in
      subst (BatchTells b c (t.Batch items)) (sym d) (
        extends c log e saw,
        got
            ∙ (ap (λ (z : View S). drop mark (entries_seen state z)) p1
            ∙ (ap (λ k. drop k (entries_after b.entries log)) marked ∙ ap (drop (mark_of state v)) (sym (entries_after-batch b.entries log c.worker)))),
        subst (λ (z : View S). All (λ (x : Entry). IsSound (base_in state z.base).base x.clause) items.items) p1 sound,
      )

  -- the mark after a batch
  pub batch_marks : (v v1 v2 v3 v4 : View S) (log : List Action) (count : ℕ)
      → v1 ≡ holding v.base (sees (claim v) log) → v2 ≡ v1 → v3 ≡ holding v2.base (adds (claim v2) (TakeBatch (claim v2).worker)) → v4 ≡ alone v3.base (claim v3)
      → count ≡ length (entries_seen state v1) → count ≡ mark_of state v4
  batch_marks v v1 v2 v3 v4 log count p1 p2 p3 p4 counted =
      let c = claim v in
      let b = base_in state v.base in
      let d : v4 ≡ alone v.base (adds (sees c log) (TakeBatch c.worker)) = batch_view v v1 v2 v3 v4 log p1 p2 p3 p4 in
      counted ∙ (ap (λ (z : View S). length (entries_seen state z)) p1 ∙ (sym (mark_after-batch c.worker 0 b.entries log) ∙ ap (mark_of state) (sym d)))

  -- the mark stays where the seen actions go on with no batch of the worker
  mark_kept : (v w : View S) → w.base ≡ v.base → (claim w).worker ≡ (claim v).worker → ((k : ℕ) → mark_after (claim v).worker k 0 (claim w).seen ≡ mark_after (claim v).worker k 0 (claim v).seen) → mark_of state w ≡ mark_of state v
  mark_kept v w same worker kept =
      ap (λ k. mark_after k (length (base_in state w.base).entries) 0 (claim w).seen) worker
      ∙ (ap (λ (z : Maybe S). mark_after (claim v).worker (length (base_in state z).entries) 0 (claim w).seen) same ∙ kept (length (base_in state v.base).entries))

  pub share_mark : (v w : View S) (clause : Clause) (r : Sharing) → w.base ≡ v.base → ShareTells (base_in state v.base) (claim v) clause r (claim w) → mark_of state w ≡ mark_of state v
  share_mark v w clause r same t = mark_kept v w same (share_worker (base_in state v.base) (claim v) (claim w) clause r t) (go r t)
    where
      go : (r : Sharing) → ShareTells (base_in state v.base) (claim v) clause r (claim w) → (k : ℕ) → mark_after (claim v).worker k 0 (claim w).seen ≡ mark_after (claim v).worker k 0 (claim v).seen
      go (s.Shared place) t k = ap (λ (z : Claim). mark_after (claim v).worker k 0 z.seen) t.0.now ∙ (mark_after-share (claim v).worker k 0 (claim v).worker clause t.0.before ∙ (ap (mark_after (claim v).worker k 0) t.0.seen.whole ∙ mark_after-since (claim v).worker k 0 (claim v).seen t.0.seen.since t.0.seen.idle))
      go (s.Busy back) t k = ap (λ (c : Claim). mark_after (claim v).worker k 0 c.seen) t.1
      go (s.Full back) t k = returns_mark (claim v) (claim w) t.1 k
      go (s.Memory back) t k = returns_mark (claim v) (claim w) t.1 k

  pub returned_mark : (v v1 v2 v4 : View S) (log : List Action) → Saw (claim v).worker log (claim v).seen → v1 ≡ holding v.base (sees (claim v) log) → v2 ≡ v1 → v4 ≡ alone v2.base (returns (claim v2)) → mark_of state v ≡ mark_of state v4
  returned_mark v v1 v2 v4 log saw p1 p2 p4 =
      let d : v4 ≡ alone v.base (returns (sees (claim v) log)) = p4 ∙ ap (λ (z : View S). alone z.base (returns (claim z))) (p2 ∙ p1) in
      let c = claim v in
      sym (ap (mark_of state) d ∙ (ap (mark_after c.worker (length (base_in state v.base).entries) 0) saw.whole ∙ mark_after-since c.worker (length (base_in state v.base).entries) 0 c.seen saw.since saw.idle))
