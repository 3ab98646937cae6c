use Rattle.std.proofs.Common.{◌≡◌, ◌<◌, ◌^◌, List, All, length, ap, subst, sym, ◌∙◌, arith}
use Rattle.clause_store.specs.Stored.{Kept, Stored, without}
use Rattle.clause_store.specs.Watching.{kept_from}
use Rattle.clause_store.specs.declared.trail.Step.{Step}
use Rattle.clause_store.specs.Empties.{NamesEmpty}
use Rattle.clause_store.specs.Entries.{Entry, bare, rooms}
use Rattle.clause_store.specs.Room.{HasRoomToMove}
use Rattle.clause_store.proofs.Rooms.{moves_fewer}
use Rattle.clause_store.specs.Keeping.{IsKept}
use Rattle.clause_store.specs.Cutting.{IsFewer}
use Rattle.clause_store.proofs.Empties.{still_some, still_none}
use Rattle.clause_store.proofs.Fewer.{HasLive, has_live, IsKept-forgotten, kept_from-forgotten, forgotten, Fewer-forgotten}
use Rattle.clause_store.proofs.counted.CountedStore.forget.Goals as goal
use Rattle.std.proofs.Common.{Some, Contains}
use Rattle.clause_store.specs.declared.waits.Wait.{Wait}

pub forget-requires : goal.forget-requires
forget-requires c =
    let i = c.self.inside in
    let h : HasLive i.rows.entries c.args.id (λ ls. Unit {0}) = has_live i.rows.entries c.args.id (λ ls. Unit {0}) (rw (← c.self.view_is) at c.requires.kept) in
    rw c.row_of-row.ensures h.within

pub invariant_of-self : goal.invariant_of-self
invariant_of-self c =
    let i = c.self.inside in
    let h : HasLive i.rows.entries c.args.id (λ ls. Unit {0}) = has_live i.rows.entries c.args.id (λ ls. Unit {0}) (rw (← c.self.view_is) at c.requires.kept) in
    let unused : All (λ (s : Step). s.reason ≡ Some c.args.id → ⊥) i.trail.steps = rw (← c.self.view_is) at c.requires.unused in
    let ws : List Wait = c.drop_of.new.waiting.items in
    let keeps : (w : Wait) → Contains i.waiting.items w → (w.row ≡ c.args.id → ⊥) → Contains ws w = rw c.row_of-row.ensures at c.drop_of.ensures.keeps in
    let only : (w : Wait) → Contains ws w → Contains i.waiting.items w × (w.row ≡ c.args.id → ⊥) = rw c.row_of-row.ensures at c.drop_of.ensures.only in
    let rows : c.forget.new.self.entries ≡ forgotten i.rows.entries c.args.id = c.forget.ensures.entries ∙ ap (forgotten i.rows.entries) c.row_of-row.ensures in
    record {
      kept =
          subst (λ es. IsKept es (bare i.lists.items) i.trail i.head ws c.still_empty-self-inside.result) (sym rows)
          (IsKept-forgotten i.rows.entries c.args.id (bare i.lists.items) i.trail i.head i.waiting.items ws i.empty c.still_empty-self-inside.result h.within unused keeps only (subst (λ es. NamesEmpty es c.still_empty-self-inside.result) rows c.still_empty-self-inside.ensures) c.self.invariant.kept);
      waits = record { apart = c.drop_of.ensures.apart c.self.invariant.waits.apart; room = omega (arith, c.drop_of.ensures.room, c.self.invariant.waits.room, ap (λ (es : List Entry). length es) rows, (Fewer-forgotten i.rows.entries c.args.id h.within).count) };
      moves = subst (λ (es : List Entry). HasRoomToMove es (rooms i.lists.items)) (sym rows) (moves_fewer i.rows.entries (forgotten i.rows.entries c.args.id) (rooms i.lists.items) (Fewer-forgotten i.rows.entries c.args.id h.within) c.self.invariant.moves);
    }

pub returns-clause-forgotten : goal.returns-clause-forgotten
returns-clause-forgotten c =
    let i = c.self.inside in
    let h : HasLive i.rows.entries c.args.id (λ ls. Unit {0}) = has_live i.rows.entries c.args.id (λ ls. Unit {0}) (rw (← c.self.view_is) at c.requires.kept) in
    let stored : List Kept → Stored = λ cs. record { clauses = cs; trail = i.trail } in
    let rows : c.forget.new.self.entries ≡ forgotten i.rows.entries c.args.id = c.forget.ensures.entries ∙ ap (forgotten i.rows.entries) c.row_of-row.ensures in
    let clauses : kept_from 0 c.forget.new.self.entries ≡ without c.args.id (kept_from 0 i.rows.entries) = ap (kept_from 0) rows ∙ kept_from-forgotten i.rows.entries c.args.id h.within in
    rw (← c.self.view_is) (ap stored clauses)

pub still_empty-self-inside-requires : goal.still_empty-self-inside-requires
still_empty-self-inside-requires c =
    let i = c.self.inside in
    let h : HasLive i.rows.entries c.args.id (λ ls. Unit {0}) = has_live i.rows.entries c.args.id (λ ls. Unit {0}) (rw (← c.self.view_is) at c.requires.kept) in
    let rows : c.forget.new.self.entries ≡ forgotten i.rows.entries c.args.id = c.forget.ensures.entries ∙ ap (forgotten i.rows.entries) c.row_of-row.ensures in
    let f : IsFewer i.rows.entries c.forget.new.self.entries = subst (IsFewer i.rows.entries) (sym rows) (Fewer-forgotten i.rows.entries c.args.id h.within) in
    record {
      small = subst (λ n. n < 2 ^ 32) (sym f.count) c.self.invariant.kept.small;
      some = still_some i.rows.entries c.forget.new.self.entries i.empty f c.self.invariant.kept.empty_is;
      none = still_none i.rows.entries c.forget.new.self.entries i.empty f c.self.invariant.kept.empty_is;
    }
