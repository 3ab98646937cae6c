-- What a pass's calls need and tell.
use Rattle.std.specs.Prelude.{◌≡◌, ◌≢◌, ℕ, ◌+◌, ◌≤◌, List, [], ◌∷◌, ◌++◌, length, drop, Option, None, Some, Ok, Err, Result, Vec, All}
use Rattle.std.specs.declared.alloc.AllocError.{AllocError}
use Rattle.std.specs.declared.alloc.Global.{Global}
use Rattle.atomic_table.specs.Table.{Me}
use Rattle.smt_meaning.specs.declared.clauses.Clause.{Clause}
use Rattle.race_model.specs.declared.event.Entry.{Entry}
use Rattle.race_model.specs.declared.shelf.Told.{Told}
use Rattle.race_model.specs.declared.shelf.Told.TheVariants.{Shared, Full, Memory}
use Rattle.race_model.specs.Race.{most_entries}
use Rattle.race_model.specs.Laws.{IsSound}
use Rattle.race_model.specs.Shelves.{ShelfState}
use Rattle.race_cell.specs.declared.action.Action.{Action}
use Rattle.race_cell.specs.declared.action.Action.TheVariants.{Share, TakeBatch}
use Rattle.race_cell.specs.Actions.{entries_after, mark_after, MayFollow}
use Rattle.race_cell.specs.declared.view.Claim.{Claim}
use Rattle.race_cell.specs.declared.view.View.{View}
use Rattle.race_cell.specs.declared.answer.Sharing.{Sharing}
use Rattle.race_cell.specs.declared.answer.Sharing.TheVariants as s
use Rattle.race_cell.specs.declared.answer.Batch.{Batch}
use Rattle.race_cell.specs.declared.answer.Batch.TheVariants as t
use Rattle.race_cell.specs.declared.answer.Raced.{Raced}
use Rattle.race_cell.specs.declared.answer.Raced.TheVariants.{Won, Lost}
use Rattle.race_cell.specs.Rules.{IsAt, Saw, claim, base_in, alone, holding, sees, adds, finds, wins, busier, returns, looks_at, share_out}

-- a seat between calls: one claim, and no slot
abbrev pub IsAlone : {S : Type 0} → Me S (View S) → Type 0
IsAlone m = m ≡ (alone m.0.base (claim m.0), [])

-- the worker's mark, in what it has seen, where there were so many entries as the race began
abbrev pub mark_in : ℕ → Claim → ℕ
mark_in entries c = mark_after c.worker entries 0 c.seen

-- the worker's mark
abbrev pub mark_of : {S : Type 0} → (S → ShelfState) → View S → ℕ
mark_of state v = mark_in (length (base_in state v.base).entries) (claim v)

-- the slot was taken and given back as it was; more was seen, of which nothing is the worker's own
pub record Returns (c d : Claim) : Type 0 where
  pub seen : Saw c.worker d.seen c.seen
  pub now : d ≡ returns (sees c d.seen)

-- the worker's action comes after all that it had seen, and then it has seen all up to this action
pub record Extends (c : Claim) (e : Action) (d : Claim) : Type 0 where
  pub before : List Action
  pub seen : Saw c.worker before c.seen
  pub now : d ≡ adds (sees c before) e

-- the entry stands at the place, which is the last one
abbrev pub Stands : List Entry → ℕ → Entry → Type 0
Stands entries place entry = (xs : List Entry) × (entries ≡ xs ++ entry ∷ []) × (place ≡ length xs)

abbrev pub ShareTells : ShelfState → Claim → Clause → Sharing → Claim → Type 0
ShareTells b c clause (s.Shared place) d = Extends c (Share c.worker clause) d × Stands (entries_after b.entries d.seen) place (record { clause = clause; worker = c.worker })
ShareTells b c clause (s.Busy back) d = (back ≡ clause) × (d ≡ busier c)
ShareTells b c clause (s.Full back) d = (back ≡ clause) × Returns c d × (most_entries ≤ length (entries_after b.entries d.seen))
ShareTells b c clause (s.Memory back) d = (back ≡ clause) × Returns c d

-- the batch is what the shelf has from the worker's mark on, and follows from the levels
abbrev pub BatchTells : ShelfState → Claim → Batch → Claim → Type 0
BatchTells b c (t.Batch v) d =
    Extends c (TakeBatch c.worker) d × (v.items ≡ drop (mark_in (length b.entries) c) (entries_after b.entries d.seen)) × All (λ (e : Entry). IsSound b.base e.clause) v.items
BatchTells b c t.Busy d = d ≡ busier c
BatchTells b c t.Memory d = Returns c d

abbrev pub RaceTells : Claim → Raced → Claim → Type 0
RaceTells c Won d = (d ≡ wins c) × (c.found ≡ 0)
RaceTells c (Lost w) d = (d ≡ finds c (w + 1)) × (c.found ≢ 0 → c.found ≡ w + 1)

abbrev pub AskTells : Claim → Option ℕ → Claim → Type 0
AskTells c None d = (d ≡ looks_at c 0) × (c.found ≡ 0)
AskTells c (Some w) d = (d ≡ looks_at c (w + 1)) × (c.found ≢ 0 → c.found ≡ w + 1)

module _ {S : Type 0} (state : S → ShelfState) where
  -- the shelf is out with the seat, as it was at home, and the seat has seen all
  abbrev pub Held : Me S (View S) → Type 0
  Held m = (y : S) × (m ≡ (holding m.0.base (claim m.0), (0, y) ∷ [])) × IsAt state (base_in state m.0.base) (claim m.0).seen y

  -- the shelf that is out is one action further than what was seen
  abbrev pub Ready : Action → Me S (View S) → Type 0
  Ready e m =
      (y : S) × (m ≡ (holding m.0.base (claim m.0), (0, y) ∷ [])) × IsAt state (base_in state m.0.base) ((claim m.0).seen ++ e ∷ []) y
      × MayFollow (base_in state m.0.base).base (entries_after (base_in state m.0.base).entries (claim m.0).seen) e

  -- the seat has taken the shelf
  abbrev pub Takes : View S → Me S (View S) → Type 0
  Takes v m' = (log : List Action) × Saw (claim v).worker log (claim v).seen × (m'.0 ≡ holding v.base (sees (claim v) log)) × Held m'

  -- the entries that the seat has seen
  abbrev pub entries_seen : View S → List Entry
  entries_seen v = entries_after (base_in state v.base).entries (claim v).seen

  abbrev pub Puts : ℕ → Clause → Me S (View S) → Told → Me S (View S) → Type 0
  Puts worker clause m (Shared place) m' = (m'.0 ≡ m.0) × Ready (Share worker clause) m' × (place ≡ length (entries_seen m.0)) × (share_out state m'.1 ≡ Share worker clause)
  Puts worker clause m (Full back) m' = (m'.0 ≡ m.0) × Held m' × (most_entries ≤ length (entries_seen m.0)) × (back ≡ clause)
  Puts worker clause m (Memory back) m' = (m'.0 ≡ m.0) × Held m' × (back ≡ clause)

  abbrev pub Draws : ℕ → Me S (View S) → Result (Vec Entry Global × ℕ) AllocError → Me S (View S) → Type 0
  Draws mark m (Ok v) m' =
      (m'.0 ≡ m.0) × Ready (TakeBatch (claim m.0).worker) m' × (v.0.items ≡ drop mark (entries_seen m.0)) × (v.1 ≡ length (entries_seen m.0))
      × All (λ (e : Entry). IsSound (base_in state m.0.base).base e.clause) v.0.items
  Draws mark m (Err e) m' = (m'.0 ≡ m.0) × Held m'
