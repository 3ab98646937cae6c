-- What is true of a store's fields.
use Rattle.std.specs.Prelude.{ℕ, ◌^◌, ◌<◌, List, All, Option, length}
use Rattle.literals.specs.Signed.{Signed}
use Rattle.clause_store.specs.Assigned.{Assigned}
use Rattle.clause_store.specs.Each.{EachAfter}
use Rattle.clause_store.specs.Stored.{Kept, IsJustified}
use Rattle.clause_store.specs.Entries.{Entry, Listing, bare, rooms}
use Rattle.clause_store.specs.Empties.{NamesEmpty, all_filled}
use Rattle.clause_store.specs.Watching.{IsWatching, kept_from}
use Rattle.clause_store.specs.Rested.{Rested}
use Rattle.clause_store.specs.Room.{HasRoomToWait, HasRoomToMove}
use Rattle.clause_store.specs.declared.lists.Watch.{Watch}
use Rattle.clause_store.specs.declared.waits.Wait.{Wait}

-- the watches are kept up
pub record IsTight (es : List Entry) (lists : List (List Watch)) (trail : Assigned) (head : ℕ) (ws : List Wait) : Type 0 where
  pub watch : IsWatching trail.atoms es lists
  pub rested : Rested es trail.steps trail.depth head head ws

pub record IsKept (es : List Entry) (lists : List (List Watch)) (trail : Assigned) (head : ℕ) (ws : List Wait) (empty : Option ℕ) : Type 0 where
  pub known : All (λ (c : Kept). All (λ (l : Signed). l.atom < trail.atoms) c.literals) (kept_from 0 es)
  pub justified : EachAfter (IsJustified (kept_from 0 es)) trail.steps
  pub small : length es < 2 ^ 32
  pub empty_is : NamesEmpty es empty
  pub tight : IsTight (all_filled es) lists trail head ws

-- so, with room for what propagation moves
pub record IsRoomy (es : List Entry) (lists : List Listing) (trail : Assigned) (head : ℕ) (ws : List Wait) (capacity : ℕ) (empty : Option ℕ) : Type 0 where
  pub kept : IsKept es (bare lists) trail head ws empty
  pub waits : HasRoomToWait es ws capacity
  pub moves : HasRoomToMove es (rooms lists)
