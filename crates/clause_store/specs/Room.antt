-- Room for what propagation moves, so that it takes no memory.
use Rattle.std.specs.Prelude.{◌≡◌, ℕ, ◌<◌, ◌≤◌, List, All, Contains, map, length}
use Rattle.literals.specs.Signed.{Signed}
use Rattle.clause_store.specs.Looks.{AreApart}
use Rattle.clause_store.specs.Entries.{Entry, entry_at, watches_of, room_of}
use Rattle.clause_store.specs.declared.lists.Watch.{Watch}
use Rattle.clause_store.specs.declared.waits.Wait.{Wait}

abbrev pub rows_of : List Wait → List ℕ
rows_of ws = map (λ (w : Wait). w.row) ws

-- no clause waits twice, and each may wait
pub record HasRoomToWait (es : List Entry) (ws : List Wait) (capacity : ℕ) : Type 0 where
  pub apart : AreApart (rows_of ws)
  pub room : length es ≤ capacity

-- each literal has room for a watch of each clause that has it, those forgotten too
pub record HasRoomToMove (es : List Entry) (rooms : List ℕ) : Type 0 where
  pub few : (l : Signed) (rows : List ℕ) → AreApart rows → All (λ i. Contains (entry_at es i).literals l) rows → length rows ≤ room_of rooms l

abbrev pub HasPlace : List (List Watch) → List ℕ → Signed → Type 0
HasPlace lists rooms l = length (watches_of lists l) < room_of rooms l

-- there is room for a watch of the clause at each of its literals that doesn't watch it
abbrev pub LeavesRoom : List (List Watch) → List ℕ → Entry → Type 0
LeavesRoom lists rooms e = (l : Signed) → Contains e.literals l → (e.first ≡ l → ⊥) → (e.second ≡ l → ⊥) → HasPlace lists rooms l
