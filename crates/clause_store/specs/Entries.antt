-- The kept clauses by their places, each with its two watched literals, and the lists of watches.
use Rattle.std.specs.Prelude.{◌≡◌, ℕ, ◌+◌, ◌-◌, ◌^◌, ◌<◌, ◌⊎◌, min, Bool, true, false, List, [], take, drop, slice_index_or, All, map}
use Rattle.literals.specs.Signed.{Signed, packed}
use Rattle.clause_store.specs.declared.rows.Row.{Row}
use Rattle.clause_store.specs.declared.lists.Watch.{Watch}

-- a clause at its place: its literals in their order, and two of them that are watched
pub record Entry : Type 0 where
  pub literals : List Signed
  pub first : Signed
  pub second : Signed
  pub level : ℕ
  pub live : Bool

abbrev pub zero_literal : Signed
zero_literal = record { atom = 0; positive = true }

abbrev pub no_row : Row
no_row = record { start = 0; len = 0; first = zero_literal; second = zero_literal; level = 0; live = false; place = 0 }

abbrev pub entry_of : List Signed → Row → Entry
entry_of ls r = record { literals = take r.len (drop r.start ls); first = r.first; second = r.second; level = r.level; live = r.live }

abbrev pub no_entry : Entry
no_entry = record { literals = []; first = zero_literal; second = zero_literal; level = 0; live = false }

-- the entry at a place, and one that isn't live past the end
abbrev pub entry_at : List Entry → ℕ → Entry
entry_at es i = slice_index_or es i no_entry

-- the clauses by their places, and how often one was looked at
pub record Held : Type 0 where
  pub entries : List Entry
  pub looks : ℕ

-- the count after one more look; it stands still at its last value
abbrev pub risen : ℕ → ℕ
risen looks = min (looks + 1) (2 ^ 64 - 1)

-- a literal's watches, and for how many there is room
pub record Listing : Type 0 where
  pub watches : List Watch
  pub room : ℕ

abbrev pub bare : List Listing → List (List Watch)
bare lists = map (λ (l : Listing). l.watches) lists

abbrev pub rooms : List Listing → List ℕ
rooms lists = map (λ (l : Listing). l.room) lists

-- the watches of a literal
abbrev pub watches_of : List (List Watch) → Signed → List Watch
watches_of lists l = slice_index_or lists (packed l) []

abbrev pub room_of : List ℕ → Signed → ℕ
room_of rooms l = slice_index_or rooms (packed l) 0

-- its literals' atoms are below this number
pub record IsKnown (atoms : ℕ) (e : Entry) : Type 0 where
  pub literals : All (λ (l : Signed). l.atom < atoms) e.literals
  pub first : e.first.atom < atoms
  pub second : e.second.atom < atoms

-- one of the two watched literals, where the other is this
pub record IsOther (e : Entry) (f o : Signed) : Type 0 where
  pub pair : ((e.first ≡ f) × (e.second ≡ o)) ⊎ ((e.second ≡ f) × (e.first ≡ o))
