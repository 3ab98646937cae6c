-- How classes are kept: for each point the one above it.
use Rattle.std.specs.Prelude.{◌≡◌, ℕ, ◌<◌, ◌≤◌, ◌-◌, ◌^◌, List, length, slice_index_or}
use Rattle.point_closure.specs.declared.classes.Union.{Union}
use Rattle.point_closure.specs.declared.classes.Link.{Link}
use Rattle.point_closure.specs.Unions.{AreUnions}

abbrev pub link_at : List Link → ℕ → Link
link_at ls n = slice_index_or ls n (record { up = 0; edge = 0 })

-- the point above by the union that took it away, or itself at a root
pub record IsLink (us : List Union) (n : ℕ) (l : Link) : Type 0 where
  pub lower : l.edge < length us → (d : Union) → ((slice_index_or us l.edge d).gone ≡ n) × ((slice_index_or us l.edge d).kept ≡ l.up)
  pub root : length us ≤ l.edge → (l.edge ≡ 2 ^ 32 - 1) × (l.up ≡ n)

pub record AreLinks (us : List Union) (ls : List Link) : Type 0 where
  pub few : length us < 2 ^ 32 - 1
  pub unions : AreUnions (length ls) us
  pub at : (n : ℕ) → n < length ls → IsLink us n (link_at ls n)
  pub gone : (k : ℕ) (d : Union) → k < length us → (link_at ls (slice_index_or us k d).gone).edge ≡ k
  pub later : (k : ℕ) (d : Union) → k < length us → k < (link_at ls (slice_index_or us k d).kept).edge
