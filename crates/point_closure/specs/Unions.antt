-- Classes of points as a list of unions, oldest first.
use Rattle.std.specs.Prelude.{◌≡◌, ◌≢◌, ℕ, ◌<◌, nat_eq, List, [], ◌∷◌, length, take, slice_index_or, if◌then◌else◌, ◌++◌, Option, MatchOption}
use Rattle.point_closure.specs.declared.classes.Union.{Union}
use Rattle.point_closure.specs.declared.classes.Newest.{Newest}

-- the root of a point after one more union
abbrev pub after : Union → ℕ → ℕ
after u n = if nat_eq n u.gone then u.kept else n

-- the root of a point's class
unfoldable pub root_of : List Union → ℕ → ℕ
root_of [] n = n
root_of (u ∷ us) n = root_of us (after u n)

-- what classes of points are seen as
pub record Joined : Type 0 where
  pub count : ℕ
  pub unions : List Union

-- a union of the classes of two points, by their roots
pub record IsUnion (count : ℕ) (us : List Union) (u : Union) : Type 0 where
  pub from_within : u.from < count
  pub to_within : u.to < count
  pub kept_within : u.kept < count
  pub gone_within : u.gone < count
  pub from_root : root_of us u.from ≡ u.gone
  pub to_root : root_of us u.to ≡ u.kept
  pub different : u.gone ≢ u.kept

-- each union is one of the classes before it
pub record AreUnions (count : ℕ) (us : List Union) : Type 0 where
  pub at : (k : ℕ) (d : Union) → k < length us → IsUnion count (take k us) (slice_index_or us k d)

-- the union that first put two points into one class: one of them was in the class that it took away, the other in the one that it kept
pub record IsNewest (us : List Union) (left right : ℕ) (n : Newest) : Type 0 where
  pub within : n.union < length us
  pub left_root : (d : Union) → root_of (take n.union us) left ≡ (if n.turned then (slice_index_or us n.union d).kept else (slice_index_or us n.union d).gone)
  pub right_root : (d : Union) → root_of (take n.union us) right ≡ (if n.turned then (slice_index_or us n.union d).gone else (slice_index_or us n.union d).kept)

abbrev pub TakesLast : Joined → Joined → Option Union → Type 0
TakesLast before now r = MatchOption r ((before.unions ≡ []) × (now ≡ before)) (λ u. (before.unions ≡ now.unions ++ u ∷ []) × (now.count ≡ before.count))
