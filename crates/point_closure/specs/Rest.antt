-- When nothing is left to be joined.
use Rattle.std.specs.Prelude.{◌≡◌, ◌≢◌, ℕ, ◌<◌, ◌≤◌, ◌⊎◌, Bool, true, false, List, [], ◌∷◌, ◌++◌, length, take, slice_index, slice_index_or, Contains, IsTrue}
use Rattle.point_closure.specs.declared.classes.Union.{Union}
use Rattle.point_closure.specs.Closure.{Point, point_at, takes_part}
use Rattle.point_closure.specs.Unions.{root_of}
use Rattle.point_closure.specs.declared.pending.Pending.{Pending}
use Rattle.point_closure.specs.declared.watch.Watch.{Watch}
use Rattle.point_closure.specs.declared.lists.Change.{Change}
use Rattle.point_closure.specs.declared.lists.Change.TheVariants.{Put, Join}
use Rattle.point_closure.specs.Lists.{list_of}
use Rattle.point_closure.specs.Signature.{signature, signature_hash, Filed}

-- the first list begins the second
abbrev pub Begins : {X : Type 0} → List X → List X → Type 0
Begins xs ys = take (length xs) ys ≡ xs

-- numbers of classes that respect the roots and the pairs that are pending
pub record Respect (us : List Union) (pending : List Pending) (class : ℕ → ℕ) : Type 0 where
  pub roots : (i j : ℕ) → root_of us i ≡ root_of us j → class i ≡ class j
  pub pairs : (k : ℕ) (d : Pending) → k < length pending → class (slice_index_or pending k d).left ≡ class (slice_index_or pending k d).right

-- two points are in one class, or will be once the pending pairs are joined
abbrev pub AreTied : List Union → List Pending → ℕ → ℕ → Type 0
AreTied us pending i j = (class : ℕ → ℕ) → Respect us pending class → class i ≡ class j

-- the point stands in the list from this place on
abbrev pub Waits : List ℕ → ℕ → ℕ → Type 0
Waits list from i = (m : ℕ) × (from ≤ m) × (m < length list) × (slice_index list m ≡ i)

-- some point of this signature is filed under its hash
pub record IsFound (ps : List Point) (us : List Union) (t : Filed) (pending : List Pending) (i : ℕ) : Type 0 where
  pub at : ℕ
  pub within : at < length t.points
  pub hash : slice_index t.hashes at ≡ signature_hash (signature ps us i)
  pub one : signature ps us (slice_index t.points at) ≡ signature ps us i
  pub tied : AreTied us pending (slice_index t.points at) i

-- each point that takes part finds one of its signature, and those that can be found for one signature are tied; but for the points that wait
pub record AreFiled (ps : List Point) (us : List Union) (t : Filed) (pending : List Pending) (list : List ℕ) (from : ℕ) : Type 0 where
  pub sizes : length t.hashes ≡ length t.points
  pub found : (i : ℕ) → i < length ps → IsTrue (takes_part (point_at ps i).shape) → Waits list from i ⊎ IsFound ps us t pending i
  pub one : (j k : ℕ) → j < length t.points → k < length t.points → signature ps us (slice_index t.points j) ≡ signature ps us (slice_index t.points k)
      → slice_index t.hashes j ≡ signature_hash (signature ps us (slice_index t.points j)) → slice_index t.hashes k ≡ signature_hash (signature ps us (slice_index t.points k))
      → Waits list from (slice_index t.points j) ⊎ (Waits list from (slice_index t.points k) ⊎ AreTied us pending (slice_index t.points j) (slice_index t.points k))

-- a point that takes part
abbrev pub TakesPart : List Point → ℕ → Type 0
TakesPart ps i = (i < length ps) × IsTrue (takes_part (point_at ps i).shape)

-- what filing a point does
pub record Files (ps : List Point) (us : List Union) (t t' : Filed) (pending : List Pending) (i : ℕ) : Type 0 where
  pub tied : (k : ℕ) → k < length t.points → slice_index t.hashes k ≡ signature_hash (signature ps us i) → signature ps us (slice_index t.points k) ≡ signature ps us i
      → AreTied us pending (slice_index t.points k) i
  pub found : IsFound ps us t' pending i
  pub added : (t' ≡ t) ⊎ ((t'.points ≡ t.points ++ i ∷ []) × (t'.hashes ≡ t.hashes ++ signature_hash (signature ps us i) ∷ [])
      × ((k : ℕ) → k < length t.points → slice_index t.hashes k ≡ signature_hash (signature ps us i) → signature ps us (slice_index t.points k) ≢ signature ps us i))

-- a point that takes part is filed; of any other nothing changes
abbrev pub FilesWherePart : List Point → List Union → Filed → Filed → List Pending → ℕ → Type 0
FilesWherePart ps us t t' pending i = (IsTrue (takes_part (point_at ps i).shape) × Files ps us t t' pending i) ⊎ ((takes_part (point_at ps i).shape ≡ false) × (t' ≡ t))

pub record FiledGrows (t t' : Filed) : Type 0 where
  pub hashes : Begins t.hashes t'.hashes
  pub points : Begins t.points t'.points

-- one place was looked at: a point of the signature is tied
pub record Looks (ps : List Point) (us : List Union) (t : Filed) (pending : List Pending) (i place : ℕ) (found found' : Bool) : Type 0 where
  pub congruent : signature ps us (slice_index t.points place) ≡ signature ps us i → (found' ≡ true) × AreTied us pending (slice_index t.points place) i
  pub other : signature ps us (slice_index t.points place) ≢ signature ps us i → found' ≡ found
  pub decides : (signature ps us (slice_index t.points place) ≡ signature ps us i) ⊎ (signature ps us (slice_index t.points place) ≢ signature ps us i)

-- of the places from this one on, all with the hash and the point's signature are tied to it; and whether there are some
pub record Pairs (ps : List Point) (us : List Union) (t : Filed) (pending : List Pending) (hash i from : ℕ) (found : Bool) : Type 0 where
  pub tied : (k : ℕ) → from ≤ k → k < length t.points → slice_index t.hashes k ≡ hash → signature ps us (slice_index t.points k) ≡ signature ps us i
      → AreTied us pending (slice_index t.points k) i
  pub some : found ≡ true → (k : ℕ) × (k < length t.points) × (slice_index t.hashes k ≡ hash) × (signature ps us (slice_index t.points k) ≡ signature ps us i)
      × AreTied us pending (slice_index t.points k) i
  pub none : found ≡ false → (k : ℕ) → from ≤ k → k < length t.points → slice_index t.hashes k ≡ hash → signature ps us (slice_index t.points k) ≢ signature ps us i

-- ---- the lists of classes

-- each point stands in the list of each of its arguments' classes
abbrev pub UsesAre : List Point → List Union → List Change → Type 0
UsesAre ps us cs = (i a : ℕ) → i < length ps → a < length (point_at ps i).arguments → Contains (list_of cs (root_of us (slice_index (point_at ps i).arguments a))) i

abbrev pub watch_at : List Watch → ℕ → Watch
watch_at ws k = slice_index_or ws k (record { left = 0; right = 0; step = 0 })

-- each watched pair stands in the lists of its points' classes
abbrev pub WatchesAre : List Watch → List Union → List Change → Type 0
WatchesAre ws us cs = (k : ℕ) → k < length ws → Contains (list_of cs (root_of us (watch_at ws k).left)) k × Contains (list_of cs (root_of us (watch_at ws k).right)) k

-- the pairs that were met are those of one class
pub record AreMet (ws : List Watch) (us : List Union) (met : List ℕ) : Type 0 where
  pub each : (k : ℕ) → Contains met k → (k < length ws) × (root_of us (watch_at ws k).left ≡ root_of us (watch_at ws k).right)
  pub all : (k : ℕ) → k < length ws → root_of us (watch_at ws k).left ≡ root_of us (watch_at ws k).right → Contains met k

-- one point is in the one class, the other in the other
abbrev pub IsAcross : List Union → ℕ → ℕ → Watch → Type 0
IsAcross us kept gone w = ((root_of us w.left ≡ gone) × (root_of us w.right ≡ kept)) ⊎ ((root_of us w.left ≡ kept) × (root_of us w.right ≡ gone))

-- the pairs across two classes are met
pub record Meets (ws : List Watch) (us : List Union) (kept gone : ℕ) (met met' : List ℕ) : Type 0 where
  pub before : (k : ℕ) → Contains met k → Contains met' k
  pub each : (k : ℕ) → Contains met' k → Contains met k ⊎ ((k < length ws) × IsAcross us kept gone (watch_at ws k))

-- one pair is met where it is across two classes
pub record MeetsOne (ws : List Watch) (us : List Union) (kept gone : ℕ) (met met' : List ℕ) (i : ℕ) : Type 0 where
  pub before : (k : ℕ) → Contains met k → Contains met' k
  pub each : (k : ℕ) → Contains met' k → Contains met k ⊎ ((k ≡ i) × IsAcross us kept gone (watch_at ws i))
  pub here : IsAcross us kept gone (watch_at ws i) → Contains met' i

-- what was in the lists stays there, and the point comes into those of its first arguments' classes
pub record Puts (us : List Union) (arguments : List ℕ) (point count : ℕ) (cs cs' : List Change) : Type 0 where
  pub old : (r x : ℕ) → Contains (list_of cs r) x → Contains (list_of cs' r) x
  pub new : (a : ℕ) → a < count → Contains (list_of cs' (root_of us (slice_index arguments a))) point

-- the items that the changes put are below a bound
abbrev pub PutsBelow : ℕ → Change → Type 0
PutsBelow n (Put c x) = x < n
PutsBelow n (Join k g) = Unit {0}

-- a pair came to be watched: it stands in the lists of its points' classes, and is met where these are one
pub record IsWatching (us : List Union) (w : Watch) (ws ws' : List Watch) (cs cs' : List Change) (met met' : List ℕ) : Type 0 where
  pub pairs : ws' ≡ ws ++ w ∷ []
  pub lists : cs' ≡ (cs ++ Put (root_of us w.left) (length ws) ∷ []) ++ Put (root_of us w.right) (length ws) ∷ []
  pub at_once : ((root_of us w.left ≡ root_of us w.right) × (met' ≡ met ++ length ws ∷ [])) ⊎ ((root_of us w.left ≢ root_of us w.right) × (met' ≡ met))
