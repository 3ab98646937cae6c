-- Of the places below a bound, the last one that a function sends to a given number.
use Rattle.std.specs.Prelude.{◌≡◌, ℕ, zero, suc, ◌<◌, ◌≤◌, ◌-◌, ◌^◌, List, map, length, nat_eq, bit_and, slice_index, slice_index_or, if◌then◌else◌}
use Rattle.term_store.specs.declared.index.Link.{Link}

-- one more than the last place below m that f sends to b, or 0
abbrev pub latest : (ℕ → ℕ) → ℕ → ℕ → ℕ
latest f b zero = 0
latest f b (suc m) = if nat_eq (f m) b then suc m else latest f b m

-- one more than the last place below m with this hash, or 0
abbrev pub last_place : List ℕ → ℕ → ℕ → ℕ
last_place hs h m = latest (λ k. slice_index hs k) h m

-- ---- how an index keeps them

abbrev pub hashes_of : List Link → List ℕ
hashes_of links = map (λ (l : Link). l.hash) links

-- the bucket of a hash, of so many
abbrev pub bucket_of : ℕ → ℕ → ℕ
bucket_of count h = bit_and h (count - 1)

abbrev pub bucket_at : List Link → ℕ → ℕ → ℕ
bucket_at links count k = bucket_of count (slice_index (hashes_of links) k)

-- each link names the last place before it in its bucket
pub record AreLinked (count : ℕ) (links : List Link) : Type 0 where
  pub at : (k : ℕ) (d : Link) → k < length links → (slice_index_or links k d).before ≡ latest (bucket_at links count) (bucket_at links count k) k

-- each bucket names its last place, and each link the one before
pub record IsIndex (links : List Link) (buckets : List ℕ) : Type 0 where
  pub room : length links ≤ length buckets
  pub few : length links < 2 ^ 32
  pub last : (b : ℕ) → b < length buckets → slice_index buckets b ≡ latest (bucket_at links (length buckets)) b (length links)
  pub linked : AreLinked (length buckets) links

-- a link from which each place with this hash can be met
pub record IsOnChain (links : List Link) (hash link : ℕ) : Type 0 where
  pub count : ℕ
  pub linked : AreLinked count links
  pub from : link ≡ latest (bucket_at links count) (bucket_of count hash) link
  pub within : link ≤ length links
