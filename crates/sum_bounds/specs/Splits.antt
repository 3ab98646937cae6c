-- Splits: no numbers meet bounds with a sum at most a number, nor with it at least the next one.
use Rattle.std.specs.Prelude.{◌≡◌, ◌≢◌, ℕ, ◌<◌, true, false, List, [], ◌∷◌, ◌++◌, length, ℤ, All, AllPairs, Contains, ◌⊎◌}
use Rattle.fraction128.specs.declared.Column.{Column}
use Rattle.literals.specs.Signed.{Signed}
use Rattle.simplex_steps.specs.State.{column_in}
use Rattle.sum_bounds.specs.Bounds.{State, Told, told_bound, sums, IsConflict}

-- the atom of the two sides
abbrev pub spare : ℕ
spare = 2147483647

-- ---- copies

-- the variables keep their sums
pub record KeepsSums (old new : State) : Type 0 where
  pub count : length new.columns ≡ length old.columns
  pub each : (i : ℕ) → sums new i ≡ sums old i

-- maybe variables more, and the same bounds
pub record Extends (old new : State) : Type 0 where
  pub kept : (i : ℕ) → i < length old.columns → (i < length new.columns) × (sums new i ≡ sums old i)
  pub told : new.told ≡ old.told

-- the first variables have the sums of the columns, and no bound is told
pub record HasFirst (cs : List Column) (n : ℕ) (s : State) : Type 0 where
  pub first : (i : ℕ) → i < n → (i < length s.columns) × (sums s i ≡ (column_in cs i).sum)
  pub untold : s.told ≡ []

-- a bound that was told, and isn't one of the sides
pub record IsCopied (cs : List Column) (told : List Told) (t : Told) : Type 0 where
  pub among : Contains told t
  pub known : t.variable < length cs
  pub apart : t.literal.atom ≢ spare

-- the first variables have the sums of the columns, and each bound was told
pub record IsCopy (cs : List Column) (told : List Told) (s : State) : Type 0 where
  pub first : (i : ℕ) → i < length cs → (i < length s.columns) × (sums s i ≡ (column_in cs i).sum)
  pub copied : All (IsCopied cs told) s.told

-- ---- clauses

-- a clause with the literals more that aren't of a side, each once
pub record AddsOthers (before ls now : List Signed) : Type 0 where
  pub keeps : (m : Signed) → Contains before m → Contains now m
  pub has : (m : Signed) → Contains ls m → m.atom ≢ spare → Contains now m
  pub only : (m : Signed) → Contains now m → Contains before m ⊎ (Contains ls m × (m.atom ≢ spare))
  pub once : AllPairs (λ (a b : Signed). a ≢ b) before → AllPairs (λ (a b : Signed). a ≢ b) now

abbrev pub AddsOther : List Signed → Signed → List Signed → Type 0
AddsOther before l now = AddsOthers before (l ∷ []) now

-- the literals of both clauses that aren't of a side, each once
pub record IsResolvent (below above ls : List Signed) : Type 0 where
  pub has : (m : Signed) → Contains below m ⊎ Contains above m → m.atom ≢ spare → Contains ls m
  pub only : (m : Signed) → Contains ls m → (Contains below m ⊎ Contains above m) × (m.atom ≢ spare)
  pub once : AllPairs (λ (a b : Signed). a ≢ b) ls

-- the bounds told with a side more
abbrev pub told_with : State → Signed → ℕ → ℤ → List Told
told_with s side i k = s.told ++ told_bound side i false k ∷ []

-- the clause is the resolvent of the conflicts with each side
pub record IsSplit (s : State) (ls : List Signed) : Type 0 where
  pub variable : ℕ
  pub number : ℤ
  pub below : List Signed
  pub above : List Signed
  pub at_most : IsConflict (sums s) (told_with s (record { atom = spare; positive = true }) variable number) below
  pub at_least : IsConflict (sums s) (told_with s (record { atom = spare; positive = false }) variable number) above
  pub resolved : IsResolvent below above ls
