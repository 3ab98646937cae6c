-- What holds of every race that has ended.
use Rattle.std.specs.Prelude.{◌≡◌, ℕ, ◌+◌, ◌<◌, List, length, slice_index_or, Contains}
use Rattle.race_model.specs.Shelves.{ShelfState}
use Rattle.race_cell.specs.declared.action.Action.TheVariants.{Win}
use Rattle.race_cell.specs.declared.view.Claim.{Claim}
use Rattle.race_cell.specs.Rules.{Ended, fresh_from}

-- the worker of each claim is the number of its place
abbrev pub AreInOrder : List Claim → Type 0
AreInOrder claims = (i : ℕ) (d : Claim) → i < length claims → (slice_index_or claims i d).worker ≡ i

abbrev pub FreshAreInOrder : Type 0
FreshAreInOrder = (n : ℕ) → AreInOrder (fresh_from 0 n) × (length (fresh_from 0 n) ≡ n)

-- the worker that a claim has found as the winner is one of the race, and its win is among its own actions
abbrev pub WinnerHasWon : {S : Type 0} → (S → ShelfState) → Type 0
WinnerHasWon {S} state =
    (b : ShelfState) (n : ℕ) (claims : List Claim) (y : S) → Ended state b n claims y → AreInOrder claims → length claims ≡ n
    → (c : Claim) → Contains claims c → (w : ℕ) → c.found ≡ w + 1 → (w < n) × ((d : Claim) → Contains (slice_index_or claims w d).own (Win w))
