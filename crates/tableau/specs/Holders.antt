-- For each variable the places of the rows that have it.
use Rattle.std.specs.Prelude.{◌≡◌, ℕ, zero, suc, ◌<◌, ◌⊎◌, true, List, [], ◌∷◌, length, slice_index_or, Contains, Vec}
use Rattle.tableau.specs.declared.rows.Row.{Row}
use Rattle.tableau.specs.declared.holders.Change.{Change}
use Rattle.tableau.specs.Rows.{variable_at}
use Rattle.tableau.specs.Staged.{HasVariable}
use Rattle.tableau.specs.Table.{IsTableau}

-- the places listed for a variable; none past the end
abbrev pub items_at : {Z : Type 0} → List (Vec ℕ Z) → ℕ → List ℕ
items_at [] j = []
items_at (v ∷ vs) zero = v.items
items_at (v ∷ vs) (suc j) = items_at vs j

-- each row is listed with each variable that it has; more may be listed
pub record IsIndexed {Z : Type 0} (rows : List Row) (vs : List (Vec ℕ Z)) : Type 0 where
  pub listed : IsTableau (length vs) rows
  pub each : (j k : ℕ) (d : Row) → k < length rows → HasVariable j (slice_index_or rows k d).entries.items → Contains (items_at vs j) k

-- where the pivot that is being tried changes the row, the variables that it gains are noted
abbrev pub IsNoted : List Change → ℕ → Row → Type 0
IsNoted changes k r =
    r.changes ≡ true → (i : ℕ) → i < length r.next.items
    → HasVariable (variable_at r.next.items i) r.entries.items ⊎ Contains changes (record { variable = variable_at r.next.items i; place = k; gained = true })

-- rows listed with variables that they have stay so
abbrev pub KeepsListed : {Z : Type 0} → List Row → List (Vec ℕ Z) → List (Vec ℕ Z) → Type 0
KeepsListed rows vs ws =
    (j k : ℕ) (d : Row) → k < length rows → HasVariable j (slice_index_or rows k d).entries.items → Contains (items_at vs j) k → Contains (items_at ws j) k
