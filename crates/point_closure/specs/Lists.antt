-- A list for each class, as what changed them, oldest first.
use Rattle.std.specs.Prelude.{◌≡◌, ◌≢◌, ℕ, zero, suc, ◌<◌, nat_eq, List, [], ◌∷◌, ◌++◌, length, All, if◌then◌else◌, Vec}
use Rattle.point_closure.specs.declared.lists.Change.{Change}
use Rattle.point_closure.specs.declared.lists.Change.TheVariants.{Put, Join}

-- the lists after one more change
abbrev pub changed : (ℕ → List ℕ) → Change → ℕ → List ℕ
changed lists (Put c x) r = if nat_eq r c then lists r ++ x ∷ [] else lists r
changed lists (Join k g) r = if nat_eq r k then lists r ++ lists g else lists r

unfoldable pub list_from : (ℕ → List ℕ) → List Change → ℕ → List ℕ
list_from lists [] r = lists r
list_from lists (c ∷ cs) r = list_from (changed lists c) cs r

abbrev pub empty : ℕ → List ℕ
empty r = []

-- a class's list: at first all are empty
abbrev pub list_of : List Change → ℕ → List ℕ
list_of cs r = list_from empty cs r

pub record Listed : Type 0 where
  pub count : ℕ
  pub changes : List Change

-- it changes the lists of different classes among so many
abbrev pub IsChangeOf : ℕ → Change → Type 0
IsChangeOf n (Put c x) = c < n
IsChangeOf n (Join k g) = (k < n) × (g < n) × (k ≢ g)

-- ---- as they are kept

abbrev pub items_at : {Z : Type 0} → List (Vec ℕ Z) → ℕ → List ℕ
items_at [] r = []
items_at (v ∷ vs) zero = v.items
items_at (v ∷ vs) (suc r) = items_at vs r

pub record AreLists {Z : Type 0} (vs : List (Vec ℕ Z)) (cs : List Change) : Type 0 where
  pub changes : All (IsChangeOf (length vs)) cs
  pub items : (r : ℕ) → items_at vs r ≡ list_of cs r
