-- Kept clauses without literals, which no literal watches.
use Rattle.std.specs.Prelude.{◌≡◌, ℕ, true, false, Bool, ◌&&◌, List, [], ◌∷◌, map, Option, Some, None}
use Rattle.literals.specs.Signed.{Signed}
use Rattle.clause_store.specs.Entries.{Entry, entry_at}

pub record IsEmptyAt (es : List Entry) (i : ℕ) : Type 0 where
  pub live : (entry_at es i).live ≡ true
  pub none : (entry_at es i).literals ≡ []

-- the place of such a clause, where there is one
abbrev pub NamesEmpty : List Entry → Option ℕ → Type 0
NamesEmpty es (Some i) = IsEmptyAt es i
NamesEmpty es None = (i : ℕ) → IsEmptyAt es i → ⊥

abbrev pub has_literals : List Signed → Bool
has_literals [] = false
has_literals (l ∷ ls) = true

-- the entry as the watches see it: live only where it has literals
abbrev pub filled : Entry → Entry
filled e = record e { live = e.live && has_literals e.literals }

abbrev pub all_filled : List Entry → List Entry
all_filled es = map filled es
