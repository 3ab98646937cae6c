-- From which depth on a literal is on the trail, and clauses of one literal that wait.
use Rattle.std.specs.Prelude.{◌≡◌, ℕ, ◌<◌, ◌≤◌, true, List, All, Contains, length}
use Rattle.literals.specs.Signed.{Signed}
use Rattle.clause_store.specs.Trail.{Assigns, up_to}
use Rattle.clause_store.specs.declared.trail.Step.{Step}
use Rattle.clause_store.specs.Entries.{Entry, entry_at}
use Rattle.clause_store.specs.Rested.{Waits}
use Rattle.clause_store.specs.Looks.{AreApart}
use Rattle.clause_store.specs.Room.{rows_of}
use Rattle.clause_store.specs.declared.waits.Wait.{Wait}

-- the literal is on the trail from this depth on
pub record IsFrom (steps : List Step) (l : Signed) (depth : ℕ) : Type 0 where
  pub before : (d : ℕ) → d < depth → Assigns (up_to d steps) l → ⊥
  pub after : (d : ℕ) → depth ≤ d → Assigns (up_to d steps) l

-- the steps of lower depths are all before this place
abbrev pub AreLast : List Step → ℕ → ℕ → Type 0
AreLast steps depth start = (d : ℕ) → d < depth → length (up_to d steps) ≤ start

-- a clause whose two watched literals are one
pub record IsSingle (es : List Entry) (w : Wait) : Type 0 where
  pub live : (entry_at es w.row).live ≡ true
  pub single : (entry_at es w.row).first ≡ (entry_at es w.row).second
  pub literal : w.literal ≡ (entry_at es w.row).first

-- of the clauses up to a place, exactly those of one literal wait
pub record AreSingles (es : List Entry) (i : ℕ) (ws : List Wait) : Type 0 where
  pub only : (w : Wait) → Contains ws w → IsSingle es w
  pub all : (k : ℕ) → k < i → (entry_at es k).live ≡ true → (entry_at es k).first ≡ (entry_at es k).second → Waits ws k 0

-- so, each once
pub record HasSingles (es : List Entry) (i : ℕ) (ws : List Wait) : Type 0 where
  pub singles : AreSingles es i ws
  pub below : All (λ (w : Wait). w.row < i) ws
  pub apart : AreApart (rows_of ws)
