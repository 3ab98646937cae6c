-- Atoms by number.
use Rattle.std.specs.Prelude.{◌≡◌, ◌≢◌, ℕ, ◌<◌, List, length, AllPairs, slice_index_or}
use Rattle.smt_meaning.specs.declared.clauses.Atom.{Atom}

-- the atom stands at this place
abbrev pub IsAt : List Atom → ℕ → Atom → Type 0
IsAt atoms k a = (k < length atoms) × ((d : Atom) → slice_index_or atoms k d ≡ a)

-- no atom has two numbers
abbrev pub AreApart : List Atom → Type 0
AreApart atoms = AllPairs (λ (a b : Atom). a ≢ b) atoms
