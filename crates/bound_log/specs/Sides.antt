-- The two sides of a branch, where the values meet all bounds told.
use Rattle.std.specs.Prelude.{◌≡◌, ◌⊎◌, ℕ, List, Contains, ℤ}
use Rattle.smt_meaning.specs.declared.clauses.Atom.{Atom}
use Rattle.literals.specs.Signed.{Signed}
use Rattle.search_port.specs.State.{atom_at}
use Rattle.sum_bounds.specs.declared.fractions.FractionalLeaf.{FractionalLeaf}
use Rattle.sum_bounds.specs.Bounds.{IsFirstIn}
use Rattle.bound_log.specs.Told.{State, IsState}
use Rattle.bound_log.specs.Atoms.{Knows}
use Rattle.bound_log.specs.Values.{MeetsAll}
use Rattle.int_branch.specs.Branch.{below, above}

-- one of the two atoms of a branch
abbrev pub IsSide : ℕ → ℤ → Atom → Type 0
IsSide term floor a = (a ≡ below term floor) ⊎ (a ≡ above term floor)

-- where the values meet all bounds told, and this is the first that isn't whole, no literal told is on a side of its branch
abbrev pub SidesAreOpen : FractionalLeaf → Type 0
SidesAreOpen f =
    (table : List Atom) (s : State) (l : Signed) → IsState s → Knows table s → MeetsAll s → IsFirstIn s.bounds.columns f → IsSide f.term f.floor (atom_at table l.atom)
    → Contains s.log l → ⊥
