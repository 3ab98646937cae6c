-- What clauses force, with other names for atoms, and in turn.
use Rattle.std.specs.Prelude.{◌≡◌, ℕ, not, List, [], map, Contains}
use Rattle.literals.specs.Signed.{Signed, opposite}
use Rattle.smt_meaning.specs.declared.clauses.Atom.{Atom}
use Rattle.smt_meaning.specs.declared.clauses.Literal.{Literal}
use Rattle.smt_meaning.specs.Forced.{Forces}

-- ---- with numbers in place of atoms

abbrev pub negation : Literal → Literal
negation l = record { atom = l.atom; positive = not l.positive }

-- the literal on the number that its atom gets
abbrev pub numbered : (Atom → ℕ) → Literal → Signed
numbered number l = record { atom = number l.atom; positive = l.positive }

-- what clauses force, they force with numbers in place of atoms
abbrev pub ForcesByNumbers : Type 0
ForcesByNumbers =
    (number : Atom → ℕ) (cs : List (List Literal)) (ls : List Literal) → Forces negation cs ls
    → Forces opposite (map (map (numbered number)) cs) (map (numbered number) ls)

-- ---- in turn

-- a clause that these clauses force, and that isn't empty
pub record IsForcedBy (known : List (List Signed)) (ls : List Signed) : Type 0 where
  pub forced : Forces opposite known ls
  pub some : ls ≡ [] → ⊥

-- no literal stands in it with both signs
abbrev pub HasNoPair : List Signed → Type 0
HasNoPair ls = (l : Signed) → Contains ls l → Contains ls (opposite l) → ⊥

-- what clauses force that are forced in turn is forced
abbrev pub ForcesInTurn : Type 0
ForcesInTurn =
    (known cs : List (List Signed)) (ls : List Signed) → ((c : List Signed) → Contains cs c → IsForcedBy known c) → HasNoPair ls
    → Forces opposite cs ls → Forces opposite known ls
