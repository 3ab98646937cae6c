-- Clauses over numbered atoms that are true under every interpretation, and those that follow from the levels of a stack.
use Rattle.std.specs.Prelude.{◌≡◌, ℕ, ◌<◌, ◌≤◌, true, List, length, All, Contains, ◌↔◌}
use Rattle.literals.specs.Signed.{Signed, opposite, some_true}
use Rattle.smt_meaning.specs.declared.clauses.Atom.{Atom}
use Rattle.smt_meaning.specs.Term.{Tree, Interpretation}
use Rattle.smt_meaning.specs.Interpretation.{Interprets}
use Rattle.smt_meaning.specs.Stack.{Frame, Holds, signature_of, up_to}
use Rattle.smt_meaning.specs.Clause.{atom_places, symbols_at}
use Rattle.smt_meaning.specs.Follows.{declared_ids, Follows}
use Rattle.search_port.specs.State.{Reading, atom_at, truth, written}

-- over numbered atoms, none of which has both signs in it
pub record IsOver (atoms : ℕ) (ls : List Signed) : Type 0 where
  pub within : (l : Signed) → Contains ls l → l.atom < atoms
  pub no_pair : (l : Signed) → Contains ls l → Contains ls (opposite l) → ⊥

-- the atom's symbols are declared in these frames, and its places are among the trees
pub record IsOf (ts : List Tree) (frames : List Frame) (a : Atom) : Type 0 where
  pub declared : All (Contains (declared_ids frames)) (symbols_at ts (atom_places a))
  pub within : All (λ i. i < length ts) (atom_places a)

-- the symbols of its atoms are declared at levels up to this one
abbrev pub IsAtLevel : Reading → ℕ → List Signed → Type 0
IsAtLevel r level ls = All (λ (l : Signed). IsOf r.trees (up_to level r.frames) (atom_at r.table l.atom)) ls

-- every interpretation of the symbols of these levels makes it true
abbrev pub IsValid : Reading → ℕ → List Signed → Type 0
IsValid r level ls =
    (I : Interpretation) → Interprets (signature_of (up_to level r.frames)) I → some_true (truth r I) ls ≡ true

-- a clause that the theory gives
pub record IsTheoryClause (r : Reading) (level : ℕ) (ls : List Signed) : Type 0 where
  pub over : IsOver (length r.table) ls
  pub valid : IsValid r level ls
  pub at_level : IsAtLevel r level ls
  -- no lower level has its symbols
  pub lowest : (m : ℕ) → IsAtLevel r m ls → level ≤ m

-- a clause follows from the levels up to this one
pub record FollowsAt (r : Reading) (level : ℕ) (ls : List Signed) : Type 0 where
  -- whatever makes the assertions of these levels true makes it true
  pub true_wherever : (I : Interpretation) → Interprets (signature_of (up_to level r.frames)) I → Holds I (up_to level r.frames) → some_true (truth r I) ls ≡ true
  -- its symbols are declared there
  pub at_level : IsAtLevel r level ls

-- a clause over numbers follows exactly where the clause with its atoms written out does
abbrev pub FollowsAsWritten : Type 0
FollowsAsWritten =
    (r : Reading) (level : ℕ) (ls : List Signed) → FollowsAt r level ls ↔ Follows r.trees r.frames level (record { literals = written r ls; level = level })
