-- What a log of literals on the atoms of a stack is read by.
use Rattle.std.specs.Prelude.{◌≡◌, ◌+◌, ◌<◌, ◌^◌, true, false, List, length, All}
use Rattle.literals.specs.Signed.{Signed}
use Rattle.smt_meaning.specs.declared.clauses.Atom.{Atom}
use Rattle.smt_meaning.specs.declared.clauses.Atom.TheVariants.{Truth, AtMost, Same}
use Rattle.smt_meaning.specs.Stack.{signature_of}
use Rattle.smt_meaning.specs.StackCommand.{Stack}
use Rattle.search_port.specs.State.{TheoryState, no_variables}
use Rattle.search_port.specs.Valid.{IsOf}
use Rattle.smt_laws.specs.Flat.{flat}
use Rattle.check_atoms.specs.Atoms.{is_bool_at}

-- the levels of a stack are read as one, and atoms may be added
abbrev pub state_of : Stack → List Atom → List Signed → TheoryState
state_of s table log = record { reading = record { trees = s.trees; frames = flat s.frames; table = table; closed = false }; log = log; variables = no_variables }

-- the truth of a Bool, or the equality of two terms of the stack; of bounds it asks nothing
abbrev pub IsOfTerms : Stack → Atom → Type 0
IsOfTerms s (Truth t) = (t < length s.trees) × (is_bool_at (signature_of s.frames) s.trees t ≡ true)
IsOfTerms s (Same i j) = (i < length s.trees) × (j < length s.trees)
IsOfTerms s (AtMost sum k) = Unit {0}

-- the atoms are of terms of a stack, over what it declares
pub record IsSetting (s : Stack) (table : List Atom) : Type 0 where
  pub few : length s.trees + 2 < 2 ^ 32
  pub of_terms : All (IsOfTerms s) table
  pub declared : All (IsOf s.trees (flat s.frames)) table
