-- What a theory is about, and what it was told.
use Rattle.std.specs.Prelude.{◌≡◌, ℕ, ◌++◌, Bool, true, List, [], map, slice_index_or, Contains, All, ◌⊎◌, ◌<◌, length, Option, Some, None}
use Rattle.literals.specs.Signed.{Signed, opposite}
use Rattle.fraction128.specs.declared.Summand.{Summand}
use Rattle.fraction128.specs.declared.Grid.{Grid}
use Rattle.smt_meaning.specs.declared.clauses.Atom.{Atom}
use Rattle.smt_meaning.specs.declared.clauses.Atom.TheVariants.{Truth, Same, AtMost}
use Rattle.smt_meaning.specs.declared.clauses.Literal.{Literal}
use Rattle.smt_meaning.specs.declared.values.Sort.TheVariants.{Int as Ints}
use Rattle.smt_meaning.specs.Term.{Tree, Interpretation, tree_at}
use Rattle.smt_meaning.specs.Signature.{tree_sort}
use Rattle.smt_meaning.specs.Stack.{Frame, signature_of}
use Rattle.smt_meaning.specs.Clause.{atom_true}

-- by what a numbered literal is read: the list of trees, the levels of the stack, and the atom of each number
pub record Reading : Type 0 where
  pub trees : List Tree
  pub frames : List Frame
  pub table : List Atom
  -- no atom is added
  pub closed : Bool

-- the variables of a theory's grid
pub record Variables : Type 0 where
  -- the sum of each
  pub sums : List (List Summand)
  -- whether each is basic; nothing where the theory has stopped for want of memory
  pub basic : Option (List Bool)
  -- the grid without its bounds; nothing where the theory has stopped for want of memory
  pub grid : Option Grid

-- where there is no grid
abbrev pub no_variables : Variables
no_variables = record { sums = []; basic = Some []; grid = Some (record { columns = []; rows = []; pending = None }) }

pub record TheoryState : Type 0 where
  pub reading : Reading
  -- the literals asserted, oldest first
  pub log : List Signed
  pub variables : Variables

-- the atom of this number
abbrev pub atom_at : List Atom → ℕ → Atom
atom_at table n = slice_index_or table n (Truth 0)

-- the truth of the terms at these places
abbrev pub truth_atoms : List ℕ → List Atom
truth_atoms places = map (λ (i : ℕ). Truth i) places

-- the atom is the truth of a term
abbrev pub IsTruth : Atom → Type 0
IsTruth a = (i : ℕ) × (a ≡ Truth i)

-- the term at this place is an Int
abbrev pub IsInt : List Tree → List Frame → ℕ → Type 0
IsInt ts frames i = tree_sort (signature_of frames) (tree_at ts i) ≡ Some Ints

-- if the atom is an equality, both its sides are Ints
abbrev pub ComparesInts : List Tree → List Frame → Atom → Type 0
ComparesInts ts frames (Truth i) = Unit {0}
ComparesInts ts frames (Same i j) = IsInt ts frames i × IsInt ts frames j
ComparesInts ts frames (AtMost sum k) = Unit {0}

-- the truth of each number's atom under an interpretation
abbrev pub truth : Reading → Interpretation → ℕ → Bool
truth r I n = atom_true r.trees I (atom_at r.table n)

-- the clause with its atoms written out
abbrev pub written : Reading → List Signed → List Literal
written r ls = map (λ (l : Signed). record { atom = atom_at r.table l.atom; positive = l.positive }) ls

-- atoms are only added, and none where the old one is closed
pub record IsGrown (old new : Reading) : Type 0 where
  pub more : List Atom
  pub is : new ≡ record { trees = old.trees; frames = old.frames; table = old.table ++ more; closed = new.closed }
  pub none : old.closed ≡ true → more ≡ []
  pub stays : old.closed ≡ true → new.closed ≡ true

-- each numbered atom is asserted, with one sign or the other
abbrev pub IsFull : Reading → List Signed → Type 0
IsFull r log = (l : Signed) → l.atom < length r.table → Contains log l ⊎ Contains log (opposite l)

-- no atom is asserted with both signs
abbrev pub IsConsistent : List Signed → Type 0
IsConsistent log = (l : Signed) → Contains log l → Contains log (opposite l) → ⊥

-- ---- clauses under the literals asserted

abbrev pub IsFalseIn : List Signed → Signed → Type 0
IsFalseIn log l = Contains log (opposite l)

-- each literal is false
abbrev pub AllFalseIn : List Signed → List Signed → Type 0
AllFalseIn log ls = All (IsFalseIn log) ls

abbrev pub IsOpenIn : List Signed → Signed → Type 0
IsOpenIn log l = (Contains log l → ⊥) × (Contains log (opposite l) → ⊥)

-- one literal is open, and the others are false
pub record HasOneOpen (log ls : List Signed) : Type 0 where
  pub literal : Signed
  pub is_open : IsOpenIn log literal
  pub stands : Contains ls literal
  pub others : All (λ m. (m ≡ literal) ⊎ IsFalseIn log m) ls

-- all its literals but at most one are false, and none is true
abbrev pub IsPressing : List Signed → List Signed → Type 0
IsPressing log ls = AllFalseIn log ls ⊎ HasOneOpen log ls

-- a literal of it is among those asserted
abbrev pub IsMadeTrue : List Signed → List Signed → Type 0
IsMadeTrue log ls = (l : Signed) × Contains ls l × Contains log l
