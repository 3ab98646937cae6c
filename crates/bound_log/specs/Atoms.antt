-- A table of atoms, and what is known of them by number.
use Rattle.std.specs.Prelude.{◌≡◌, ℕ, ◌<◌, List, [], ◌∷◌, ◌++◌, length, ℤ}
use Rattle.smt_meaning.specs.declared.clauses.Summand.{Summand}
use Rattle.smt_meaning.specs.declared.clauses.Atom.{Atom}
use Rattle.smt_meaning.specs.declared.clauses.Atom.TheVariants.{AtMost}
use Rattle.search_port.specs.State.{atom_at}
use Rattle.sum_bounds.specs.declared.writing.SumVariable.{SumVariable}
use Rattle.sum_bounds.specs.Bounds as Bounds
use Rattle.sum_bounds.specs.Bounds.{StandsFor}
use Rattle.sum_bounds.specs.Clauses.{plain}
use Rattle.bound_log.specs.declared.said.Said.{Said}
use Rattle.bound_log.specs.declared.said.Said.TheVariants.{Nothing, Bound}
use Rattle.bound_log.specs.Told.{State, said_at}

-- the atom bounds no sum but the empty one
abbrev pub SaysNothing : Atom → Type 0
SaysNothing a = (sum : List Summand) (k : ℤ) → a ≡ AtMost sum k → sum ≡ []

-- the atom is that a sum is at most k, and the variable is that of the sum
pub record SaysBound (b : Bounds.State) (a : Atom) (v : SumVariable) (k : ℤ) : Type 0 where
  pub sum : List Summand
  pub atom : a ≡ AtMost sum k
  pub variable : StandsFor b (plain sum) v

-- what is known of an atom is what it says
abbrev pub Says : Bounds.State → Atom → Said → Type 0
Says b a Nothing = SaysNothing a
Says b a (Bound v k) = SaysBound b a v k

-- what is known by number is what the atoms of the table say
pub record Knows (table : List Atom) (s : State) : Type 0 where
  pub as_many : length s.said ≡ length table
  pub each : (n : ℕ) → n < length table → Says s.bounds (atom_at table n) (said_at s.said n)

-- whatever table the one state knows, the other knows it
abbrev pub KnowsTheSame : State → State → Type 0
KnowsTheSame old new = (table : List Atom) → Knows table old → Knows table new

-- and the other knows it with an atom more
abbrev pub KnowsOneMore : State → Atom → State → Type 0
KnowsOneMore old a new = (table : List Atom) → Knows table old → Knows (table ++ a ∷ []) new
