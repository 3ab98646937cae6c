-- What stands whatever is decided, in a log.
use Rattle.std.specs.Prelude.{◌≡◌, ℕ, ◌<◌, true, List, length, Contains}
use Rattle.literals.specs.Signed.{Signed}
use Rattle.smt_meaning.specs.declared.clauses.Atom.{Atom}
use Rattle.smt_meaning.specs.declared.clauses.Atom.TheVariants.{Truth, AtMost, Same}
use Rattle.smt_meaning.specs.CheckAtoms.{IsStanding}
use Rattle.search_port.specs.State.{Reading, atom_at}

-- the atom's number is asserted to be true
pub record IsAssertedTrue (r : Reading) (log : List Signed) (a : Atom) : Type 0 where
  pub number : ℕ
  pub known : number < length r.table
  pub atom : atom_at r.table number ≡ a
  pub told : Contains log (record { atom = number; positive = true })

-- so is a bound; other atoms say nothing of values (the equality of two Bools, say, has no number)
abbrev pub IsToldTrue : Reading → List Signed → Atom → Type 0
IsToldTrue r log (AtMost sum k) = IsAssertedTrue r log (AtMost sum k)
IsToldTrue r log (Truth i) = Unit {0}
IsToldTrue r log (Same i j) = Unit {0}

-- of each list that stands an atom is
abbrev pub StandingHolds : Reading → List Signed → Type 0
StandingHolds r log = (standing : List Atom) → IsStanding r.trees r.frames standing → (a : Atom) × Contains standing a × IsToldTrue r log a
