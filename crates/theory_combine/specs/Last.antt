-- A last check, and the bounds of the empty sum in its log.
use Rattle.std.specs.Prelude.{◌≡◌, ℕ, true, false, List, [], ℤ, pos, ◌≤ℤ◌, int_le, Contains}
use Rattle.literals.specs.Signed.{Signed}
use Rattle.smt_meaning.specs.declared.clauses.Atom.{Atom}
use Rattle.smt_meaning.specs.declared.clauses.Atom.TheVariants.{AtMost}
use Rattle.atom_form.specs.AtomTableNumbers.{IsAt}
use Rattle.search_port.specs.State.{TheoryState, IsFull, atom_at}
use Rattle.first_clauses.specs.Holding.{IsAgreed}

-- each numbered atom is told, of each list that stands an atom is told to be true, and each part is decided
pub record IsLast (t : TheoryState) : Type 0 where
  pub full : IsFull t.reading t.log
  pub agreed : IsAgreed t.reading t.log

-- a bound of the empty sum that the literal tells to be true is true
abbrev pub HoldsWhereEmpty : List Atom → Signed → Type 0
HoldsWhereEmpty table l = (k : ℤ) → l.positive ≡ true → atom_at table l.atom ≡ AtMost [] k → pos 0 ≤ℤ k

-- the atom of this number is that the empty sum is at most k, which isn't so
pub record IsUntrueAt (table : List Atom) (n : ℕ) (k : ℤ) : Type 0 where
  pub at : IsAt table n (AtMost [] k)
  pub below : int_le (pos 0) k ≡ false

-- the log tells it to be true
pub record IsUntrueIn (table : List Atom) (log : List Signed) (n : ℕ) (k : ℤ) : Type 0 where
  pub told : Contains log (record { atom = n; positive = true })
  pub untrue : IsUntrueAt table n k
