-- What a worker takes of the entries of a race.
use Rattle.std.specs.Prelude.{◌≡◌, ◌≢◌, ℕ, ◌≤◌, ◌^◌, true, false, List, map, length, All, Contains}
use Rattle.literals.specs.Signed.{Signed, opposite}
use Rattle.smt_meaning.specs.declared.clauses.Atom.{Atom}
use Rattle.smt_meaning.specs.declared.clauses.Literal.{Literal}
use Rattle.race_model.specs.declared.event.Entry.{Entry}
use Rattle.race_model.specs.Shelves.{ShelfState}
use Rattle.race_cell.specs.declared.answer.Batch.{Batch as BatchValue}
use Rattle.race_cell.specs.declared.answer.Batch.TheVariants.{Batch, Busy, Memory}
use Rattle.race_cell.specs.declared.view.Claim.{Claim}
use Rattle.race_cell.specs.Calls.{BatchTells}
use Rattle.search_port.specs.declared.budget.Lemma.{Lemma}
use Rattle.first_clauses.specs.PartClausesFirst.{written_literal}

-- an atom stands in it with both signs
abbrev pub HasPair : List Signed → Type 0
HasPair ls = (l : Signed) × Contains ls l × Contains ls (opposite l)

-- each atom of the clause is numbered, and none stands in it with both signs
pub record MayTake (table : List Atom) (ls : List Literal) : Type 0 where
  pub numbered : (l : Literal) → Contains ls l → Contains table l.atom
  pub no_pair : (a : Atom) → Contains ls (record { atom = a; positive = true }) → Contains ls (record { atom = a; positive = false }) → ⊥

-- the clause with its atoms written out is this one
abbrev pub SaysSame : List Atom → List Literal → Lemma → Type 0
SaysSame table ls m = map (written_literal table) m.literals ≡ ls

-- the clause of an entry of another worker is among these, if it may be taken and the atoms have so few numbers that literals of them can be kept
abbrev pub IsTaken : List Atom → ℕ → List Lemma → Entry → Type 0
IsTaken table worker ms e = length table ≤ 2 ^ 31 → e.worker ≢ worker → MayTake table e.clause.literals → (m : Lemma) × Contains ms m × SaysSame table e.clause.literals m

-- so of each of these entries
abbrev pub AreTaken : List Atom → ℕ → List Entry → List Lemma → Type 0
AreTaken table worker entries ms = All (IsTaken table worker ms) entries

-- so of a batch; where the try gave none, the clauses are those that there were
abbrev pub IsBatchTaken : List Atom → ℕ → BatchValue → List Lemma → List Lemma → Type 0
IsBatchTaken table worker (Batch v) ms ns = AreTaken table worker v.items ns
IsBatchTaken table worker Busy ms ns = ns ≡ ms
IsBatchTaken table worker Memory ms ns = ns ≡ ms

-- one try to take the entries from the worker's mark on, with the clauses before and after it
abbrev pub TakesBatch : List Atom → ShelfState → Claim → List Lemma → Claim → List Lemma → Type 0
TakesBatch table b c ms d ns = (batch : BatchValue) × BatchTells b c batch d × IsBatchTaken table c.worker batch ms ns
