-- What a theory shows at the end of a search.
use Rattle.std.specs.Prelude.{◌≡◌, ℕ, ◌<◌, length, All, IfSome}
use Rattle.smt_meaning.specs.CheckAtoms.{AreBranches, AreCheckSums, IsCheckAtom}
use Rattle.smt_meaning.specs.Ranges.{LeavesRange}
use Rattle.search_port.specs.State.{Reading, TheoryState, atom_at}
use Rattle.search_port.specs.declared.shown.Showing.{Showing}

-- no number has the atom of another
abbrev pub HaveOwnNumbers : Reading → Type 0
HaveOwnNumbers r = (m n : ℕ) → m < length r.table → n < length r.table → atom_at r.table m ≡ atom_at r.table n → m ≡ n

-- its variables are of sums of the check and its branches over them, its atoms are different atoms of the check with these branches, and what it saw leave the range does
pub record IsShowing (t : TheoryState) (s : Showing) : Type 0 where
  pub sums : AreCheckSums t.reading.trees t.reading.frames t.variables.sums
  pub branches : AreBranches t.reading.trees t.reading.frames t.variables.sums s.branches
  pub atoms : All (IsCheckAtom t.reading.trees t.reading.frames s.branches) t.reading.table
  pub different : HaveOwnNumbers t.reading
  pub seen : IfSome s.seen (LeavesRange t.reading.trees t.reading.frames t.variables.sums (IsCheckAtom t.reading.trees t.reading.frames s.branches))
