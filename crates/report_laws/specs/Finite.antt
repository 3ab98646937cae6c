-- How many units a check with few atoms has at most, pivots among them.
use Rattle.std.specs.Prelude.{ℕ, ◌+◌, ◌*◌, ◌≤◌, ◌^◌, ℤ, List, length, Contains}
use Rattle.fraction128.specs.declared.Line.{Line}
use Rattle.smt_meaning.specs.declared.clauses.Atom.{Atom}
use Rattle.smt_meaning.specs.declared.reports.Unit.{Unit as Spent}
use Rattle.smt_meaning.specs.Term.{Tree}
use Rattle.smt_meaning.specs.Stack.{Frame}
use Rattle.smt_meaning.specs.CheckAtoms.{IsLeaf, IsCheckAtom}
use Rattle.smt_meaning.specs.Report.{AreAllSpent}

-- of n variables and m atoms, pivots with no other unit between: fewer than 3^n while the bounds stay, and each variable comes once and has each of its bounds tightened at most 2m times
abbrev pub most_neighbours : ℕ → ℕ → ℕ
most_neighbours n m = (n * (4 * m + 1) + 1) * 3 ^ n

-- the units that aren't pivots
abbrev pub most_others : ℕ → ℕ
most_others m = m + 3 ^ m

-- and all of them, with pivots before each other unit and after the last
abbrev pub most_of_all : ℕ → ℕ → ℕ
most_of_all n m = most_neighbours n m + most_others m * (most_neighbours n m + 1)

-- a variable is one of a leaf, or of the sum of an atom
abbrev pub UnitsAreFinite : Type 0
UnitsAreFinite =
    (ts : List Tree) (frames : List Frame) (limit : ℤ) (branches : List Line) (us : List Spent) (atoms : List Atom) (leaves : List ℕ)
    → ((a : Atom) → IsCheckAtom ts frames branches a → Contains atoms a) → ((t : ℕ) → IsLeaf ts frames t → Contains leaves t)
    → AreAllSpent ts frames limit branches us → length us ≤ most_of_all (length leaves + length atoms) (length atoms)
