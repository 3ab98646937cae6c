-- Spent units where a check has few atoms, under a limit or without one.
use Rattle.std.specs.Prelude.{◌≡◌, ℕ, ◌+◌, ◌<◌, ◌^◌, List, ◌∷◌, ◌++◌, length, Contains, ℤ}
use Rattle.fraction128.specs.declared.Line.{Line}
use Rattle.smt_meaning.specs.declared.clauses.Atom.{Atom}
use Rattle.smt_meaning.specs.declared.reports.Unit.{Unit as Spent}
use Rattle.smt_meaning.specs.declared.reports.Unit.TheVariants.{Pivot}
use Rattle.smt_meaning.specs.Term.{Tree}
use Rattle.smt_meaning.specs.Stack.{Frame}
use Rattle.smt_meaning.specs.CheckAtoms.{IsFirstAtom, IsCheckAtom}
use Rattle.smt_meaning.specs.Report.{most_units, AreAllSpent}
use Rattle.report_laws.specs.OneLeaf.{IsOverOneLeaf}

abbrev pub HasNoPivots : List Spent → Type 0
HasNoPivots us = (before after : List Spent) (l : Line) → us ≡ before ++ Pivot l ∷ after → ⊥

-- a learnt clause has not the literals of an earlier one, so where no unit is a pivot, of m atoms come at most m + 3^m units
abbrev pub FewUnitsAreNotSpent : Type 0
FewUnitsAreNotSpent =
    (ts : List Tree) (frames : List Frame) (limit : ℤ) (branches : List Line) (us : List Spent) (atoms : List Atom)
    → ((a : Atom) → IsCheckAtom ts frames branches a → Contains atoms a) → length atoms + 3 ^ length atoms < most_units limit → HasNoPivots us
    → AreAllSpent ts frames limit branches us → ⊥

-- over one leaf there is neither a pivot nor a branch
abbrev pub OneLeafIsNotSpent : Type 0
OneLeafIsNotSpent =
    (ts : List Tree) (frames : List Frame) (t : ℕ) → IsOverOneLeaf ts frames t
    → (limit : ℤ) (branches : List Line) (us : List Spent) (atoms : List Atom)
    → ((a : Atom) → IsFirstAtom ts frames a → Contains atoms a) → length atoms + 3 ^ length atoms < most_units limit
    → AreAllSpent ts frames limit branches us → ⊥
