-- A clause that is learnt twice, which no report shows.
use Rattle.std.specs.Prelude.{true, pos, ℤ, List, [], ◌∷◌, ◌++◌, Contains}
use Rattle.fraction128.specs.declared.Line.{Line}
use Rattle.smt_meaning.specs.declared.clauses.Atom.TheVariants.{Same}
use Rattle.smt_meaning.specs.declared.clauses.Literal.{Literal}
use Rattle.smt_meaning.specs.declared.clauses.Clause.{Clause}
use Rattle.smt_meaning.specs.declared.reports.Unit.{Unit as Spent}
use Rattle.smt_meaning.specs.declared.reports.Unit.TheVariants.{Learnt}
use Rattle.smt_meaning.specs.declared.reports.Cause.TheVariants.{Units}
use Rattle.smt_meaning.specs.Term.{Tree}
use Rattle.smt_meaning.specs.Stack.{Frame}
use Rattle.smt_meaning.specs.Report.{Shows}
use Rattle.report_laws.specs.BoxOfOne.{trees, frames}

-- in whatever order
abbrev pub HaveSameLiterals : Clause → Clause → Type 0
HaveSameLiterals c d = ((l : Literal) → Contains c.literals l → Contains d.literals l) × ((l : Literal) → Contains d.literals l → Contains c.literals l)

-- on every stack, whatever is between
abbrev pub NothingIsLearntTwice : Type 0
NothingIsLearntTwice =
    (ts : List Tree) (frames : List Frame) (limit : ℤ) (branches : List Line) (before between after : List Spent) (c d : Clause) → HaveSameLiterals c d
    → Shows ts frames limit branches (Units (before ++ Learnt c ∷ (between ++ Learnt d ∷ after))) → ⊥

-- ---- on the stack of (assert (<= 0 x 1))

-- that 0 is 0, which is no clause of a part
abbrev pub reflexive : Clause
reflexive = record { literals = record { atom = Same 0 0; positive = true } ∷ []; level = 0 }

-- under a limit of one unit it may be that unit
abbrev pub OnceIsLawful : Type 0
OnceIsLawful = Shows trees frames (pos 1) [] (Units (Learnt reflexive ∷ []))

-- under one of two it isn't both
abbrev pub TwiceIsRefused : Type 0
TwiceIsRefused = (branches : List Line) → Shows trees frames (pos 2) branches (Units (Learnt reflexive ∷ Learnt reflexive ∷ [])) → ⊥
