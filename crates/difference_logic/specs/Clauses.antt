-- Clauses of differences that don't all hold.
use Rattle.std.specs.Prelude.{◌≡◌, ◌<◌, List, length, All, Contains}
use Rattle.literals.specs.Signed.{Signed}
use Rattle.smt_meaning.specs.declared.clauses.Atom.{Atom}
use Rattle.smt_meaning.specs.Declaration.{Declaration}
use Rattle.smt_meaning.specs.Term.{Tree}
use Rattle.search_port.specs.State.{TheoryState, IsOpenIn}
use Rattle.search_port.specs.Calls.{IsConflict}
use Rattle.search_port.specs.declared.budget.Lemma.{Lemma}
use Rattle.congruence.specs.Clauses.{IsTrueEverywhere, IsToldAtOneLevel}
use Rattle.congruence.specs.Implied.{IsPressingLemma}

-- whatever interprets the atoms of the table, one of these literals is true
abbrev pub IsTrueAnywhere : List Atom → List Signed → Type 0
IsTrueAnywhere table ls = (ds : List Declaration) (ts : List Tree) → IsTrueEverywhere ds ts table ls

-- a conflict of each state with these atoms that was told all these literals
abbrev pub IsBroken : List Atom → List Signed → Lemma → Type 0
IsBroken table ls c =
    (ds : List Declaration) (t : TheoryState) → t.reading.table ≡ table → IsToldAtOneLevel ds t → All (Contains t.log) ls → IsConflict t c

-- a clause of each state with these atoms that was told all these reasons, by which an open literal follows
abbrev pub IsImpliedBy : List Atom → Signed → List Signed → Lemma → Type 0
IsImpliedBy table l ls c =
    (ds : List Declaration) (t : TheoryState) → t.reading.table ≡ table → IsToldAtOneLevel ds t → l.atom < length t.reading.table → IsOpenIn t.log l → All (Contains t.log) ls
    → IsPressingLemma t c
