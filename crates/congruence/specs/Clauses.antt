-- Clauses made of the reasons of steps.
use Rattle.std.specs.Prelude.{◌≡◌, ℕ, ◌<◌, true, false, List, length, All, Contains}
use Rattle.literals.specs.Signed.{Signed, some_true}
use Rattle.smt_meaning.specs.declared.clauses.Atom.{Atom}
use Rattle.smt_meaning.specs.Declaration.{Declaration}
use Rattle.smt_meaning.specs.Term.{Tree, Interpretation, tree_at, value}
use Rattle.smt_meaning.specs.Interpretation.{Interprets}
use Rattle.smt_meaning.specs.Stack.{signature_of, up_to}
use Rattle.search_port.specs.State.{TheoryState, AllFalseIn, IsConsistent}
use Rattle.search_port.specs.Valid.{IsOf}
use Rattle.congruence.specs.Justified.{truth_by}

-- every interpretation of the signature makes the clause true
abbrev pub IsTrueEverywhere : List Declaration → List Tree → List Atom → List Signed → Type 0
IsTrueEverywhere ds ts table ls = (I : Interpretation) → Interprets ds I → some_true (truth_by ts table I) ls ≡ true

-- and the log makes each of its literals false
pub record IsFalseClause (ds : List Declaration) (ts : List Tree) (table : List Atom) (log ls : List Signed) : Type 0 where
  pub is_false : AllFalseIn log ls
  pub valid : IsTrueEverywhere ds ts table ls

-- the levels read as one declare these, the atoms are over them, and the log tells of numbered atoms, of none both signs
pub record IsToldAtOneLevel (ds : List Declaration) (t : TheoryState) : Type 0 where
  pub one_level : (l : ℕ) → up_to l t.reading.frames ≡ t.reading.frames
  pub declares : signature_of t.reading.frames ≡ ds
  pub atoms : All (IsOf t.reading.trees t.reading.frames) t.reading.table
  pub within : All (λ (l : Signed). l.atom < length t.reading.table) t.log
  pub consistent : IsConsistent t.log

-- a clause with more literals, each of them false where the reasons are, which is false nowhere but where two terms have one value
pub record AddsReasons (ds : List Declaration) (ts : List Tree) (table : List Atom) (reasons old new : List Signed) (i j : ℕ) : Type 0 where
  pub stays : (l : Signed) → Contains old l → Contains new l
  pub is_false : (log : List Signed) → All (Contains log) reasons → AllFalseIn log old → AllFalseIn log new
  pub equal : (I : Interpretation) → Interprets ds I → some_true (truth_by ts table I) new ≡ false → value I (tree_at ts i) ≡ value I (tree_at ts j)
