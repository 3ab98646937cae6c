-- What a log is under tables.
use Rattle.std.specs.Prelude.{◌≡◌, ℕ, ◌<◌, Bool, true, false, List, length, take, All, slice_index_or}
use Rattle.literals.specs.Signed.{Signed, literal_true}
use Rattle.smt_meaning.specs.declared.values.Value.{Value}
use Rattle.smt_meaning.specs.declared.values.Table.{Table}
use Rattle.smt_meaning.specs.declared.clauses.Atom.{Atom}
use Rattle.smt_meaning.specs.Term.{Tree, Interpretation}
use Rattle.smt_meaning.specs.Clause.{atom_true}
use Rattle.smt_meaning.specs.Interpretation.{AreTablesFor, meaning}
use Rattle.smt_meaning.specs.Stack.{signature_of, assertions_of}
use Rattle.search_port.specs.State.{TheoryState, atom_at}
use Rattle.search_port.specs.Calls.{IsModelOf}
use Rattle.model_eval.specs.Unfit.{IsCauseOfAny}
use Rattle.model_eval.specs.declared.EvalError.TheVariants.{Range as RangeOf}
use Rattle.exact_model.specs.Places.{marked_places, AreValues, AreAtMarks}
use Rattle.exact_model.specs.Atoms.{truth_by, HasMarkedPlaces}
use Rattle.exact_model.specs.declared.log.Verdict.{Verdict}
use Rattle.exact_model.specs.declared.log.Verdict.TheVariants.{AllTrue, False, Range}

abbrev pub literal_at : List Signed → ℕ → Signed
literal_at log k = slice_index_or log k (record { atom = 0; positive = true })

-- ---- under an interpretation

-- the truth of each number's atom
abbrev pub truth_in : List Tree → List Atom → Interpretation → ℕ → Bool
truth_in trees atoms I n = atom_true trees I (atom_at atoms n)

-- the literals of a log, read by this table
abbrev pub AreTrueIn : List Tree → List Atom → Interpretation → List Signed → Type 0
AreTrueIn trees atoms I log = All (λ l. literal_true (truth_in trees atoms I) l ≡ true) log

-- literals on atoms with marked places are true by the values of terms exactly where they are under the interpretation that gives the values
abbrev pub TruthIsByValues : Type 0
TruthIsByValues =
    (trees : List Tree) (marks : List Bool) (I : Interpretation) (values : List Value) (atoms : List Atom) (l : Signed) → AreValues trees marks I values → All (HasMarkedPlaces marks) atoms → l.atom < length atoms
    → literal_true (truth_by values atoms) l ≡ literal_true (truth_in trees atoms I) l

-- a state with these trees, this table and this log
pub record IsAbout (trees : List Tree) (atoms : List Atom) (log : List Signed) (t : TheoryState) : Type 0 where
  pub trees_are : t.reading.trees ≡ trees
  pub table_is : t.reading.table ≡ atoms
  pub log_is : t.log ≡ log

-- tables for the declared functions are a model of each state with this log whose assertions are marked
abbrev pub AreModels : List Tree → List Bool → List Atom → List Signed → List Table → Type 0
AreModels trees marks atoms log tables =
    (t : TheoryState) → IsAbout trees atoms log t → AreTablesFor (signature_of t.reading.frames) tables → AreAtMarks trees marks (assertions_of t.reading.frames) → IsModelOf t tables

-- the first literal that isn't true is false
pub record IsFirstFalse (truth : ℕ → Bool) (log : List Signed) (k : ℕ) : Type 0 where
  pub within : k < length log
  pub is_false : literal_true truth (literal_at log k) ≡ false
  pub before : All (λ l. literal_true truth l ≡ true) (take k log)

abbrev pub IsVerdict : List Tree → List Bool → List Atom → List Signed → List Table → Verdict → Type 0
IsVerdict trees marks atoms log tables AllTrue = AreModels trees marks atoms log tables
IsVerdict trees marks atoms log tables (False k) = IsFirstFalse (truth_in trees atoms (meaning tables)) log k
IsVerdict trees marks atoms log tables (Range i) = IsCauseOfAny (meaning tables) trees (marked_places marks) (RangeOf i)

-- ---- by the values of terms; no public contract speaks of it

abbrev pub IsVerdictBy : List Value → List Atom → List Signed → Verdict → Type 0
IsVerdictBy values atoms log AllTrue = All (λ l. literal_true (truth_by values atoms) l ≡ true) log
IsVerdictBy values atoms log (False k) = IsFirstFalse (truth_by values atoms) log k
IsVerdictBy values atoms log (Range i) = ⊥
