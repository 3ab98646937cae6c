-- What becomes of tables under which terms have exact values: a model, or one in which a number leaves the range.
use Rattle.std.specs.Prelude.{◌≡◌, ℕ, ◌<◌, Bool, true, List, length, All, Contains, int_le}
use Rattle.literals.specs.Signed.{Signed, literal_true}
use Rattle.smt_meaning.specs.declared.values.Value.{Value}
use Rattle.smt_meaning.specs.declared.values.Sort.{Sort}
use Rattle.smt_meaning.specs.declared.values.Table.{Table}
use Rattle.smt_meaning.specs.declared.clauses.Atom.{Atom}
use Rattle.smt_meaning.specs.declared.clauses.Atom.TheVariants.{Truth, AtMost, Same}
use Rattle.smt_meaning.specs.Term.{Tree, tree_at, value, truth_of, same_value}
use Rattle.smt_meaning.specs.Interpretation.{AreTablesFor, meaning}
use Rattle.smt_meaning.specs.Stack.{signature_of, Holds}
use Rattle.smt_meaning.specs.StackCommand.{Stack}
use Rattle.smt_meaning.specs.Ranges.{LeavesInModel}
use Rattle.smt_laws.specs.Flat.{flat}
use Rattle.search_port.specs.State.{atom_at}
use Rattle.scope_stack.specs.Shown.{IsLawful}
use Rattle.model_eval.specs.Walk.{is_marked}
use Rattle.model_build.specs.declared.given.Given.{Given}
use Rattle.model_build.specs.Building.{AreValues, GiveValues}
use Rattle.bound_log.specs.Told.{State, column_sums}
use Rattle.bound_log.specs.Atoms.{Knows}
use Rattle.bound_log.specs.Values.{sum_at}
use Rattle.exact_model.specs.Exact.{exact, exact_at, number_at, AreGivenExactly}
use Rattle.exact_model.specs.Places.{AllMarkedFit}
use Rattle.exact_model.specs.Atoms.{HasMarkedPlaces}
use Rattle.exact_model.specs.Verdict.{AreModels}
use Rattle.exact_model.specs.Leaves.{IsOverLeaves}
use Rattle.exact_model.specs.declared.ends.Exactly.{Exactly}
use Rattle.exact_model.specs.declared.ends.Exactly.TheVariants.{Past, Within}

-- the marked terms have their exact values under the tables
abbrev pub GiveExactValues : List Tree → List Bool → List Value → List Table → Type 0
GiveExactValues ts marks vs tables = (p : ℕ) → is_marked marks p ≡ true → value (meaning tables) (tree_at ts p) ≡ exact_at ts vs p

-- tables that give places what they are given by exact values give exact values
abbrev pub TablesGiveExactValues : Type 0
TablesGiveExactValues =
    (ts : List Tree) (marks : List Bool) (sorts : List Sort) (vs : List Value) (gs : List Given) (tables : List Table) → length marks ≡ length ts → AreGivenExactly ts marks sorts vs gs
    → AreValues ts gs (exact ts vs) → GiveValues ts gs tables → GiveExactValues ts marks vs tables

-- ---- ends

-- tables under which each marked term has its exact value, with every number on the way in the range, and each assertion is true
pub record AreWithin (s : Stack) (marks : List Bool) (vs : List Value) (tables : List Table) : Type 0 where
  pub tables_for : AreTablesFor (signature_of s.frames) tables
  pub values : GiveExactValues s.trees marks vs tables
  pub fit : AllMarkedFit s.trees marks (meaning tables)
  pub holds : Holds (meaning tables) s.frames

abbrev pub IsEnd : Stack → List Bool → State → List Value → Exactly → Type 0
IsEnd s marks b vs (Past m) = (table : List Atom) → Knows table b → LeavesInModel s.trees (flat s.frames) (column_sums b) (Contains table) m.tables m.place m.grid
IsEnd s marks b vs (Within tables) = AreWithin s marks vs tables

-- ---- models

-- the truth of an atom by exact values: those of the terms of a bound, which are leaves, are listed
abbrev pub atom_exactly : List Tree → List Value → Atom → Bool
atom_exactly ts vs (Truth p) = truth_of (exact_at ts vs p)
atom_exactly ts vs (AtMost sum k) = int_le (sum_at (number_at vs) sum) k
atom_exactly ts vs (Same p q) = same_value (exact_at ts vs p) (exact_at ts vs q)

-- the truth of each number's atom
abbrev pub truth_exactly : List Tree → List Value → List Atom → ℕ → Bool
truth_exactly ts vs atoms n = atom_exactly ts vs (atom_at atoms n)

-- such tables are a model of a log whose literals are true by exact values
abbrev pub TablesWithinAreModels : Type 0
TablesWithinAreModels =
    (s : Stack) (marks : List Bool) (vs : List Value) (tables : List Table) (atoms : List Atom) (log : List Signed) → IsLawful s → length marks ≡ length s.trees → AreWithin s marks vs tables
    → All (HasMarkedPlaces marks) atoms → All (IsOverLeaves s) atoms → All (λ (l : Signed). l.atom < length atoms) log → All (λ l. literal_true (truth_exactly s.trees vs atoms) l ≡ true) log
    → AreModels s.trees marks atoms log tables
