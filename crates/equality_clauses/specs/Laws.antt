-- What holds of these clauses.
use Rattle.std.specs.Prelude.{◌≡◌, ◌≢◌, ℕ, Bool, true, false, List, [], ◌∷◌, ◌++◌, map, All, Contains, IsTrue}
use Rattle.literals.specs.Signed.{Signed, some_true}
use Rattle.smt_meaning.specs.declared.values.Value.{Value}
use Rattle.smt_meaning.specs.declared.values.Value.TheVariants.{Truth}
use Rattle.smt_meaning.specs.declared.clauses.Atom.{Atom}
use Rattle.smt_meaning.specs.declared.clauses.Atom.TheVariants.{Same}
use Rattle.smt_meaning.specs.declared.terms.Operator.{Operator}
use Rattle.smt_meaning.specs.declared.terms.Operator.TheVariants.{Equal, Distinct, Ite}
use Rattle.smt_meaning.specs.Term.{Tree, Interpretation, operate, truth_of, same_value}
use Rattle.smt_meaning.specs.Clause.{value_at, atom_true}
use Rattle.clause_form.specs.Node.{HasNoAtomTwice}
use Rattle.equality_clauses.specs.Ties.{comparison_clauses, choice_clauses, sameness_clauses}

-- ---- the atoms of the arguments at these places

abbrev pub of_neighbours : ℕ → List ℕ → List Atom
of_neighbours i [] = []
of_neighbours i (j ∷ js) = Same i j ∷ of_neighbours j js

abbrev pub of_first : ℕ → List ℕ → List Atom
of_first i [] = []
of_first i (j ∷ js) = Same i j ∷ of_first i js

abbrev pub of_pairs : List ℕ → List Atom
of_pairs [] = []
of_pairs (i ∷ is) = of_first i is ++ of_pairs is

abbrev pub compared : Operator → List ℕ → List Atom
compared Equal (i ∷ is) = of_neighbours i is
compared Distinct is = of_pairs is
compared o is = []

abbrev pub compares : Operator → Bool
compares Equal = true
compares Distinct = true
compares o = false

-- ---- signs that agree with values

-- whether the equality holds of the values of places
abbrev pub pair_same : (ℕ → Value) → Atom → Bool
pair_same v (Same i j) = same_value (v i) (v j)
pair_same v a = false

-- the sign of each of these numbers is the equality of the values of its two places
abbrev pub AgreeOnPairs : (ℕ → Value) → (ℕ → Bool) → List ℕ → List Atom → Type 0
AgreeOnPairs v signs pairs atoms = map signs pairs ≡ map (pair_same v) atoms

-- each literal is on one of these atoms, and none stands twice
pub record IsOver (atoms : List ℕ) (ls : List Signed) : Type 0 where
  pub over : All (λ (l : Signed). Contains atoms l.atom) ls
  pub once : HasNoAtomTwice ls

abbrev pub AllTrue : (ℕ → Bool) → List (List Signed) → Type 0
AllTrue signs cs = All (λ ls. some_true signs ls ≡ true) cs

-- ---- `=` and `distinct`

-- signs that agree with values make the clauses true exactly where the term has the sign of its operator's value
abbrev pub ComparisonIsTied : Type 0
ComparisonIsTied =
    (o : Operator) (v : ℕ → Value) (signs : ℕ → Bool) (t : ℕ) (pairs is : List ℕ) → IsTrue (compares o) → AgreeOnPairs v signs pairs (compared o is)
    → (signs t ≡ truth_of (operate o (map v is)) → AllTrue signs (comparison_clauses o t pairs))
    × (AllTrue signs (comparison_clauses o t pairs) → Truth (signs t) ≡ operate o (map v is))

abbrev pub ComparisonIsOver : Type 0
ComparisonIsOver = (o : Operator) (t : ℕ) (pairs : List ℕ) → (Contains pairs t → ⊥) → All (IsOver (t ∷ pairs)) (comparison_clauses o t pairs)

-- ---- `ite`

abbrev pub ChoiceIsTied : Type 0
ChoiceIsTied =
    (v : ℕ → Value) (signs : ℕ → Bool) (condition first second t c i j : ℕ) → signs condition ≡ truth_of (v c) → signs first ≡ same_value (v t) (v i) → signs second ≡ same_value (v t) (v j)
    → (v t ≡ operate Ite (v c ∷ v i ∷ v j ∷ []) → AllTrue signs (choice_clauses condition first second))
    × (AllTrue signs (choice_clauses condition first second) → v t ≡ operate Ite (v c ∷ v i ∷ v j ∷ []))

abbrev pub ChoiceIsOver : Type 0
ChoiceIsOver =
    (condition first second : ℕ) → condition ≢ first → condition ≢ second → All (IsOver (condition ∷ first ∷ second ∷ [])) (choice_clauses condition first second)

-- ---- the equality of two Bools

abbrev pub SamenessIsTied : Type 0
SamenessIsTied =
    (signs : ℕ → Bool) (same x y : ℕ)
    → (signs same ≡ same_value (Truth (signs x)) (Truth (signs y)) → AllTrue signs (sameness_clauses same x y))
    × (AllTrue signs (sameness_clauses same x y) → signs same ≡ same_value (Truth (signs x)) (Truth (signs y)))

abbrev pub SamenessIsOver : Type 0
SamenessIsOver = (same x y : ℕ) → same ≢ x → same ≢ y → All (IsOver (same ∷ x ∷ y ∷ [])) (sameness_clauses same x y)

-- ---- under an interpretation

-- numbers that stand for these atoms have signs that agree with the values that an interpretation gives the terms
abbrev pub InterpretationAgrees : Type 0
InterpretationAgrees =
    (ts : List Tree) (I : Interpretation) (atom : ℕ → Atom) (o : Operator) (pairs is : List ℕ) → map atom pairs ≡ compared o is
    → AgreeOnPairs (value_at ts I) (λ n. atom_true ts I (atom n)) pairs (compared o is)
