-- A closure in which all is recorded that a log says of terms.
use Rattle.std.specs.Prelude.{◌≡◌, ℕ, ◌+◌, ◌<◌, ◌↔◌, Bool, true, false, List, [], ◌∷◌, length, All, Contains, if◌then◌else◌}
use Rattle.std.specs.List.{AllZip}
use Rattle.literals.specs.Signed.{Signed}
use Rattle.smt_meaning.specs.declared.clauses.Atom.{Atom}
use Rattle.smt_meaning.specs.declared.clauses.Atom.TheVariants.{Truth, Same, AtMost}
use Rattle.smt_meaning.specs.declared.terms.Operator.TheVariants.{Equal as EqualTo, Distinct, Ite}
use Rattle.smt_meaning.specs.declared.terms.Head.{Head}
use Rattle.smt_meaning.specs.declared.terms.Head.TheVariants.{Theory, Symbol}
use Rattle.smt_meaning.specs.Term.{Tree}
use Rattle.smt_meaning.specs.Stack.{signature_of}
use Rattle.smt_meaning.specs.StackCommand.{Stack}
use Rattle.atom_form.specs.AtomTableNumbers.{IsAt}
use Rattle.search_port.specs.State.{atom_at}
use Rattle.search_port.specs.Calls.{IsConflict}
use Rattle.point_closure.specs.declared.step.Step.{Step}
use Rattle.point_closure.specs.Closure.{Equal}
use Rattle.point_closure.specs.Explained.{merged}
use Rattle.point_closure.specs.Unions.{root_of}
use Rattle.congruence.specs.declared.congruence.Congruence.{Congruence}
use Rattle.congruence.specs.Reading.{AreSeen, truth_number}
use Rattle.congruence.specs.Reasoned.{IsReasoned}
use Rattle.congruence.specs.Reasons.{NoneTwice}
use Rattle.congruence.specs.Recorded.{AreEqualTerms}
use Rattle.congruence.specs.Steps.{truth_step, pair_step, node_steps, branch_step}
use Rattle.check_atoms.specs.OfStack.{IsNode}
use Rattle.closure_log.specs.Seen.{state_of}
use Rattle.closure_log.specs.declared.whole.Closed.{Closed}
use Rattle.closure_log.specs.declared.whole.Closed.TheVariants.{Apart, Broken}

-- the log gives the atom this truth value
pub record Gives (table : List Atom) (log : List Signed) (a : Atom) (b : Bool) : Type 0 where
  pub number : ℕ
  pub at : IsAt table number a
  pub told : Contains log (record { atom = number; positive = b })

-- the merges give the term this truth value
abbrev pub HasTruth : Congruence → ℕ → Bool → Type 0
HasTruth c t b = Equal c.closure.graph (merged c.closure.steps.items) (t + 2) (truth_number b)

-- they make the first of these terms equal to the second, that one to the third, and so on
abbrev pub AreNeighbours : Congruence → ℕ → List ℕ → Type 0
AreNeighbours c i [] = Unit {0}
AreNeighbours c i (j ∷ js) = AreEqualTerms c i j × AreNeighbours c j js

-- two terms are in one class
abbrev pub AreInOneClass : Congruence → ℕ → ℕ → Type 0
AreInOneClass c i j = root_of c.closure.classes.unions (i + 2) ≡ root_of c.closure.classes.unions (j + 2)

-- the merges give each equality that the log says of terms: a Bool's truth value, the sides of an equality, the arguments of a true `=` and of a false `distinct` of two, and an `ite` and the branch that is taken
pub record GivesEqualities (ts : List Tree) (table : List Atom) (log : List Signed) (c : Congruence) : Type 0 where
  pub truths : (t : ℕ) (b : Bool) → Gives table log (Truth t) b → HasTruth c t b
  pub same : (i j : ℕ) → Gives table log (Same i j) true → AreEqualTerms c i j
  pub equal : (p i : ℕ) (is : List ℕ) → IsNode ts p (Theory EqualTo) (i ∷ is) → Gives table log (Truth p) true → AreNeighbours c i is
  pub distinct : (p i j : ℕ) → IsNode ts p (Theory Distinct) (i ∷ j ∷ []) → Gives table log (Truth p) false → AreEqualTerms c i j
  pub choices : (p t i j : ℕ) (b : Bool) → IsNode ts p (Theory Ite) (t ∷ i ∷ j ∷ []) → Gives table log (Truth t) b → AreEqualTerms c p (if b then i else j)

-- they don't make the truth values equal, nor terms that the log tells apart: the sides of an equality, the arguments of a false `=` of two and of a true `distinct` of two
pub record KeepsApart (ts : List Tree) (table : List Atom) (log : List Signed) (c : Congruence) : Type 0 where
  pub truths : Equal c.closure.graph (merged c.closure.steps.items) 0 1 → ⊥
  pub same : (i j : ℕ) → Gives table log (Same i j) false → AreEqualTerms c i j → ⊥
  pub equal : (p i j : ℕ) → IsNode ts p (Theory EqualTo) (i ∷ j ∷ []) → Gives table log (Truth p) false → AreEqualTerms c i j → ⊥
  pub distinct : (p i j : ℕ) → IsNode ts p (Theory Distinct) (i ∷ j ∷ []) → Gives table log (Truth p) true → AreEqualTerms c i j → ⊥

-- terms are in one class exactly where the merges make them equal, and applications of one symbol to equal arguments are equal
pub record HasClasses (ts : List Tree) (c : Congruence) : Type 0 where
  pub classes : (i j : ℕ) → AreInOneClass c i j ↔ AreEqualTerms c i j
  pub applied : (p q f : ℕ) (is js : List ℕ) → IsNode ts p (Symbol f) is → IsNode ts q (Symbol f) js → AllZip (AreEqualTerms c) is js → AreEqualTerms c p q

-- a closure over the terms of a stack, each of whose steps a literal of the log justifies
pub record IsGrounded (s : Stack) (table : List Atom) (log : List Signed) (c : Congruence) : Type 0 where
  pub reasoned : IsReasoned (signature_of s.frames) s.trees table log c
  pub seen : AreSeen s.trees c.closure.graph

-- it says all that the log does, and nothing in it is in conflict
pub record IsWholeAndApart (s : Stack) (table : List Atom) (log : List Signed) (c : Congruence) : Type 0 where
  pub grounded : IsGrounded s table log c
  pub equalities : GivesEqualities s.trees table log c
  pub apart : KeepsApart s.trees table log c
  pub classes : HasClasses s.trees c

abbrev pub IsClosed : Stack → List Atom → List Signed → Closed → Type 0
IsClosed s table log (Apart c) = IsWholeAndApart s table log c
IsClosed s table log (Broken clause) = IsConflict (state_of s table log) clause × NoneTwice clause.literals

-- ---- by steps; no public contract speaks of it

-- these are all that an atom with this truth value says, but for choices
abbrev pub SaysAtom : List Tree → List Step → Bool → Atom → Type 0
SaysAtom ts steps b (Truth t) = Contains steps (truth_step t b) × ((h : Head) (is : List ℕ) → IsNode ts t h is → All (Contains steps) (node_steps h is b))
SaysAtom ts steps b (Same i j) = Contains steps (pair_step i j b)
SaysAtom ts steps b (AtMost sum k) = Unit {0}

abbrev pub SaysLiteral : List Tree → List Atom → List Step → Signed → Type 0
SaysLiteral ts table steps l = SaysAtom ts steps l.positive (atom_at table l.atom)

-- and of a choice whose condition's truth the log gives
abbrev pub SaysChoice : List Tree → List Atom → List Signed → List Step → ℕ → Type 0
SaysChoice ts table log steps p = (t i j : ℕ) (b : Bool) → IsNode ts p (Theory Ite) (t ∷ i ∷ j ∷ []) → Gives table log (Truth t) b → Contains steps (branch_step p i j b)

-- the steps stay
abbrev pub KeepsSteps : Congruence → Congruence → Type 0
KeepsSteps old new = (s : Step) → Contains old.closure.steps.items s → Contains new.closure.steps.items s

-- each literal's steps are recorded, and each choice's
pub record SaysAll (ts : List Tree) (table : List Atom) (log : List Signed) (c : Congruence) : Type 0 where
  pub literals : All (SaysLiteral ts table c.closure.steps.items) log
  pub choices : (p : ℕ) → p < length ts → SaysChoice ts table log c.closure.steps.items p
