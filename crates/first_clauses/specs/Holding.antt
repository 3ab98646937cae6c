-- What a log that makes the clauses of the parts true says of each part.
use Rattle.std.specs.Prelude.{◌≡◌, ◌⊎◌, ℕ, ◌++◌, Bool, true, false, List, [], ◌∷◌, map, length, All, Contains, IsTrue}
use Rattle.literals.specs.Signed.{Signed}
use Rattle.smt_meaning.specs.declared.values.Sort.{Sort}
use Rattle.smt_meaning.specs.declared.values.Value.TheVariants.{Truth}
use Rattle.smt_meaning.specs.declared.terms.Operator.{Operator}
use Rattle.smt_meaning.specs.declared.terms.Operator.TheVariants.{Not}
use Rattle.smt_meaning.specs.declared.terms.Head.TheVariants.{Theory}
use Rattle.smt_meaning.specs.declared.clauses.Atom.{Atom}
use Rattle.smt_meaning.specs.declared.clauses.Atom.TheVariants.{Truth as TruthAtom}
use Rattle.smt_meaning.specs.Term.{Tree, tree_at, operate, truth_of}
use Rattle.smt_meaning.specs.Stack.{signature_of, assertions_of}
use Rattle.smt_meaning.specs.StackCommand.{Stack}
use Rattle.smt_laws.specs.Flat.{flat}
use Rattle.scope_stack.specs.Facts.{AreSorts}
use Rattle.scope_stack.specs.Shown.{IsLawful}
use Rattle.search_port.specs.State.{Reading, IsMadeTrue, truth_atoms}
use Rattle.atom_form.specs.AtomTableNumbers.{IsAt}
use Rattle.equality_clauses.specs.Ties.{literal, yes}
use Rattle.check_atoms.specs.Parts.{IsMarked}
use Rattle.check_atoms.specs.Marks.{AreStackParts}
use Rattle.check_atoms.specs.AssertedDistinct.{IsAssertedDistinct}
use Rattle.check_atoms.specs.OfStack.{IsNode, AreCheckAtoms}
use Rattle.check_atoms.specs.Standing.{StandingHolds}
use Rattle.clause_form.specs.ForcedClausesLaws.{fits_clauses}
use Rattle.order_clauses.specs.Clauses.{truth_number, part_clauses_of}
use Rattle.order_clauses.specs.Decided.{IsGiven}
use Rattle.first_clauses.specs.CheckClausesFirst.{AreBools}

-- where the log tells the truths of a node's arguments, it tells that of the node which its operator makes of them, if it has clauses that say all of it
abbrev pub DecidesNode : List Signed → List Atom → Operator → ℕ → List ℕ → Type 0
DecidesNode log table o p is =
    (a : ℕ → Bool) → IsTrue (fits_clauses o is) → All (λ i. IsGiven log (truth_number table i) (a i)) is
    → IsGiven log (truth_number table p) (truth_of (operate o (map (λ i. Truth (a i)) is)))

-- a node of Bools is decided; of another term the log makes the clauses true that tie it to what it compares or chooses, unless it is an asserted wide `distinct`
pub record HoldsPart (s : Stack) (sorts : List Sort) (table : List Atom) (log : List Signed) (place : ℕ) (o : Operator) (is : List ℕ) : Type 0 where
  pub of_bools : AreBools sorts (place ∷ is) → DecidesNode log table o place is
  pub of_others : (AreBools sorts (place ∷ is) → ⊥) → IsAssertedDistinct s place (Theory o) is ⊎ All (IsMadeTrue log) (part_clauses_of sorts s.trees table o place is)

-- so is each part
abbrev pub HoldsParts : Stack → List Bool → List Sort → List Atom → List Signed → Type 0
HoldsParts s marks sorts table log = (p : ℕ) (o : Operator) (is : List ℕ) → IsMarked marks p → IsNode s.trees p (Theory o) is → HoldsPart s sorts table log p o is

-- the truth of the term has a number, and the log tells that it is true
pub record IsAssertionTold (trees : List Tree) (table : List Atom) (log : List Signed) (t : Tree) : Type 0 where
  pub place : ℕ
  pub term : tree_at trees place ≡ t
  pub number : ℕ
  pub at : IsAt table number (TruthAtom place)
  pub told : Contains log (yes number)

-- the first atoms of a table are those of the stack's check, by which the log holds each part and tells each assertion
pub record IsDecided (s : Stack) (marks : List Bool) (sorts : List Sort) (table : List Atom) (log : List Signed) : Type 0 where
  pub first : List Atom
  pub more : List Atom
  pub table_is : table ≡ first ++ more
  pub atoms : AreCheckAtoms s marks first
  pub holds : HoldsParts s marks sorts first log
  pub asserted : All (IsAssertionTold s.trees first log) (assertions_of s.frames)

-- the log decides each part of a stack with these terms, whose levels as one are these
pub record PartsHold (r : Reading) (log : List Signed) : Type 0 where
  pub stack : Stack
  pub marks : List Bool
  pub sorts : List Sort
  pub trees : stack.trees ≡ r.trees
  pub frames : flat stack.frames ≡ r.frames
  pub lawful : IsLawful stack
  pub parts : AreStackParts stack marks
  pub sorted : AreSorts (signature_of stack.frames) stack.trees (length stack.trees) sorts
  pub decided : IsDecided stack marks sorts r.table log

-- what a full log says that makes the first clauses true
pub record IsAgreed (r : Reading) (log : List Signed) : Type 0 where
  pub standing : StandingHolds r log
  pub parts : PartsHold r log

-- ---- examples

-- a log where a term is true and its negation isn't decides the negation, and one where both are true doesn't
pub record NegationsAreDecided : Type 0 where
  pub decided : DecidesNode (literal true 0 ∷ literal false 1 ∷ []) (truth_atoms (0 ∷ 1 ∷ [])) Not 1 (0 ∷ [])
  pub not_decided : DecidesNode (literal true 0 ∷ literal true 1 ∷ []) (truth_atoms (0 ∷ 1 ∷ [])) Not 1 (0 ∷ []) → ⊥
