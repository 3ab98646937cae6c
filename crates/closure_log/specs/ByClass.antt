-- Values of elements of declared sorts by the classes of a closure that says all that a log does.
use Rattle.std.specs.Prelude.{◌≡◌, ◌⊎◌, ℕ, ◌+◌, ◌++◌, Bool, List, ◌∷◌, [], length, map, All, Contains, Some, IsTrue, true, false}
use Rattle.std.specs.List.{AllZip}
use Rattle.literals.specs.Signed.{Signed}
use Rattle.smt_meaning.specs.declared.values.Value.{Value}
use Rattle.smt_meaning.specs.declared.values.Value.TheVariants.{Element}
use Rattle.smt_meaning.specs.declared.values.Sort.{Sort}
use Rattle.smt_meaning.specs.declared.values.Sort.TheVariants.{Free}
use Rattle.smt_meaning.specs.declared.terms.Operator.{Operator}
use Rattle.smt_meaning.specs.declared.terms.Operator.TheVariants.{Distinct, Ite}
use Rattle.smt_meaning.specs.declared.terms.Head.TheVariants.{Theory, Symbol}
use Rattle.smt_meaning.specs.declared.clauses.Atom.{Atom}
use Rattle.smt_meaning.specs.declared.clauses.Atom.TheVariants.{Truth, Same}
use Rattle.smt_meaning.specs.Term.{same_value, truth_of, operate}
use Rattle.smt_meaning.specs.Signature.{is_bool}
use Rattle.smt_meaning.specs.Stack.{signature_of}
use Rattle.smt_meaning.specs.StackCommand.{Stack}
use Rattle.scope_stack.specs.Facts.{AreSorts}
use Rattle.atom_form.specs.AtomTableNumbers.{IsAt}
use Rattle.search_port.specs.State.{IsFull, IsConsistent, IsMadeTrue}
use Rattle.point_closure.specs.Unions.{root_of}
use Rattle.congruence.specs.declared.congruence.Congruence.{Congruence}
use Rattle.equality_clauses.specs.Laws.{compares}
use Rattle.check_atoms.specs.Parts.{IsMarked}
use Rattle.check_atoms.specs.PartAtoms.{sort_of}
use Rattle.check_atoms.specs.AssertedDistinct.{IsAssertedDistinct}
use Rattle.check_atoms.specs.OfStack.{IsNode, AreCheckAtoms}
use Rattle.order_clauses.specs.declared.pairs.Pair.{Pair}
use Rattle.order_clauses.specs.Pairs.{same_atom}
use Rattle.order_clauses.specs.Clauses.{truth_number, part_clauses_of}
use Rattle.order_clauses.specs.Decided.{IsGiven, FitsTerms}
use Rattle.closure_log.specs.Seen.{state_of}
use Rattle.closure_log.specs.Distinct.{KeepsDistinct}
use Rattle.closure_log.specs.Whole.{Gives, AreInOneClass, IsWholeAndApart}

-- the term at the place is an element of this declared sort
abbrev pub IsElement : Stack → ℕ → ℕ → Type 0
IsElement s q p = sort_of (signature_of s.frames) s.trees p ≡ Some (Free q)

-- its value is the element with the number of its class
abbrev pub IsItsClass : Congruence → (ℕ → Value) → ℕ → Type 0
IsItsClass c v p = v p ≡ Element (root_of c.closure.classes.unions (p + 2))

-- the equality of the pair has a number, and the values of its terms are their classes
pub record IsNumberedPair (first : List Atom) (c : Congruence) (v : ℕ → Value) (q : Pair) : Type 0 where
  pub number : Contains first (same_atom q)
  pub left : IsItsClass c v q.left
  pub right : IsItsClass c v q.right

-- a consistent log gives each atom of a table, which begins with these, a truth value; the closure says all that it does, and nothing in it is in conflict
pub record IsWholeOver (s : Stack) (first table : List Atom) (log : List Signed) (c : Congruence) : Type 0 where
  pub more : List Atom
  pub table_is : table ≡ first ++ more
  pub full : IsFull (state_of s table log).reading log
  pub consistent : IsConsistent log
  pub whole : IsWholeAndApart s table log c

-- the log gives an equality of two elements what holds of their classes
abbrev pub SamenessIsByClass : Type 0
SamenessIsByClass =
    (s : Stack) (table : List Atom) (log : List Signed) (c : Congruence) (v : ℕ → Value) (i j n : ℕ) (b : Bool) → IsWholeAndApart s table log c
    → IsAt table n (Same i j) → IsGiven log n b → IsItsClass c v i → IsItsClass c v j → b ≡ same_value (v i) (v j)

-- so the numbered equalities of pairs fit the classes
abbrev pub PairsFitClasses : Type 0
PairsFitClasses =
    (s : Stack) (first table : List Atom) (log : List Signed) (c : Congruence) (v : ℕ → Value) (qs : List Pair) → IsWholeOver s first table log c
    → All (IsNumberedPair first c v) qs → FitsTerms v log s.trees first false qs

-- a part that is `=` or `distinct` of elements
pub record ComparesElements (s : Stack) (marks : List Bool) (o : Operator) (p q i : ℕ) (is : List ℕ) : Type 0 where
  pub compares : IsTrue (compares o)
  pub marked : IsMarked marks p
  pub term : IsNode s.trees p (Theory o) (i ∷ is)
  pub bool : is_bool (sort_of (signature_of s.frames) s.trees p) ≡ true
  pub elements : All (IsElement s q) (i ∷ is)

-- where the log makes its clauses true, it gives it its operator's value, unless it is an asserted wide `distinct`
abbrev pub ComparisonsAreByClass : Type 0
ComparisonsAreByClass =
    (s : Stack) (marks : List Bool) (sorts : List Sort) (first table : List Atom) (log : List Signed) (c : Congruence) (v : ℕ → Value) (o : Operator) (p q i : ℕ) (is : List ℕ)
    → AreCheckAtoms s marks first → AreSorts (signature_of s.frames) s.trees (length s.trees) sorts → IsWholeOver s first table log c
    → ComparesElements s marks o p q i is → All (IsItsClass c v) (i ∷ is) → All (IsMadeTrue log) (part_clauses_of sorts s.trees first o p (i ∷ is))
    → IsAssertedDistinct s p (Theory o) (i ∷ is) ⊎ IsGiven log (truth_number first p) (truth_of (operate o (map v (i ∷ is))))

-- a `distinct` of elements that the log tells to be true is true of their classes, where the closure keeps its arguments apart
abbrev pub DistinctsAreByClass : Type 0
DistinctsAreByClass =
    (s : Stack) (first table : List Atom) (log : List Signed) (c : Congruence) (v : ℕ → Value) (p : ℕ) (is : List ℕ) → IsWholeOver s first table log c → KeepsDistinct s.trees table log c p
    → IsNode s.trees p (Theory Distinct) is → Contains first (Truth p) → IsGiven log (truth_number first p) true → All (IsItsClass c v) is → truth_of (operate Distinct (map v is)) ≡ true

-- an `ite` of elements has the value of the branch that its condition takes
abbrev pub ChoicesAreByClass : Type 0
ChoicesAreByClass =
    (s : Stack) (first table : List Atom) (log : List Signed) (c : Congruence) (v : ℕ → Value) (p t i j : ℕ) → IsWholeOver s first table log c
    → IsNode s.trees p (Theory Ite) (t ∷ i ∷ j ∷ []) → Contains first (Truth t) → IsGiven log (truth_number first t) (truth_of (v t))
    → All (IsItsClass c v) (p ∷ i ∷ j ∷ []) → v p ≡ operate Ite (v t ∷ v i ∷ v j ∷ [])

-- applications of one symbol whose arguments are in one class, one by one, are in one class
abbrev pub ApplicationsAreByClass : Type 0
ApplicationsAreByClass =
    (s : Stack) (table : List Atom) (log : List Signed) (c : Congruence) (p q f : ℕ) (is js : List ℕ) → IsWholeAndApart s table log c
    → IsNode s.trees p (Symbol f) is → IsNode s.trees q (Symbol f) js → AllZip (AreInOneClass c) is js → AreInOneClass c p q

-- and so are Bools that the log gives one truth value
abbrev pub BoolsAreByClass : Type 0
BoolsAreByClass =
    (s : Stack) (table : List Atom) (log : List Signed) (c : Congruence) (p q : ℕ) (b : Bool) → IsWholeAndApart s table log c
    → Gives table log (Truth p) b → Gives table log (Truth q) b → AreInOneClass c p q
