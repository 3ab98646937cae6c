-- The first clauses of a search over a stack: what each says follows from the stack, the assertions are among them, and they force the clauses of each part.
use Rattle.std.specs.Prelude.{◌≡◌, ◌⊎◌, ℕ, false, Bool, List, ◌∷◌, map, length, All, Result, IfOk, IfErr}
use Rattle.clause_store.specs.Stored.{Kept, Stored}
use Rattle.smt_meaning.specs.declared.values.Sort.{Sort}
use Rattle.smt_meaning.specs.declared.values.Sort.TheVariants.{Bool as Truths}
use Rattle.smt_meaning.specs.declared.terms.Operator.{Operator}
use Rattle.smt_meaning.specs.declared.terms.Head.TheVariants.{Theory}
use Rattle.smt_meaning.specs.declared.clauses.Atom.{Atom}
use Rattle.smt_meaning.specs.declared.clauses.Atom.TheVariants.{Truth}
use Rattle.smt_meaning.specs.Term.{Tree}
use Rattle.smt_meaning.specs.Stack.{signature_of, assertions_of}
use Rattle.smt_meaning.specs.StackCommand.{Stack}
use Rattle.search_port.specs.State.{Reading, truth_atoms}
use Rattle.smt_laws.specs.Flat.{flat}
use Rattle.scope_stack.specs.Facts.{AreSorts}
use Rattle.linear_forms.specs.Table.{Known, AreForms}
use Rattle.check_atoms.specs.Parts.{IsMarked}
use Rattle.check_atoms.specs.Marks.{AreStackParts}
use Rattle.check_atoms.specs.AssertedDistinct.{IsAssertedDistinct}
use Rattle.check_atoms.specs.OfStack.{IsNode, AreCheckAtoms, IsRefused as IsAtomRefused}
use Rattle.check_atoms.specs.declared.atoms.CheckAtoms.{CheckAtoms}
use Rattle.check_atoms.specs.declared.refusal.Refusal.{Refusal}
use Rattle.check_atoms.specs.declared.refusal.Refusal.TheVariants.{Term, Pair, Limit, Memory}
use Rattle.order_clauses.specs.declared.error.PartError.{PartError}
use Rattle.order_clauses.specs.declared.error.PartError.TheVariants.{Missing, Term as PartTerm, Pair as PartPair, Limit as PartLimit, Memory as PartMemory}
use Rattle.order_clauses.specs.Clauses.{sort_at, part_clauses_of}
use Rattle.clause_form.specs.Node.{literals_of_node}
use Rattle.atom_form.specs.AtomTableNumbers.{IsAt}
use Rattle.first_clauses.specs.Numbers.{AreNumbers}
use Rattle.first_clauses.specs.Turned.{IsKeptTurned}
use Rattle.first_clauses.specs.PartClausesFirst.{IsBegun, IsAsserted, HasClause, ForcesParts}

-- by what the clauses are read: the atom of each number, to which more may come, and all levels of the stack as one
abbrev pub reading_of : Stack → List Atom → Reading
reading_of s table = record { trees = s.trees; frames = flat s.frames; table = table; closed = false }

-- nothing is decided, each clause that is kept follows, each assertion is one, and the clauses of each part are forced
pub record IsFirst (s : Stack) (table : List Atom) (stored : Stored) : Type 0 where
  pub begun : IsBegun (reading_of s table) stored
  pub assertions : All (IsAsserted s.trees table stored.clauses) (assertions_of s.frames)
  pub forced : ForcesParts s table (map (λ (c : Kept). c.literals) stored.clauses)

-- the clauses of a node with this operator, over the truths of it and of its arguments, are kept, the longer ones perhaps with what negations negate
pub record HasTruths (trees : List Tree) (table : List Atom) (clauses : List Kept) (place : ℕ) (o : Operator) (is : List ℕ) : Type 0 where
  pub number : ℕ
  pub numbers : List ℕ
  pub here : IsAt table number (Truth place)
  pub are : AreNumbers table (truth_atoms is) numbers
  pub kept : All (IsKeptTurned trees table clauses) (literals_of_node o number numbers)

-- by the listed sorts it and these are Bools
abbrev pub AreBools : List Sort → List ℕ → Type 0
AreBools sorts ps = All (λ p. sort_at sorts p ≡ Truths) ps

-- the clauses of the term at a place are kept: of a node of Bools those of its operator over their truths, of another those that tie it to what it compares or chooses, unless it is an asserted wide `distinct`
pub record HasPart (s : Stack) (sorts : List Sort) (table : List Atom) (clauses : List Kept) (place : ℕ) (o : Operator) (is : List ℕ) : Type 0 where
  pub of_bools : AreBools sorts (place ∷ is) → HasTruths s.trees table clauses place o is
  pub of_others : (AreBools sorts (place ∷ is) → ⊥) → IsAssertedDistinct s place (Theory o) is ⊎ All (HasClause clauses) (part_clauses_of sorts s.trees table o place is)

-- so are those of the term at this place, if it is a part with an operator
abbrev pub HasPartAt : Stack → List Bool → List Sort → List Atom → List Kept → ℕ → Type 0
HasPartAt s marks sorts table clauses p = (o : Operator) (is : List ℕ) → IsMarked marks p → IsNode s.trees p (Theory o) is → HasPart s sorts table clauses p o is

-- and those of all parts
abbrev pub HasParts : Stack → List Bool → List Sort → List Atom → List Kept → Type 0
HasParts s marks sorts table clauses = (p : ℕ) → HasPartAt s marks sorts table clauses p

-- what it comes to that the clauses of the part at a place can't be put
abbrev pub IsRefusalOf : ℕ → PartError → Refusal → Type 0
IsRefusalOf place Missing r = ⊥
IsRefusalOf place (PartTerm part) r = r ≡ Term part
IsRefusalOf place (PartPair o) r = r ≡ Pair place o
IsRefusalOf place PartLimit r = r ≡ Limit place
IsRefusalOf place PartMemory r = r ≡ Memory

-- what the clauses of a stack's parts are made from: the parts with their atoms, and the forms and the sorts of the terms
pub record AreReady (s : Stack) (marks : List Bool) (sorts : List Sort) (table : List Atom) (known : List Known) : Type 0 where
  pub parts : AreStackParts s marks
  pub atoms : AreCheckAtoms s marks table
  pub forms : AreForms s.trees known
  pub sorted : AreSorts (signature_of s.frames) s.trees (length s.trees) sorts

-- what comes of it: the first clauses, or why numbering the atoms would be refused; the parts stay as they are
pub record GivesFirst (s : Stack) (sorts : List Sort) (old new : CheckAtoms) (r : Result Stored Refusal) : Type 0 where
  pub first : IfOk r (IsFirst s old.atoms.atoms)
  pub parts : IfOk r (λ stored. HasParts s old.marks.items sorts old.atoms.atoms stored.clauses)
  pub refused : IfErr r (IsAtomRefused s)
  pub same : new ≡ old
