-- Listed values that fit a log which tells each atom and holds each part.
use Rattle.std.specs.Prelude.{◌≡◌, ℕ, Bool, true, false, List, [], ◌∷◌, length, Contains, nat_lt}
use Rattle.literals.specs.Signed.{Signed}
use Rattle.smt_meaning.specs.declared.values.Value.{Value}
use Rattle.smt_meaning.specs.declared.values.Value.TheVariants.{Truth}
use Rattle.smt_meaning.specs.declared.values.Sort.{Sort}
use Rattle.smt_meaning.specs.declared.values.Sort.TheVariants.{Bool as Truths, Free}
use Rattle.smt_meaning.specs.declared.terms.Operator.{Operator}
use Rattle.smt_meaning.specs.declared.terms.Operator.TheVariants.{Xor, Equal, Distinct, Ite}
use Rattle.smt_meaning.specs.declared.terms.Head.TheVariants.{Theory}
use Rattle.smt_meaning.specs.declared.clauses.Atom.{Atom}
use Rattle.smt_meaning.specs.declared.clauses.Atom.TheVariants.{Truth as TruthAtom}
use Rattle.smt_meaning.specs.Interpretation.{has_sort}
use Rattle.smt_meaning.specs.Stack.{signature_of}
use Rattle.smt_meaning.specs.StackCommand.{Stack}
use Rattle.search_port.specs.State.{IsFull, IsConsistent}
use Rattle.atom_form.specs.AtomTableNumbers.{IsAt}
use Rattle.scope_stack.specs.Facts.{AreSorts}
use Rattle.scope_stack.specs.Shown.{IsLawful}
use Rattle.linear_forms.specs.Table.{Known}
use Rattle.check_atoms.specs.Parts.{IsMarked}
use Rattle.check_atoms.specs.Marks.{AreStackParts}
use Rattle.check_atoms.specs.AssertedDistinct.{IsAssertedDistinct}
use Rattle.check_atoms.specs.OfStack.{IsNode}
use Rattle.order_clauses.specs.Clauses.{sort_at}
use Rattle.bound_log.specs.Values.{AreMet}
use Rattle.first_clauses.specs.CheckClausesFirst.{reading_of}
use Rattle.first_clauses.specs.Holding.{IsDecided}
use Rattle.exact_model.specs.Exact.{listed, number_at, AreListed}
use Rattle.exact_model.specs.Operators.{HasValueOf}

-- the values that are listed for numbered truths are those that the log tells
abbrev pub FitTruths : List Atom → List Signed → List Value → Type 0
FitTruths table log vs = (l : Signed) (p : ℕ) → Contains log l → IsAt table l.atom (TruthAtom p) → listed vs p ≡ Truth l.positive

-- the value that is listed for a marked place is of the sort that is listed for it
abbrev pub HaveListedSorts : List Bool → List Sort → List Value → Type 0
HaveListedSorts marks sorts vs = (p : ℕ) → IsMarked marks p → has_sort (listed vs p) (sort_at sorts p) ≡ true

-- a last check of the parts of a stack: the log is consistent, tells each atom of the table, and holds each part
pub record IsFullCheck (s : Stack) (marks : List Bool) (table : List Atom) (log : List Signed) : Type 0 where
  pub parts : AreStackParts s marks
  pub sorts : List Sort
  pub sorted : AreSorts (signature_of s.frames) s.trees (length s.trees) sorts
  pub decided : IsDecided s marks sorts table log
  pub consistent : IsConsistent log
  pub full : IsFull (reading_of s table) log

-- what the log of such a check tells of truths and of bounds is true of the listed values
pub record AreFitting (s : Stack) (marks : List Bool) (vs : List Value) : Type 0 where
  pub table : List Atom
  pub log : List Signed
  pub check : IsFullCheck s marks table log
  pub sorted : HaveListedSorts marks check.sorts vs
  pub truths : FitTruths check.decided.first log vs
  pub bounds : AreMet check.decided.first (number_at vs) log

-- what is true of values for the whole table is so for the first atoms, with which the check began
abbrev pub FirstFit : Type 0
FirstFit =
    (s : Stack) (marks : List Bool) (table : List Atom) (log : List Signed) (vs : List Value) (check : IsFullCheck s marks table log) → FitTruths table log vs → AreMet table (number_at vs) log
    → FitTruths check.decided.first log vs × AreMet check.decided.first (number_at vs) log

-- ---- what truths and bounds leave open

abbrev pub is_free : Sort → Bool
is_free (Free a) = true
is_free s = false

abbrev pub first_sort : List Sort → List ℕ → Sort
first_sort sorts [] = Truths
first_sort sorts (i ∷ is) = sort_at sorts i

-- the term at a place with this operator is an element of a declared sort, or compares elements, or is an exclusive or of more than three
abbrev pub is_open : List Sort → Operator → ℕ → List ℕ → Bool
is_open sorts Xor p is = nat_lt 3 (length is)
is_open sorts Equal p is = is_free (first_sort sorts is)
is_open sorts Distinct p is = is_free (first_sort sorts is)
is_open sorts Ite p is = is_free (sort_at sorts p)
is_open sorts o p is = false

-- each other part, but for asserted wide `distinct`s, has the value that its operator makes
abbrev pub OperatorsAreDecided : Type 0
OperatorsAreDecided =
    (s : Stack) (marks : List Bool) (known : List Known) (vs : List Value) → IsLawful s → AreListed s.trees known vs → (f : AreFitting s marks vs)
    → (p : ℕ) (o : Operator) (is : List ℕ) → IsMarked marks p → IsNode s.trees p (Theory o) is → is_open f.check.sorts o p is ≡ false → (IsAssertedDistinct s p (Theory o) is → ⊥)
    → HasValueOf s.trees vs p o is
