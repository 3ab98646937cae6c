-- Values of the Int leaves of a stack's assertions, as a grid has them, and what is listed for places.
use Rattle.std.specs.Prelude.{◌≡◌, ℕ, ◌<◌, Bool, true, false, List, length, Some, All, Contains, slice_index_or}
use Rattle.literals.specs.Signed.{Signed}
use Rattle.fraction128.specs.Number.{whole}
use Rattle.fraction128.specs.declared.Grid.{Grid}
use Rattle.smt_meaning.specs.declared.values.Value.{Value}
use Rattle.smt_meaning.specs.declared.values.Value.TheVariants.{Truth, Whole, Element}
use Rattle.smt_meaning.specs.declared.values.Sort.{Sort}
use Rattle.smt_meaning.specs.declared.values.Sort.TheVariants.{Bool as Truths, Int as Ints, Free}
use Rattle.smt_meaning.specs.declared.clauses.Atom.{Atom}
use Rattle.smt_meaning.specs.declared.clauses.Atom.TheVariants.{Truth as TruthAtom, AtMost, Same}
use Rattle.smt_meaning.specs.Term.{tree_at, number_of, in_range}
use Rattle.smt_meaning.specs.Signature.{tree_sort}
use Rattle.smt_meaning.specs.Linear.{linear_form}
use Rattle.smt_meaning.specs.Stack.{signature_of}
use Rattle.smt_meaning.specs.StackCommand.{Stack}
use Rattle.smt_meaning.specs.CheckAtoms.{is_leaf, IsLeaf}
use Rattle.smt_meaning.specs.Ranges.{HasValue, form_at}
use Rattle.smt_laws.specs.Flat.{flat}
use Rattle.model_eval.specs.Walk.{is_marked}
use Rattle.model_build.specs.Parts.{AreSortedParts}
use Rattle.atom_form.specs.AtomTableNumbers.{IsAt}
use Rattle.scope_stack.specs.Facts.{AreSorts}
use Rattle.scope_stack.specs.Shown.{IsLawful}
use Rattle.check_atoms.specs.Parts.{IsMarked}
use Rattle.check_atoms.specs.Marks.{AreStackParts}
use Rattle.check_atoms.specs.Atoms.{is_bool_at}
use Rattle.check_atoms.specs.OfStack.{bound_terms}
use Rattle.sum_bounds.specs.Bounds.{AreWhole}
use Rattle.bound_log.specs.Told.{State, IsState}
use Rattle.bound_log.specs.Atoms.{Knows}
use Rattle.bound_log.specs.Pending.{plain_grid}
use Rattle.bound_log.specs.Values.{numbers_of, MeetsAll, AreMet}
use Rattle.exact_model.specs.Exact.{listed, number_at}
use Rattle.exact_model.specs.Sums.{number_of_place}
use Rattle.exact_model.specs.Atoms.{HasMarkedPlaces}
use Rattle.exact_model.specs.Fitting.{FitTruths, HaveListedSorts}

-- a marked Int that is no numeral, sum, difference or product
pub record IsIntLeaf (s : Stack) (marks : List Bool) (p : ℕ) : Type 0 where
  pub within : p < length s.trees
  pub marked : is_marked marks p ≡ true
  pub is_int : tree_sort (signature_of s.frames) (tree_at s.trees p) ≡ Some Ints
  pub leaf : is_leaf (tree_at s.trees p) ≡ true

-- the grid gives the term at the place this value, if it is such a leaf
abbrev pub HasLeafValue : Stack → List Bool → Grid → ℕ → Value → Type 0
HasLeafValue s marks g p v = IsIntLeaf s marks p → HasValue g p (whole (number_of v))

-- each of the first places has such a value listed
abbrev pub HaveLeafValues : Stack → List Bool → Grid → ℕ → List Value → Type 0
HaveLeafValues s marks g count vs = (p : ℕ) → p < count → HasLeafValue s marks g p (listed vs p)

-- ---- what is listed

-- the variable of the term has this whole number as its value
pub record IsLeafValue (b : State) (p : ℕ) (v : Value) : Type 0 where
  pub number : v ≡ Whole (numbers_of b.bounds p)
  pub has : HasValue (plain_grid b) p (whole (number_of v))

-- a number of the range, which for a leaf is that of its variable
pub record IsListedNumber (b : State) (p : ℕ) (leaf : Bool) (v : Value) : Type 0 where
  pub is_number : v ≡ Whole (number_of v)
  pub in_range : in_range v ≡ true
  pub of_leaf : leaf ≡ true → IsLeafValue b p v

-- of a Bool the truth, of an Int such a number, and else the element
abbrev pub IsListedBy : State → ℕ → Bool → Bool → ℕ → Sort → Value → Type 0
IsListedBy b p leaf truth element Truths v = v ≡ Truth truth
IsListedBy b p leaf truth element Ints v = IsListedNumber b p leaf v
IsListedBy b p leaf truth element (Free a) v = v ≡ Element element

-- so it is of the marked ones of the first places, by the sorts of their terms
abbrev pub AreListedBy : Stack → List Bool → State → List Bool → List ℕ → ℕ → List Value → Type 0
AreListedBy s marks b truths elements count vs =
    (p : ℕ) (r : Sort) → p < count → IsMarked marks p → tree_sort (signature_of s.frames) (tree_at s.trees p) ≡ Some r
    → IsListedBy b p (is_leaf (tree_at s.trees p)) (slice_index_or truths p false) (slice_index_or elements p 0) r (listed vs p)

-- ---- what holds of it, where it is listed of all places

-- it is of the sorts that are kept
abbrev pub ListedValuesHaveSorts : Type 0
ListedValuesHaveSorts =
    (s : Stack) (marks : List Bool) (b : State) (truths : List Bool) (elements : List ℕ) (vs : List Value) → AreListedBy s marks b truths elements (length s.trees) vs
    → (sorts : List Sort) → AreSortedParts (signature_of s.frames) s.trees marks → AreSorts (signature_of s.frames) s.trees (length s.trees) sorts → HaveListedSorts marks sorts vs

-- a truth is that of a Bool
abbrev pub IsOfBool : Stack → Atom → Type 0
IsOfBool s (TruthAtom p) = is_bool_at (signature_of s.frames) s.trees p ≡ true
IsOfBool s (AtMost sum k) = Unit {0}
IsOfBool s (Same i j) = Unit {0}

-- the truths are those that a log tells
abbrev pub AreTold : List Atom → List Signed → List Bool → Type 0
AreTold table log truths = (l : Signed) (p : ℕ) → Contains log l → IsAt table l.atom (TruthAtom p) → slice_index_or truths p false ≡ l.positive

-- then the values fit it
abbrev pub ListedTruthsFit : Type 0
ListedTruthsFit =
    (s : Stack) (marks : List Bool) (b : State) (truths : List Bool) (elements : List ℕ) (vs : List Value) → AreListedBy s marks b truths elements (length s.trees) vs
    → (table : List Atom) (log : List Signed) → length marks ≡ length s.trees → All (HasMarkedPlaces marks) table → All (IsOfBool s) table → AreTold table log truths → FitTruths table log vs

-- the sum of a bound is over leaves
abbrev pub IsOverLeaves : Stack → Atom → Type 0
IsOverLeaves s a = All (IsLeaf s.trees (flat s.frames)) (bound_terms a)

-- where the variables have whole values that meet the bounds told, the values meet them
abbrev pub ListedBoundsAreMet : Type 0
ListedBoundsAreMet =
    (s : Stack) (marks : List Bool) (b : State) (truths : List Bool) (elements : List ℕ) (vs : List Value) → AreListedBy s marks b truths elements (length s.trees) vs
    → (table : List Atom) → IsLawful s → length marks ≡ length s.trees → All (HasMarkedPlaces marks) table → All (IsOverLeaves s) table → IsState b → Knows table b → AreWhole b.bounds → MeetsAll b
    → AreMet table (number_at vs) b.log

-- a marked Int has the number that the variables give its linear form
abbrev pub ListedNumbersAreOfForms : Type 0
ListedNumbersAreOfForms =
    (s : Stack) (marks : List Bool) (b : State) (truths : List Bool) (elements : List ℕ) (vs : List Value) → AreListedBy s marks b truths elements (length s.trees) vs
    → IsLawful s → AreStackParts s marks → length marks ≡ length s.trees → (p : ℕ) → IsMarked marks p → tree_sort (signature_of s.frames) (tree_at s.trees p) ≡ Some Ints
    → number_of_place s.trees vs p ≡ form_at (numbers_of b.bounds) (linear_form s.trees (tree_at s.trees p))
