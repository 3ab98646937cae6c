-- Values of a last check that are those of its closure and of its variables.
use Rattle.std.specs.Prelude.{◌≡◌, ◌≢◌, ◌⊎◌, ℕ, ◌+◌, ◌<◌, Bool, true, false, List, length, slice_index_or, All, Contains, Some}
use Rattle.smt_meaning.specs.declared.values.Value.{Value}
use Rattle.smt_meaning.specs.declared.values.Value.TheVariants.{Element}
use Rattle.smt_meaning.specs.declared.values.Sort.TheVariants.{Free}
use Rattle.smt_meaning.specs.declared.values.Sort.{Sort}
use Rattle.literals.specs.Signed.{Signed}
use Rattle.smt_meaning.specs.declared.clauses.Atom.{Atom}
use Rattle.smt_meaning.specs.declared.clauses.Atom.TheVariants.{Truth, Same}
use Rattle.atom_form.specs.AtomTableNumbers.{IsAt}
use Rattle.smt_meaning.specs.Term.{Tree, tree_at}
use Rattle.smt_meaning.specs.Signature.{tree_sort}
use Rattle.smt_meaning.specs.Stack.{signature_of}
use Rattle.smt_meaning.specs.StackCommand.{Stack}
use Rattle.congruence.specs.declared.congruence.Congruence.{Congruence}
use Rattle.point_closure.specs.Unions.{root_of}
use Rattle.scope_stack.specs.Facts.{AreSorts}
use Rattle.search_port.specs.State.{atom_at}
use Rattle.bound_log.specs.Pending.{plain_grid}
use Rattle.bound_log.specs.Values.{AreMet}
use Rattle.model_eval.specs.Walk.{is_marked}
use Rattle.closure_log.specs.Parts.{KeepsXors}
use Rattle.closure_log.specs.Distinct.{IsDistinct, KeepsDistinct, AreAssertedDistincts}
use Rattle.closure_log.specs.Whole.{Gives, IsWholeAndApart}
use Rattle.model_build.specs.Building.{HasOperatorsValue, AreGiven, AreValues}
use Rattle.model_build.specs.declared.given.Given.{Given}
use Rattle.model_build.specs.Given.{given_at}
use Rattle.exact_model.specs.Exact.{listed, number_at, exact as exact_value, MayBeGiven, AreGivenExactly}
use Rattle.exact_model.specs.Leaves.{HaveLeafValues}
use Rattle.exact_model.specs.Sums.{number_of_place}
use Rattle.exact_model.specs.Fitting.{FitTruths, HaveListedSorts, IsFullCheck}
use Rattle.theory_combine.specs.declared.parts.Parts.{Parts}
use Rattle.theory_combine.specs.declared.parts.Progress.{Progress}
use Rattle.theory_combine.specs.Pairs.{IsFit}
use Rattle.theory_combine.specs.Settled.{IsToldAsIs, IsSettledWhereFit, IsToldWhereEmpty, number_there}

-- a marked term of a declared sort
pub record IsMarkedElement (s : Stack) (marks : List Bool) (p : ℕ) : Type 0 where
  pub marked : is_marked marks p ≡ true
  pub sort : ℕ
  pub has : tree_sort (signature_of s.frames) (tree_at s.trees p) ≡ Some (Free sort)

-- an atom is told as it is, if it is a bound of the empty sum, or an equality of marked Ints
pub record IsAtomTold (p : Parts) (w : Progress) (n : ℕ) : Type 0 where
  pub bound : IsToldWhereEmpty w.atoms.atoms w.held.closure.log.items n
  pub same : (i j : ℕ) → atom_at w.atoms.atoms n ≡ Same i j → IsSettledWhereFit p.stack.now p.marks.items w.atoms.atoms w.held (record { left = i; right = j })

-- so is each
abbrev pub AreAtomsTold : Parts → Progress → Type 0
AreAtomsTold p w = (n : ℕ) → n < length w.atoms.atoms → IsAtomTold p w n

-- each numbered equality of two marked Ints is told as it is
abbrev pub AreIntsTold : Parts → Progress → Type 0
AreIntsTold p w =
    (i j : ℕ) → IsFit p.stack.now p.marks.items i → IsFit p.stack.now p.marks.items j → IsToldAsIs p.stack.now w.atoms.atoms w.held i j

-- the truth value that the log tells of the term at a place is this, if it tells one
abbrev pub HasToldTruth : List Atom → List Signed → ℕ → Bool → Type 0
HasToldTruth table log q b = (l : Signed) → Contains log l → IsAt table l.atom (Truth q) → b ≡ l.positive

-- so is that of each of the first places
abbrev pub AreToldTruths : List Atom → List Signed → ℕ → List Bool → Type 0
AreToldTruths table log count bs = (q : ℕ) → q < count → HasToldTruth table log q (slice_index_or bs q false)

-- the listed values are true of what the log of a full check tells of truths and of bounds, elements have the numbers of their classes in a closure of all that it says, in which nothing is in conflict, and Ints those of their forms where variables have their values
pub record AreSettledValues (p : Parts) (w : Progress) (c : Congruence) (vs : List Value) : Type 0 where
  pub check : IsFullCheck p.stack.now p.marks.items w.atoms.atoms w.held.closure.log.items
  pub sorted : HaveListedSorts p.marks.items check.sorts vs
  pub truths : FitTruths w.atoms.atoms w.held.closure.log.items vs
  pub bounds : AreMet w.atoms.atoms (number_at vs) w.held.closure.log.items
  pub closure : IsWholeAndApart p.stack.now w.atoms.atoms w.held.closure.log.items c
  pub elements : (i : ℕ) → IsMarkedElement p.stack.now p.marks.items i → listed vs i ≡ Element (root_of c.closure.classes.unions (i + 2))
  pub numbers : (i : ℕ) → IsFit p.stack.now p.marks.items i → number_of_place p.stack.now.trees vs i ≡ number_there p.stack.now.trees w.held.bounds.bounds i
  pub ints : AreIntsTold p w

-- the terms at two places have different exact numbers
abbrev pub HaveOtherNumbers : List Tree → List Value → ℕ → ℕ → Type 0
HaveOtherNumbers ts vs i j = number_of_place ts vs i ≡ number_of_place ts vs j → ⊥

-- no two Ints among the arguments of the term at a place have one exact number, if it is a `distinct` and the log tells that it is true
abbrev pub KeepsInts : Parts → Progress → List Value → ℕ → Type 0
KeepsInts p w vs q =
    (is : List ℕ) → IsDistinct p.stack.now.trees q is → Gives w.atoms.atoms w.held.closure.log.items (Truth q) true → (j k : ℕ) → j < k → k < length is → IsFit p.stack.now p.marks.items (slice_index_or is j 0) → IsFit p.stack.now p.marks.items (slice_index_or is k 0)
    → HaveOtherNumbers p.stack.now.trees vs (slice_index_or is j 0) (slice_index_or is k 0)

-- each wide `xor` has the truth that it makes of those of its arguments, and the closure keeps those of each true wide `distinct` apart
pub record KeepsParts (p : Parts) (w : Progress) (c : Congruence) : Type 0 where
  pub xors : KeepsXors p.stack.now.trees w.atoms.atoms w.held.closure.log.items p.wide_xors.items
  pub apart : All (KeepsDistinct p.stack.now.trees w.atoms.atoms w.held.closure.log.items c) p.wide_distincts.items

-- the values are settled, wide `xor`s and `distinct`s are kept, the Ints of each true wide `distinct` have different numbers, and each asserted one is listed
pub record IsSettledCheck (p : Parts) (w : Progress) (c : Congruence) (vs : List Value) : Type 0 where
  pub values : AreSettledValues p w c vs
  pub parts : KeepsParts p w c
  pub ints_apart : All (KeepsInts p w vs) p.wide_distincts.items
  pub listed : AreAssertedDistincts p.stack.now p.wide_distincts.items

-- each marked term has the exact value that its operator makes
abbrev pub OperatorsHold : Parts → List Value → Type 0
OperatorsHold p vs = (q : ℕ) → is_marked p.marks.items q ≡ true → HasOperatorsValue (exact_value p.stack.now.trees vs) (tree_at p.stack.now.trees q)

-- the values are settled, and may be given; the grid gives the leaves theirs
pub record AreValuesBy (p : Parts) (w : Progress) (c : Congruence) (vs : List Value) : Type 0 where
  pub settled : AreSettledValues p w c vs
  pub size : length vs ≡ length p.stack.now.trees
  pub may_be : MayBeGiven (signature_of p.stack.now.frames) p.stack.now.trees p.marks.items vs
  pub have : HaveLeafValues p.stack.now p.marks.items (plain_grid w.held.bounds) (length p.stack.now.trees) vs

-- places are given the exact values of terms
pub record IsGivenBy (p : Parts) (vs : List Value) (gs : List Given) : Type 0 where
  pub exact : (sorts : List Sort) → AreSorts (signature_of p.stack.now.frames) p.stack.now.trees (length p.stack.now.trees) sorts → AreGivenExactly p.stack.now.trees p.marks.items sorts vs gs
  pub given : AreGiven (signature_of p.stack.now.frames) p.stack.now.trees gs
  pub values : OperatorsHold p vs → AreValues p.stack.now.trees gs (exact_value p.stack.now.trees vs)

-- ---- no public contract speaks of it

-- two marked Ints are given different values, or their equality has a number
abbrev pub AreTellable : Parts → Progress → List Given → ℕ → ℕ → Type 0
AreTellable p w gs i j =
    IsFit p.stack.now p.marks.items i → IsFit p.stack.now p.marks.items j → Contains w.atoms.atoms (Same i j) ⊎ (given_at gs i ≢ given_at gs j)

-- so are each two arguments of the term at a place, if it is a `distinct`
abbrev pub HasTellableInts : Parts → Progress → List Given → ℕ → Type 0
HasTellableInts p w gs q =
    (is : List ℕ) → IsDistinct p.stack.now.trees q is → (j k : ℕ) → j < k → k < length is → AreTellable p w gs (slice_index_or is j 0) (slice_index_or is k 0)
