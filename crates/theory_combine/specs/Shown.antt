-- What a search can show of its atoms, and where a number left the range.
use Rattle.std.specs.Prelude.{◌≡◌, ℕ, ◌<◌, Bool, true, List, length, All, Option, Some, IfSome}
use Rattle.fraction128.specs.declared.Summand.{Summand as GridSummand}
use Rattle.fraction128.specs.declared.Line.{Line}
use Rattle.smt_meaning.specs.declared.values.Sort.TheVariants.{Int as Ints}
use Rattle.smt_meaning.specs.declared.clauses.Atom.{Atom}
use Rattle.smt_meaning.specs.declared.reports.RangeSeen.{RangeSeen}
use Rattle.smt_meaning.specs.Term.{tree_at}
use Rattle.smt_meaning.specs.Signature.{tree_sort}
use Rattle.smt_meaning.specs.Stack.{signature_of}
use Rattle.smt_meaning.specs.StackCommand.{Stack}
use Rattle.smt_meaning.specs.CheckAtoms.{IsPartOfStack, IsCheckAtom, IsLeaf, AreBranches, AreCheckSums, is_leaf}
use Rattle.smt_meaning.specs.Ranges.{LeavesRange}
use Rattle.smt_laws.specs.Flat.{flat}
use Rattle.search_port.specs.State.{ComparesInts}
use Rattle.check_atoms.specs.OfStack.{bound_terms}
use Rattle.model_eval.specs.Walk.{is_marked}

-- each marked term is a part of an assertion
abbrev pub AreOfAssertions : Stack → List Bool → Type 0
AreOfAssertions s marks = (p : ℕ) → is_marked marks p ≡ true → IsPartOfStack s.frames (tree_at s.trees p)

-- an atom of the check with these branches
abbrev pub IsOfCheck : Stack → List Line → Atom → Type 0
IsOfCheck s branches a = IsCheckAtom s.trees (flat s.frames) branches a

-- it leaves the range over variables of these sums and the atoms of the check with these branches
abbrev pub IsLeft : Stack → List (List GridSummand) → List Line → RangeSeen → Type 0
IsLeft s sums branches seen = LeavesRange s.trees (flat s.frames) sums (IsCheckAtom s.trees (flat s.frames) branches) seen

-- the sum of a bound is over leaves
abbrev pub IsOverLeaves : Stack → Atom → Type 0
IsOverLeaves s a = All (IsLeaf s.trees (flat s.frames)) (bound_terms a)

-- the variables are of sums of the check, the branches are over them, the atoms are of the check with the branches and over leaves, and what was seen to leave the range does
pub record AreShown (s : Stack) (sums : List (List GridSummand)) (rows : List Line) (left : Option RangeSeen) (table : List Atom) : Type 0 where
  pub sums_known : AreCheckSums s.trees (flat s.frames) sums
  pub branches : AreBranches s.trees (flat s.frames) sums rows
  pub atoms : All (IsOfCheck s rows) table
  pub seen : IfSome left (IsLeft s sums rows)
  pub leaves : All (IsOverLeaves s) table

-- an atom that may get a number: an equality only if both its sides are Ints
pub record IsToShow (s : Stack) (rows : List Line) (a : Atom) : Type 0 where
  pub of_check : IsOfCheck s rows a
  pub leaves : IsOverLeaves s a
  pub ints : ComparesInts s.trees (flat s.frames) a

-- a marked Int that is no numeral, sum, difference or product
pub record IsMarkedLeaf (s : Stack) (marks : List Bool) (p : ℕ) : Type 0 where
  pub within : p < length s.trees
  pub marked : is_marked marks p ≡ true
  pub is_int : tree_sort (signature_of s.frames) (tree_at s.trees p) ≡ Some Ints
  pub leaf : is_leaf (tree_at s.trees p) ≡ true
