-- A wide `distinct` of terms that are no Bools and that is an assertion: its pairs get no atoms.
use Rattle.std.specs.Prelude.{◌≡◌, ◌≢◌, ℕ, ◌<◌, List, length, All, Contains, Some, slice_index_or}
use Rattle.smt_meaning.specs.declared.values.Sort.{Sort}
use Rattle.smt_meaning.specs.declared.values.Sort.TheVariants.{Bool as Truths}
use Rattle.smt_meaning.specs.declared.terms.Operator.TheVariants.{Distinct}
use Rattle.smt_meaning.specs.declared.terms.Head.{Head}
use Rattle.smt_meaning.specs.declared.terms.Head.TheVariants.{Theory}
use Rattle.smt_meaning.specs.Term.{tree_at}
use Rattle.smt_meaning.specs.Signature.{tree_sort}
use Rattle.smt_meaning.specs.Stack.{signature_of, assertions_of}
use Rattle.smt_meaning.specs.StackCommand.{Stack}
use Rattle.smt_meaning.specs.Atoms.{most_compared}

-- the term at this place has a sort, which isn't Bool
pub record IsNoBool (s : Stack) (p : ℕ) : Type 0 where
  pub sort : Sort
  pub has : tree_sort (signature_of s.frames) (tree_at s.trees p) ≡ Some sort
  pub other : sort ≢ Truths

-- so it is by the listed sorts
abbrev pub IsListedNoBool : List Sort → ℕ → Type 0
IsListedNoBool sorts p = slice_index_or sorts p Truths ≢ Truths

-- the term at a place, with this head and the arguments at these places, is such a `distinct`, and one of the assertions
pub record IsAssertedDistinct (s : Stack) (p : ℕ) (h : Head) (is : List ℕ) : Type 0 where
  pub operator : h ≡ Theory Distinct
  pub wide : most_compared < length is
  pub no_bools : All (IsNoBool s) is
  pub asserted : Contains (assertions_of s.frames) (tree_at s.trees p)
