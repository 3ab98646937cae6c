-- Arguments of applications whose values are past the range.
use Rattle.std.specs.Prelude.{◌≡◌, ℕ, ◌<◌, Bool, true, false, List, length, All, Some}
use Rattle.fraction128.specs.Whole.{is_in_range}
use Rattle.smt_meaning.specs.declared.values.Sort.TheVariants.{Int as Ints}
use Rattle.smt_meaning.specs.declared.terms.Head.{Head}
use Rattle.smt_meaning.specs.declared.terms.Head.TheVariants.{Symbol}
use Rattle.smt_meaning.specs.Term.{Tree, tree_at}
use Rattle.smt_meaning.specs.TreeShape.{place_of}
use Rattle.smt_meaning.specs.Signature.{tree_sort}
use Rattle.smt_meaning.specs.Linear.{Form, leaves, linear_form}
use Rattle.smt_meaning.specs.Stack.{signature_of}
use Rattle.smt_meaning.specs.StackCommand.{Stack}
use Rattle.smt_meaning.specs.Ranges.{IsIntArgument, form_at}
use Rattle.smt_laws.specs.Flat.{flat}
use Rattle.model_eval.specs.Walk.{is_marked}
use Rattle.sum_bounds.specs.Bounds.{State, leaf_values}
use Rattle.sum_bounds.specs.Written.{HasLeaf}
use Rattle.bound_log.specs.Values.{numbers_of}

-- the term has a variable, whose value is whole
pub record HasWhole (b : State) (term : ℕ) : Type 0 where
  pub leaf : HasLeaf b.columns term
  pub is_whole : (leaf_values b term).denominator ≡ 1

-- so have the leaves of a term
abbrev pub HaveWhole : List Tree → State → Tree → Type 0
HaveWhole ts b t = All (λ (u : Tree). HasWhole b (place_of u ts)) (leaves t)

-- the value of the form at these numbers is past the range
abbrev pub IsPastAt : State → Form → Type 0
IsPastAt b f = is_in_range (form_at (numbers_of b) f) ≡ false

-- the leaves of a marked Int have whole values, at which its form is past the range
pub record IsPastInt (s : Stack) (marks : List Bool) (b : State) (p : ℕ) : Type 0 where
  pub within : p < length s.trees
  pub marked : is_marked marks p ≡ true
  pub is_int : tree_sort (signature_of s.frames) (tree_at s.trees p) ≡ Some Ints
  pub whole : HaveWhole s.trees b (tree_at s.trees p)
  pub past : IsPastAt b (linear_form s.trees (tree_at s.trees p))

-- of a declared symbol
abbrev pub IsSymbol : Head → Type 0
IsSymbol h = (f : ℕ) × (h ≡ Symbol f)

-- such an argument of an application
pub record IsPastArgument (s : Stack) (b : State) (p : ℕ) : Type 0 where
  pub argument : IsIntArgument s.trees (flat s.frames) (tree_at s.trees p) p
  pub whole : HaveWhole s.trees b (tree_at s.trees p)
  pub past : IsPastAt b (linear_form s.trees (tree_at s.trees p))
