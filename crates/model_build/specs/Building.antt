-- When tables can be made for given values, and what these tables give.
use Rattle.std.specs.Prelude.{◌≡◌, ℕ, ◌<◌, ◌&&◌, Bool, true, false, List, [], ◌∷◌, length, All, IsTrue, Option, Some, None}
use Rattle.smt_meaning.specs.declared.values.Value.{Value}
use Rattle.smt_meaning.specs.declared.values.Value.TheVariants.{Truth, Whole}
use Rattle.smt_meaning.specs.declared.values.Sort.{Sort}
use Rattle.smt_meaning.specs.declared.values.Sort.TheVariants.{Bool as Truths, Int as Ints, Free}
use Rattle.smt_meaning.specs.declared.values.Table.{Table}
use Rattle.smt_meaning.specs.declared.terms.Head.TheVariants.{Numeral, Theory, Symbol, Place}
use Rattle.smt_meaning.specs.Declaration.{Declaration}
use Rattle.smt_meaning.specs.Term.{Tree, Trees, node, none, more, tree_at, operate, in_range, value}
use Rattle.smt_meaning.specs.Signature.{tree_sort}
use Rattle.smt_meaning.specs.Interpretation.{has_sort, meaning}
use Rattle.model_build.specs.declared.given.Given.{Given}
use Rattle.model_build.specs.declared.given.Given.TheVariants.{Unmarked, InRange, PastRange}
use Rattle.model_build.specs.Given.{given_at, is_marked, is_past, arguments_given, IsApplication}

-- ---- what may be given

abbrev pub is_ints : Sort → Bool
is_ints Ints = true
is_ints Truths = false
is_ints (Free s) = false

-- a value of the sort, within the range or past it
abbrev pub is_given_of : Given → Sort → Bool
is_given_of Unmarked s = false
is_given_of (InRange v) s = has_sort v s && in_range v
is_given_of PastRange s = is_ints s

abbrev pub IsGivenOf : Given → Option Sort → Type 0
IsGivenOf g None = ⊥
IsGivenOf g (Some s) = IsTrue (is_given_of g s)

-- what the places are given, under a signature
pub record AreGiven (ds : List Declaration) (ts : List Tree) (gs : List Given) : Type 0 where
  pub size : length gs ≡ length ts
  -- each marked place is given a value of its term's sort
  pub sorts : (p : ℕ) → p < length ts → is_marked (given_at gs p) ≡ true → IsGivenOf (given_at gs p) (tree_sort ds (tree_at ts p))
  -- and the places of its arguments are marked
  pub closed : (p : ℕ) → p < length ts → is_marked (given_at gs p) ≡ true → All (λ g. is_marked g ≡ true) (arguments_given ts gs p)
  -- applications are given values within the range
  pub applications : (f p : ℕ) → IsApplication ts gs f p → is_past (given_at gs p) ≡ false

-- ---- values of terms, in which numbers have no bound

abbrev pub each : (Tree → Value) → Trees → List Value
each w none = []
each w (more u us) = w u ∷ each w us

-- a term that is no application has the value that its operator makes of its arguments' values; nothing is put in for a parameter
abbrev pub HasOperatorsValue : (Tree → Value) → Tree → Type 0
HasOperatorsValue w (node (Numeral n) us) = w (node (Numeral n) us) ≡ Whole n
HasOperatorsValue w (node (Theory o) us) = w (node (Theory o) us) ≡ operate o (each w us)
HasOperatorsValue w (node (Symbol f) us) = Unit {0}
HasOperatorsValue w (node (Place k) us) = w (node (Place k) us) ≡ Truth false

-- values of terms that agree with what the marked places are given
pub record AreValues (ts : List Tree) (gs : List Given) (w : Tree → Value) : Type 0 where
  pub within : (p : ℕ) (v : Value) → p < length ts → given_at gs p ≡ InRange v → w (tree_at ts p) ≡ v
  pub past : (p : ℕ) → p < length ts → given_at gs p ≡ PastRange → in_range (w (tree_at ts p)) ≡ false
  pub operators : (p : ℕ) → p < length ts → is_marked (given_at gs p) ≡ true → HasOperatorsValue w (tree_at ts p)

-- under these tables the terms at marked places have their values
abbrev pub GiveValues : List Tree → List Given → List Table → Type 0
GiveValues ts gs tables =
    (w : Tree → Value) → AreValues ts gs w → (p : ℕ) → p < length ts → is_marked (given_at gs p) ≡ true → value (meaning tables) (tree_at ts p) ≡ w (tree_at ts p)
