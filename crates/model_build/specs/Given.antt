-- What places are given, and where this can't be what tables give.
use Rattle.std.specs.Prelude.{◌≡◌, ◌≢◌, ℕ, ◌<◌, ◌||◌, Bool, true, false, List, [], ◌∷◌, length, IsTrue, MatchBool, slice_index_or}
use Rattle.smt_meaning.specs.declared.terms.Head.{Head}
use Rattle.smt_meaning.specs.declared.terms.Head.TheVariants.{Symbol}
use Rattle.smt_meaning.specs.Term.{Tree, Trees, node, none, more, tree_at}
use Rattle.smt_meaning.specs.TreeShape.{place_of}
use Rattle.model_build.specs.declared.given.Given.{Given}
use Rattle.model_build.specs.declared.given.Given.TheVariants.{Unmarked, InRange, PastRange}

abbrev pub given_at : List Given → ℕ → Given
given_at gs i = slice_index_or gs i Unmarked

abbrev pub is_marked : Given → Bool
is_marked Unmarked = false
is_marked (InRange v) = true
is_marked PastRange = true

abbrev pub is_past : Given → Bool
is_past Unmarked = false
is_past (InRange v) = false
is_past PastRange = true

abbrev pub has_past : List Given → Bool
has_past [] = false
has_past (g ∷ gs) = is_past g || has_past gs

abbrev pub head_of : Tree → Head
head_of (node h us) = h

abbrev pub arguments_of : Tree → Trees
arguments_of (node h us) = us

-- what the places of these trees are given
abbrev pub givens : List Tree → List Given → Trees → List Given
givens ts gs none = []
givens ts gs (more u us) = given_at gs (place_of u ts) ∷ givens ts gs us

-- what the arguments of the term at a place are given
abbrev pub arguments_given : List Tree → List Given → ℕ → List Given
arguments_given ts gs p = givens ts gs (arguments_of (tree_at ts p))

-- an application of the declared symbol stands at this marked place
pub record IsApplication (ts : List Tree) (gs : List Given) (f p : ℕ) : Type 0 where
  pub within : p < length ts
  pub marked : is_marked (given_at gs p) ≡ true
  pub symbol : head_of (tree_at ts p) ≡ Symbol f

-- a table gives applications with these arguments one value: each list has a number past the range, or they are in the range and equal
abbrev pub AreAlike : List Given → List Given → Type 0
AreAlike gs hs = MatchBool (has_past gs) (IsTrue (has_past hs)) (gs ≡ hs)

-- two applications of one symbol, with arguments for which a table gives one value, that are given different values
pub record IsClash (ts : List Tree) (gs : List Given) (p q : ℕ) : Type 0 where
  pub symbol : ℕ
  pub first : IsApplication ts gs symbol p
  pub second : IsApplication ts gs symbol q
  pub alike : AreAlike (arguments_given ts gs p) (arguments_given ts gs q)
  pub differ : given_at gs p ≢ given_at gs q

abbrev pub HasNoClash : List Tree → List Given → Type 0
HasNoClash ts gs = (p q : ℕ) → IsClash ts gs p q → ⊥
