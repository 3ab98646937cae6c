-- Terms as points: points 0 and 1 are the truth values, the term at place t is point t + 2.
use Rattle.std.specs.Prelude.{◌≡◌, ℕ, ◌+◌, ◌<◌, Bool, true, false, List, [], ◌∷◌, length, map, All}
use Rattle.smt_meaning.specs.declared.terms.Operator.{Operator}
use Rattle.smt_meaning.specs.declared.terms.Operator.TheVariants.{True, False}
use Rattle.smt_meaning.specs.declared.terms.Head.{Head}
use Rattle.smt_meaning.specs.declared.terms.Head.TheVariants.{Theory, Symbol}
use Rattle.smt_meaning.specs.Term.{Tree, tree_at}
use Rattle.term_store.specs.Terms.{tree_with}
use Rattle.point_closure.specs.declared.shape.Shape.{Shape}
use Rattle.point_closure.specs.declared.shape.Shape.TheVariants.{Leaf, Truth, Application}
use Rattle.point_closure.specs.Closure.{Point, point_at}

abbrev pub point_number : ℕ → ℕ
point_number t = t + 2

abbrev pub operator_shape : Operator → Shape
operator_shape True = Truth true
operator_shape False = Truth false
operator_shape _ = Leaf

-- what equality sees of a term with this head, with or without arguments
abbrev pub plain_shape : Head → Shape
plain_shape (Theory o) = operator_shape o
plain_shape _ = Leaf

abbrev pub applied_shape : Head → Shape
applied_shape (Symbol f) = Application f
applied_shape _ = Leaf

abbrev pub shape_for : Head → Bool → Shape
shape_for h true = applied_shape h
shape_for h false = plain_shape h

-- the points of the arguments, where equality sees them
abbrev pub arguments_for : Shape → List ℕ → List ℕ
arguments_for (Application f) ts = map point_number ts
arguments_for (Truth b) ts = []
arguments_for Leaf ts = []

abbrev pub truth_number : Bool → ℕ
truth_number true = 0
truth_number false = 1

abbrev pub is_applied : List ℕ → Bool
is_applied [] = false
is_applied (t ∷ ts) = true

-- the point of a term with this head over the terms at these places
abbrev pub point_for : Head → List ℕ → Point
point_for h ts = record { shape = shape_for h (is_applied ts); arguments = arguments_for (shape_for h (is_applied ts)) ts }

-- the term at a place is a point with its head and the points of its arguments
pub record IsSeen (ts : List Tree) (ps : List Point) (t : ℕ) : Type 0 where
  pub head : Head
  pub arguments : List ℕ
  pub tree : tree_at ts t ≡ tree_with ts head arguments
  pub earlier : All (λ i. i < t) arguments
  pub point : point_at ps (t + 2) ≡ point_for head arguments

-- each term that was read
abbrev pub AreSeen : List Tree → List Point → Type 0
AreSeen ts ps = (t : ℕ) → t + 2 < length ps → IsSeen ts ps t
