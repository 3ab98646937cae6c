-- The congruence closure of pairs of points: what is equal wherever the pairs are.
-- A point is a term as equality sees it. Points 0 and 1 stand for the truth values, point t + 2 for the term at place t.
use Rattle.std.specs.Prelude.{◌≡◌, ℕ, ◌<◌, Bool, true, false, List, [], ◌∷◌, length, slice_index, slice_index_or, Contains, IsTrue, All}
use Rattle.smt_meaning.specs.declared.terms.Operator.{Operator}
use Rattle.smt_meaning.specs.declared.terms.Operator.TheVariants.{True, False}
use Rattle.smt_meaning.specs.declared.terms.Head.TheVariants.{Theory, Symbol}
use Rattle.smt_meaning.specs.Term.{Tree, node, none, tree_at}
use Rattle.smt_meaning.specs.Nodes.{pick}
use Rattle.point_closure.specs.declared.shape.Shape.{Shape}
use Rattle.point_closure.specs.declared.shape.Shape.TheVariants.{Leaf, Truth, Application}

-- what stands at the head of a point, as far as equality sees it, and the points of its arguments, which stand before it
pub record Point : Type 0 where
  pub shape : Shape
  pub arguments : List ℕ

pub record Pair : Type 0 where
  pub left : ℕ
  pub right : ℕ

abbrev pub point_at : List Point → ℕ → Point
point_at ps i = slice_index_or ps i (record { shape = Leaf; arguments = [] })

-- each point's arguments stand before it
abbrev pub ArePoints : List Point → Type 0
ArePoints ps = (k : ℕ) (d : Point) → k < length ps → All (λ i. i < k) (slice_index_or ps k d).arguments

-- equal arguments make equal points: so it is for applications of a declared function, and for the truth values
abbrev pub takes_part : Shape → Bool
takes_part Leaf = false
takes_part (Truth b) = true
takes_part (Application f) = true

-- two points with one symbol
pub record AreAlike (p q : Point) : Type 0 where
  pub shape : p.shape ≡ q.shape
  pub takes : IsTrue (takes_part p.shape)
  pub count : length p.arguments ≡ length q.arguments

-- the least equivalence of points that holds the pairs and in which applications of one symbol to equal arguments are equal
pub data Equal (ps : List Point) (pairs : List Pair) : ℕ → ℕ → Type 0 where
  given : {i j : ℕ} → Contains pairs (record { left = i; right = j }) → Equal ps pairs i j
  same : {i : ℕ} → Equal ps pairs i i
  turned : {i j : ℕ} → Equal ps pairs i j → Equal ps pairs j i
  joined : {i j k : ℕ} → Equal ps pairs i j → Equal ps pairs j k → Equal ps pairs i k
  applied : {i j : ℕ} → AreAlike (point_at ps i) (point_at ps j)
      → ((k : ℕ) → k < length (point_at ps i).arguments → Equal ps pairs (slice_index (point_at ps i).arguments k) (slice_index (point_at ps j).arguments k))
      → Equal ps pairs i j

-- ---- points of a list of trees

abbrev pub truth_operator : Bool → Operator
truth_operator true = True
truth_operator false = False

-- the trees of all points: the two truth values, and then the terms
abbrev pub with_truths : List Tree → List Tree
with_truths ts = node (Theory True) none ∷ node (Theory False) none ∷ ts

abbrev pub IsPointOf : List Tree → Point → Tree → Type 0
IsPointOf all p t = elim p.shape [
  | Leaf ↦ Unit {0}
  | Truth b ↦ t ≡ node (Theory (truth_operator b)) none
  | Application f ↦ t ≡ node (Symbol f) (pick all p.arguments)
]

-- these points are the truth values and the first terms
abbrev pub AreRead : List Tree → List Point → Type 0
AreRead ts ps = (i : ℕ) → i < length ps → IsPointOf (with_truths ts) (point_at ps i) (tree_at (with_truths ts) i)
