-- Laws of the congruence closure.
use Rattle.std.specs.Prelude.{◌≡◌, ℕ, ◌<◌, List, length, Contains, slice_index}
use Rattle.point_closure.specs.declared.classes.Union.{Union}
use Rattle.point_closure.specs.declared.step.Step.{Step}
use Rattle.point_closure.specs.Unions.{root_of, AreUnions}
use Rattle.point_closure.specs.Explained.{merged, AlikeAreCongruent, StepsAreMerges}
use Rattle.smt_meaning.specs.declared.values.Value.{Value}
use Rattle.smt_meaning.specs.Term.{Tree, tree_at, Interpretation, value}
use Rattle.point_closure.specs.Closure.{Point, Pair, point_at, AreAlike, Equal, AreRead, with_truths}

-- the value of a point
abbrev pub point_value : List Tree → Interpretation → ℕ → Value
point_value ts I i = value I (tree_at (with_truths ts) i)

-- an interpretation gives the two points of each pair one value
abbrev pub MakesPairsTrue : List Tree → Interpretation → List Pair → Type 0
MakesPairsTrue ts I pairs = (p : Pair) → Contains pairs p → point_value ts I p.left ≡ point_value ts I p.right

-- an interpretation that makes the pairs true gives equal points one value
abbrev pub EqualPointsHaveOneValue : Type 0
EqualPointsHaveOneValue =
    (ts : List Tree) (ps : List Point) (pairs : List Pair) (I : Interpretation) (i j : ℕ)
    → AreRead ts ps → MakesPairsTrue ts I pairs → Equal ps pairs i j → point_value ts I i ≡ point_value ts I j

-- ---- what shows that points are not equal

-- numbers of classes that the pairs and the applications of one symbol to arguments of equal numbers respect
pub record Respects (ps : List Point) (pairs : List Pair) (class : ℕ → ℕ) : Type 0 where
  pub pairs_in_one : (p : Pair) → Contains pairs p → class p.left ≡ class p.right
  pub congruent : (i j : ℕ) → AreAlike (point_at ps i) (point_at ps j)
      → ((k : ℕ) → k < length (point_at ps i).arguments → class (slice_index (point_at ps i).arguments k) ≡ class (slice_index (point_at ps j).arguments k))
      → class i ≡ class j

-- points of different classes are not equal: the closure is the least such
abbrev pub EqualPointsAreInOneClass : Type 0
EqualPointsAreInOneClass =
    (ps : List Point) (pairs : List Pair) (class : ℕ → ℕ) (i j : ℕ) → Respects ps pairs class → Equal ps pairs i j → class i ≡ class j

-- unions that are justified by the steps put only equal points into one class
abbrev pub ClassesAreEqual : Type 0
ClassesAreEqual =
    (ps : List Point) (log : List Step) (us : List Union) (i j : ℕ) → AreUnions (length ps) us → AlikeAreCongruent ps us → StepsAreMerges log us
    → root_of us i ≡ root_of us j → Equal ps (merged log) i j

-- classes at rest: each merged pair is in one class, and so are applications of one symbol to arguments of the same classes
pub record AreAtRest (ps : List Point) (log : List Step) (us : List Union) : Type 0 where
  pub merges : (p : Pair) → Contains (merged log) p → root_of us p.left ≡ root_of us p.right
  pub congruent : (i j : ℕ) → AreAlike (point_at ps i) (point_at ps j)
      → ((k : ℕ) → k < length (point_at ps i).arguments → root_of us (slice_index (point_at ps i).arguments k) ≡ root_of us (slice_index (point_at ps j).arguments k))
      → root_of us i ≡ root_of us j

-- classes that are justified and at rest are the closure
abbrev pub ClassesAreTheClosure : Type 0
ClassesAreTheClosure =
    (ps : List Point) (log : List Step) (us : List Union) (i j : ℕ) → AreUnions (length ps) us → AlikeAreCongruent ps us → StepsAreMerges log us → AreAtRest ps log us
    → (root_of us i ≡ root_of us j → Equal ps (merged log) i j) × (Equal ps (merged log) i j → root_of us i ≡ root_of us j)
