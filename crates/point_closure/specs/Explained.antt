-- What was recorded, and when unions of classes are justified by it.
use Rattle.std.specs.Prelude.{◌≡◌, ℕ, ◌<◌, ◌⊎◌, List, [], ◌∷◌, ◌++◌, length, take, slice_index, slice_index_or}
use Rattle.point_closure.specs.declared.classes.Union.{Union}
use Rattle.point_closure.specs.declared.classes.Reason.TheVariants.{Alike, Step as AtStep}
use Rattle.point_closure.specs.declared.step.Step.{Step}
use Rattle.point_closure.specs.declared.step.Step.TheVariants.{Merge, Differ}
use Rattle.point_closure.specs.Closure.{Point, Pair, point_at, AreAlike, Equal}
use Rattle.point_closure.specs.Unions.{root_of}

abbrev pub step_at : List Step → ℕ → Step
step_at log s = slice_index_or log s (Differ 0 0)

-- the pair that a step merges, if any
abbrev pub step_pairs : Step → List Pair
step_pairs (Merge i j) = record { left = i; right = j } ∷ []
step_pairs (Differ i j) = []

-- the pairs that were merged
abbrev pub merged : List Step → List Pair
merged [] = []
merged (s ∷ ss) = step_pairs s ++ merged ss

-- the pairs that were merged at these steps
abbrev pub named : List Step → List ℕ → List Pair
named log [] = []
named log (s ∷ ss) = step_pairs (step_at log s) ++ named log ss

-- the step merges the two points
abbrev pub IsMerge : List Step → ℕ → ℕ → ℕ → Type 0
IsMerge log s i j = (s < length log) × ((step_at log s ≡ Merge i j) ⊎ (step_at log s ≡ Merge j i))

-- the two points are in one class before this union
abbrev pub AreBefore : List Union → ℕ → ℕ → ℕ → Type 0
AreBefore us k i j = root_of (take k us) i ≡ root_of (take k us) j

-- two points are applications of one symbol to arguments that are in one class before this union, one by one
pub record AreCongruent (ps : List Point) (us : List Union) (k i j : ℕ) : Type 0 where
  pub alike : AreAlike (point_at ps i) (point_at ps j)
  pub arguments : (a : ℕ) → a < length (point_at ps i).arguments → AreBefore us k (slice_index (point_at ps i).arguments a) (slice_index (point_at ps j).arguments a)

-- each union of alike points is one of congruent points
abbrev pub AlikeAreCongruent : List Point → List Union → Type 0
AlikeAreCongruent ps us =
    (k : ℕ) (d : Union) → k < length us → (slice_index_or us k d).reason ≡ Alike → AreCongruent ps us k (slice_index_or us k d).from (slice_index_or us k d).to

-- each union of merged points is one of a merge
abbrev pub StepsAreMerges : List Step → List Union → Type 0
StepsAreMerges log us =
    (k s : ℕ) (d : Union) → k < length us → (slice_index_or us k d).reason ≡ AtStep s → IsMerge log s (slice_index_or us k d).from (slice_index_or us k d).to

-- these steps are merges, and their pairs make the two points equal
pub record Explains (ps : List Point) (log : List Step) (ss : List ℕ) (i j : ℕ) : Type 0 where
  pub steps : (k d : ℕ) → k < length ss → slice_index_or ss k d < length log
  pub equal : Equal ps (named log ss) i j
