-- What holds while an explanation is found.
use Rattle.std.specs.Prelude.{◌≡◌, ℕ, ◌<◌, ◌≤◌, ◌⊎◌, Bool, true, false, List, [], ◌∷◌, ◌++◌, length, take, slice_index_or, slice_set, Contains}
use Rattle.point_closure.specs.declared.classes.Union.{Union}
use Rattle.point_closure.specs.declared.classes.Reason.TheVariants.{Alike, Step as AtStep}
use Rattle.point_closure.specs.declared.step.Step.{Step}
use Rattle.point_closure.specs.declared.explain.Goal.{Goal}
use Rattle.point_closure.specs.Closure.{Point, Pair, point_at, Equal}
use Rattle.point_closure.specs.Unions.{root_of}
use Rattle.point_closure.specs.Explained.{named, AreBefore, StepsAreMerges}

abbrev pub goal_of : ℕ → ℕ → Goal
goal_of i j = record { left = i; right = j }

-- the goals of two lists of points, one by one
abbrev pub paired : List ℕ → List ℕ → List Goal
paired [] js = []
paired (i ∷ is) [] = []
paired (i ∷ is) (j ∷ js) = goal_of i j ∷ paired is js

-- the union that is told of first, where it wasn't before
abbrev pub IsTold : List Point → Union → ℕ → List Bool → List Bool → List ℕ → List ℕ → List Goal → Type 0
IsTold ps u k told told' ss ss' more' =
    ((slice_index_or told k false ≡ true) × (told' ≡ told) × (ss' ≡ ss) × (more' ≡ []))
    ⊎ ((told' ≡ slice_set told k true)
    × (((s : ℕ) × (u.reason ≡ AtStep s) × (ss' ≡ ss ++ s ∷ []) × (more' ≡ []))
    ⊎ ((u.reason ≡ Alike) × (ss' ≡ ss) × (more' ≡ paired (point_at ps u.from).arguments (point_at ps u.to).arguments))))

-- a goal gives way to those before the union that joined its classes
pub record Tells (ps : List Point) (us : List Union) (goal : Goal) (gs gs' : List Goal) (told told' : List Bool) (ss ss' : List ℕ) : Type 0 where
  pub at : ℕ
  pub union : Union
  pub within : at < length us
  pub is_at : slice_index_or us at union ≡ union
  pub one : ℕ
  pub other : ℕ
  pub sides : ((one ≡ goal.left) × (other ≡ goal.right)) ⊎ ((one ≡ goal.right) × (other ≡ goal.left))
  pub one_root : root_of (take at us) one ≡ union.gone
  pub other_root : root_of (take at us) other ≡ union.kept
  pub more' : List Goal
  pub goals : gs' ≡ (gs ++ goal_of one union.from ∷ []) ++ goal_of other union.to ∷ more'
  pub is_told : IsTold ps union at told told' ss ss' more'

-- whatever gives the named pairs and the goals before this union gives the equality of two points
abbrev pub Gives : List Point → List Step → List Union → List Goal → List ℕ → ℕ → ℕ → ℕ → Type 0
Gives ps log us gs ss k i j =
    (pairs : List Pair) → ((p : Pair) → Contains (named log ss) p → Contains pairs p)
    → ((g : Goal) → Contains gs g → AreBefore us k g.left g.right → Equal ps pairs g.left g.right)
    → Equal ps pairs i j

pub record AreGoals (count : ℕ) (us : List Union) (gs : List Goal) : Type 0 where
  pub within : (g : Goal) → Contains gs g → (g.left < count) × (g.right < count)
  pub same : (g : Goal) → Contains gs g → AreBefore us (length us) g.left g.right

-- each step that is named is the reason of a union
abbrev pub AreReasons : List Union → List ℕ → Type 0
AreReasons us ss = (k d : ℕ) → k < length ss → (j : ℕ) × (j < length us) × ((c : Union) → (slice_index_or us j c).reason ≡ AtStep (slice_index_or ss k d))

pub record IsExplaining (ps : List Point) (us : List Union) (i j : ℕ) (gs : List Goal) (told : List Bool) (ss : List ℕ) : Type 0 where
  pub count : length us ≤ length told
  pub goals : AreGoals (length ps) us gs
  pub reasons : AreReasons us ss
  pub edges : (log : List Step) → StepsAreMerges log us → (k : ℕ) (d : Union) → k < length us → slice_index_or told k false ≡ true
      → Gives ps log us gs ss k (slice_index_or us k d).from (slice_index_or us k d).to
  pub given_ends : (log : List Step) → StepsAreMerges log us → Gives ps log us gs ss (length us) i j
