-- What stands behind a log of steps, and what is cut from it by an undo.
use Rattle.std.specs.Prelude.{◌≡◌, ◌≢◌, ℕ, ◌<◌, ◌≤◌, ◌⊎◌, List, [], ◌∷◌, ◌++◌, length, take, slice_index_or, Contains, All}
use Rattle.point_closure.specs.declared.classes.Union.{Union}
use Rattle.point_closure.specs.declared.step.Step.{Step}
use Rattle.point_closure.specs.declared.step.Step.TheVariants.{Differ}
use Rattle.point_closure.specs.Closure.{Point, Pair}
use Rattle.point_closure.specs.Explained.{merged, step_at, StepsAreMerges}
use Rattle.point_closure.specs.declared.pending.Pending.{Pending}
use Rattle.point_closure.specs.declared.pending.Mark.{Mark}
use Rattle.point_closure.specs.declared.watch.Watch.{Watch}
use Rattle.point_closure.specs.declared.lists.Change.{Change}
use Rattle.point_closure.specs.declared.lists.Change.TheVariants.{Put}
use Rattle.point_closure.specs.Unions.{root_of}
use Rattle.point_closure.specs.Signature.{Filed}
use Rattle.point_closure.specs.Rest.{Begins, AreTied, AreFiled, UsesAre, WatchesAre, AreMet, PutsBelow, watch_at}

pub record State : Type 0 where
  pub unions : List Union
  pub hashes : List ℕ
  pub points : List ℕ
  pub uses : List Change
  pub watches : List Change
  pub pairs : List Watch
  pub met : List ℕ

abbrev pub filed_of : State → Filed
filed_of s = record { hashes = s.hashes; points = s.points }

-- each step that keeps points apart has its watched pair, and each watched pair its step
pub record AreWatched (log : List Step) (ws : List Watch) : Type 0 where
  pub steps : (s i j : ℕ) → s < length log → step_at log s ≡ Differ i j → (k : ℕ) × (k < length ws) × (watch_at ws k ≡ record { left = i; right = j; step = s })
  pub pairs : (k : ℕ) → k < length ws → ((watch_at ws k).step < length log) × (step_at log (watch_at ws k).step ≡ Differ (watch_at ws k).left (watch_at ws k).right)

-- what holds while pairs are pending and points of this list wait from this place on
pub record Stands (ps : List Point) (log : List Step) (s : State) (pending : List Pending) (list : List ℕ) (from : ℕ) : Type 0 where
  pub merges : (p : Pair) → Contains (merged log) p → AreTied s.unions pending p.left p.right
  pub filed : AreFiled ps s.unions (filed_of s) pending list from
  pub uses : UsesAre ps s.unions s.uses
  pub watched : WatchesAre s.pairs s.unions s.watches
  pub met : AreMet s.pairs s.unions s.met
  pub differs : AreWatched log s.pairs
  pub slots : All (PutsBelow (length s.pairs)) s.watches

abbrev pub IsAtRest : List Point → List Step → State → Type 0
IsAtRest ps log s = Stands ps log s [] [] 0

-- what was there at a mark
abbrev pub cut : Mark → State → State
cut m s = record {
  unions = take m.unions s.unions;
  hashes = take m.filed s.hashes;
  points = take m.filed s.points;
  uses = take m.uses s.uses;
  watches = take m.watches s.watches;
  pairs = take m.pairs s.pairs;
  met = take m.met s.met;
}

pub record Fits (m : Mark) (s : State) : Type 0 where
  pub unions : m.unions ≤ length s.unions
  pub hashes : m.filed ≤ length s.hashes
  pub points : m.filed ≤ length s.points
  pub uses : m.uses ≤ length s.uses
  pub watches : m.watches ≤ length s.watches
  pub pairs : m.pairs ≤ length s.pairs
  pub met : m.met ≤ length s.met

-- the mark of all that is there
pub record IsFull (m : Mark) (s : State) : Type 0 where
  pub unions : m.unions ≡ length s.unions
  pub hashes : m.filed ≡ length s.hashes
  pub points : m.filed ≡ length s.points
  pub uses : m.uses ≡ length s.uses
  pub watches : m.watches ≡ length s.watches
  pub pairs : m.pairs ≡ length s.pairs
  pub met : m.met ≡ length s.met

-- the one mark is not above the other
pub record IsBelow (m n : Mark) : Type 0 where
  pub unions : m.unions ≤ n.unions
  pub filed : m.filed ≤ n.filed
  pub uses : m.uses ≤ n.uses
  pub watches : m.watches ≤ n.watches
  pub pairs : m.pairs ≤ n.pairs
  pub met : m.met ≤ n.met

pub record Grows (s s' : State) : Type 0 where
  pub unions : Begins s.unions s'.unions
  pub hashes : Begins s.hashes s'.hashes
  pub points : Begins s.points s'.points
  pub uses : Begins s.uses s'.uses
  pub watches : Begins s.watches s'.watches
  pub pairs : Begins s.pairs s'.pairs
  pub met : Begins s.met s'.met

-- before each step its mark's state was at rest, for the steps before it
pub record IsMark (ps : List Point) (log : List Step) (s : State) (d : ℕ) (m : Mark) : Type 0 where
  pub fits : Fits m s
  pub rest : IsAtRest ps (take d log) (cut m s)
  pub merges : StepsAreMerges (take d log) (take m.unions s.unions)

pub record AreMarks (ps : List Point) (log : List Step) (s : State) (marks : List Mark) : Type 0 where
  pub count : length marks ≡ length log
  pub at : (d : ℕ) (m : Mark) → d < length marks → IsMark ps log s d (slice_index_or marks d m)
  pub ordered : (i d : ℕ) (m : Mark) → i ≤ d → d < length marks → IsBelow (slice_index_or marks i m) (slice_index_or marks d m)

-- one more pair is watched, in the lists of its points' classes
abbrev pub watched : State → Watch → List ℕ → State
watched s w met' = record {
  unions = s.unions;
  hashes = s.hashes;
  points = s.points;
  uses = s.uses;
  watches = (s.watches ++ Put (root_of s.unions w.left) (length s.pairs) ∷ []) ++ Put (root_of s.unions w.right) (length s.pairs) ∷ [];
  pairs = s.pairs ++ w ∷ [];
  met = met';
}

-- the pair is met at once where its points are in one class
abbrev pub IsMetAtOnce : State → Watch → List ℕ → Type 0
IsMetAtOnce s w met' = ((root_of s.unions w.left ≡ root_of s.unions w.right) × (met' ≡ s.met ++ length s.pairs ∷ [])) ⊎ ((root_of s.unions w.left ≢ root_of s.unions w.right) × (met' ≡ s.met))

pub record Watches (s s' : State) (w : Watch) : Type 0 where
  pub state : s' ≡ watched s w s'.met
  pub met : IsMetAtOnce s w s'.met
