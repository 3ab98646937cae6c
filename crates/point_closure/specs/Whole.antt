-- What holds of a closure.
use Rattle.std.specs.Prelude.{◌≡◌, ℕ, ◌+◌, ◌<◌, ◌≤◌, ◌⊎◌, List, All, length, [], ◌∷◌, ◌++◌, Contains, ◌↔◌}
use Rattle.point_closure.specs.declared.step.Step.{Step}
use Rattle.point_closure.specs.declared.step.Step.TheVariants.{Merge, Differ}
use Rattle.point_closure.specs.Closure.{Point, Equal}
use Rattle.point_closure.specs.Unions.{root_of}
use Rattle.point_closure.specs.Explained.{AlikeAreCongruent, StepsAreMerges, merged, step_at}
use Rattle.point_closure.specs.declared.closure.Closure.{Closure}
use Rattle.point_closure.specs.declared.pending.Mark.{Mark}
use Rattle.point_closure.specs.declared.watch.Watch.{Watch}
use Rattle.point_closure.specs.Sound.{IsPending}
use Rattle.point_closure.specs.Rest.{PutsBelow, TakesPart, watch_at}
use Rattle.point_closure.specs.State.{State, IsAtRest, AreMarks, Grows}

abbrev pub state_of : Closure → State
state_of c = record {
  unions = c.classes.unions;
  hashes = c.table.hashes;
  points = c.table.points;
  uses = c.uses.changes;
  watches = c.watches.changes;
  pairs = c.pairs.items;
  met = c.met.items;
}

-- what a state says of points agrees with them, and each union has its reason
pub record AreParts (ps : List Point) (log : List Step) (s : State) (ms : List Mark) : Type 0 where
  pub owners : All (PutsBelow (length ps)) s.uses
  pub slots : All (PutsBelow (length s.pairs)) s.watches
  pub ends : All (λ (w : Watch). (w.left < length ps) × (w.right < length ps)) s.pairs
  pub filed : All (TakesPart ps) s.points
  pub alike : AlikeAreCongruent ps s.unions
  pub merges : StepsAreMerges log s.unions
  pub marks : AreMarks ps log s ms

-- there is a class, a weight and a list of each sort for each point
pub record IsSized (c : Closure) : Type 0 where
  pub points : length c.graph ≡ c.classes.count
  pub weights : length c.graph ≤ length c.weights.items
  pub use_lists : length c.graph ≤ c.uses.count
  pub watch_lists : length c.graph ≤ c.watches.count

-- its parts agree, at rest or not
pub record IsClosure (c : Closure) : Type 0 where
  pub sized : IsSized c
  pub pending : All (IsPending c.graph c.classes.unions c.steps.items) c.pending.items
  pub parts : AreParts c.graph c.steps.items (state_of c) c.marks.items

-- what holds between the calls
pub record IsWhole (c : Closure) : Type 0 where
  pub closure : IsClosure c
  pub rest : IsAtRest c.graph c.steps.items (state_of c)

-- with the same points, steps and marks, and all that was there
pub record Keeps (before now : Closure) : Type 0 where
  pub graph : now.graph ≡ before.graph
  pub steps : now.steps.items ≡ before.steps.items
  pub marks : now.marks.items ≡ before.marks.items
  pub grows : Grows (state_of before) (state_of now)

-- two points came into one class, or were in one and nothing changed
pub record IsUnited (before now : Closure) (i j : ℕ) : Type 0 where
  pub same : root_of now.classes.unions i ≡ root_of now.classes.unions j
  pub kept : (a b : ℕ) → root_of before.classes.unions a ≡ root_of before.classes.unions b → root_of now.classes.unions a ≡ root_of now.classes.unions b
  pub goes : ((now.classes.unions ≡ before.classes.unions) × (now.pending.items ≡ before.pending.items)) ⊎ (length now.classes.unions ≡ length before.classes.unions + 1)

-- the step is the last one, at this number
abbrev pub IsLast : List Step → ℕ → Step → Type 0
IsLast steps index step = (front : List Step) × (steps ≡ front ++ step ∷ []) × (index ≡ length front)

-- the step's points are among so many
abbrev pub IsWithin : ℕ → Step → Type 0
IsWithin n (Merge i j) = (i < n) × (j < n)
IsWithin n (Differ i j) = (i < n) × (j < n)

-- these are the numbers of the watched pairs whose points are equal
abbrev pub AreEqualPairs : List Point → List Step → List Watch → List ℕ → Type 0
AreEqualPairs ps log ws met = (k : ℕ) → Contains met k ↔ ((k < length ws) × Equal ps (merged log) (watch_at ws k).left (watch_at ws k).right)

-- no step keeps equal points apart
abbrev pub AreStepsApart : List Point → List Step → Type 0
AreStepsApart ps log = (s i j : ℕ) → s < length log → step_at log s ≡ Differ i j → Equal ps (merged log) i j → ⊥
