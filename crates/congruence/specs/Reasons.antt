-- The literals for which steps were recorded.
use Rattle.std.specs.Prelude.{◌≡◌, ◌≢◌, ℕ, ◌<◌, true, List, length, ◌∷◌, map, slice_index_or, Contains}
use Rattle.literals.specs.Signed.{Signed, opposite}
use Rattle.point_closure.specs.declared.step.Step.{Step}
use Rattle.point_closure.specs.declared.step.Step.TheVariants.{Differ}
use Rattle.point_closure.specs.declared.watch.Watch.{Watch}
use Rattle.point_closure.specs.Closure.{Point, Equal}
use Rattle.point_closure.specs.Explained.{merged, step_at, Explains}

abbrev pub reason_at : List Signed → ℕ → Signed
reason_at rs s = slice_index_or rs s (record { atom = 0; positive = true })

abbrev pub negation_at : List Signed → ℕ → Signed
negation_at rs s = opposite (reason_at rs s)

-- the same literals, however often
pub record HaveTheSame (ls ms : List Signed) : Type 0 where
  pub all : (l : Signed) → Contains ls l → Contains ms l
  pub only : (l : Signed) → Contains ms l → Contains ls l

-- no literal stands twice
abbrev pub NoneTwice : List Signed → Type 0
NoneTwice ls = (j k : ℕ) (d : Signed) → j < k → k < length ls → slice_index_or ls j d ≢ slice_index_or ls k d

-- the same literals, each once
pub record AreEachOnce (ls ms : List Signed) : Type 0 where
  pub same : HaveTheSame ls ms
  pub once : NoneTwice ms

-- the reasons of merges that give the equality of two points, each once
pub record AreReasonsOf (ps : List Point) (log : List Step) (rs : List Signed) (i j : ℕ) (ls : List Signed) : Type 0 where
  pub steps : List ℕ
  pub explains : Explains ps log steps i j
  pub literals : AreEachOnce (map (reason_at rs) steps) ls

-- not all reasons hold of merges that give the equality of the truth values; each is there once
pub record IsTruthConflict (ps : List Point) (log : List Step) (rs : List Signed) (ls : List Signed) : Type 0 where
  pub steps : List ℕ
  pub explains : Explains ps log steps 0 1
  pub literals : AreEachOnce (map (negation_at rs) steps) ls

-- not all reasons hold of a step that keeps two points apart, and of merges that give their equality; each is there once
pub record IsStepConflict (ps : List Point) (log : List Step) (rs : List Signed) (ls : List Signed) : Type 0 where
  pub differ : ℕ
  pub within : differ < length log
  pub left : ℕ
  pub right : ℕ
  pub is : step_at log differ ≡ Differ left right
  pub steps : List ℕ
  pub explains : Explains ps log steps left right
  pub literals : AreEachOnce (negation_at rs differ ∷ map (negation_at rs) steps) ls

-- a step keeps these two points apart, which are equal
pub record IsDiffering (ps : List Point) (log : List Step) (w : Watch) : Type 0 where
  pub within : w.step < length log
  pub left : w.left < length ps
  pub right : w.right < length ps
  pub step : step_at log w.step ≡ Differ w.left w.right
  pub equal : Equal ps (merged log) w.left w.right
