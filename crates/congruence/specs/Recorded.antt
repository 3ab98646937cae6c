-- What holds of recorded steps and their reasons, over the terms of a list.
use Rattle.std.specs.Prelude.{◌≡◌, ℕ, ◌+◌, ◌^◌, ◌<◌, ◌≤◌, ◌⊎◌, List, [], ◌∷◌, ◌++◌, length, Result, OnOk, OnErr}
use Rattle.smt_meaning.specs.Term.{Tree, tree_at, Interpretation, value}
use Rattle.literals.specs.Signed.{Signed}
use Rattle.point_closure.specs.declared.step.Step.{Step}
use Rattle.point_closure.specs.Closure.{Point, Equal}
use Rattle.point_closure.specs.Explained.{merged}
use Rattle.point_closure.specs.Laws.{MakesPairsTrue}
use Rattle.point_closure.specs.Whole.{IsWhole, AreStepsApart}
use Rattle.congruence.specs.declared.congruence.Congruence.{Congruence}
use Rattle.congruence.specs.Reasons.{IsTruthConflict, IsStepConflict}

-- the closure is at rest, each step has its reason, and the truth values are there
pub record IsRecorded (c : Congruence) : Type 0 where
  pub whole : IsWhole c.closure
  pub reasons : length c.reasons.items ≡ length c.closure.steps.items
  pub truths : 2 ≤ length c.closure.graph
  pub few : length c.closure.graph < 2 ^ 32

-- one step more is recorded for this reason, or all is as before
pub record AddsStep {T E : Type 0} (old new : Congruence) (step : Step) (reason : Signed) (r : Result T E) : Type 0 where
  pub recorded : IsRecorded new
  pub graph : new.closure.graph ≡ old.closure.graph
  pub ok : OnOk r (new.closure.steps.items ≡ old.closure.steps.items ++ step ∷ [])
  pub reasons : OnOk r (new.reasons.items ≡ old.reasons.items ++ reason ∷ [])
  pub err : OnErr r (new.closure.steps.items ≡ old.closure.steps.items)
  pub same : OnErr r (new.reasons.items ≡ old.reasons.items)

-- the merges give the equality of two terms
abbrev pub AreEqualTerms : Congruence → ℕ → ℕ → Type 0
AreEqualTerms c a b = Equal c.closure.graph (merged c.closure.steps.items) (a + 2) (b + 2)

-- whoever makes the merged pairs true gives two terms one value
abbrev pub HaveOneValue : List Tree → Congruence → ℕ → ℕ → Type 0
HaveOneValue ts c a b = (I : Interpretation) → MakesPairsTrue ts I (merged c.closure.steps.items) → value I (tree_at ts a) ≡ value I (tree_at ts b)

-- the truth values are not equal, and no step keeps equal points apart
abbrev pub IsConsistent : List Point → List Step → Type 0
IsConsistent ps log = (Equal ps (merged log) 0 1 → ⊥) × AreStepsApart ps log

abbrev pub IsConflict : Congruence → List Signed → Type 0
IsConflict c ls = IsTruthConflict c.closure.graph c.closure.steps.items c.reasons.items ls ⊎ IsStepConflict c.closure.graph c.closure.steps.items c.reasons.items ls
