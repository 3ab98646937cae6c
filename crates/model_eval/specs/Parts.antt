-- A step for each different part of a term.
use Rattle.std.specs.Prelude.{◌≡◌, ◌≢◌, ℕ, ◌+◌, List, length, All, AllPairs, Contains}
use Rattle.smt_meaning.specs.Term.{Tree}
use Rattle.model_eval.specs.Unfit.{IsPart, IsPartOfAny}

-- the trees of a kind, each once
pub record AreEachOnce (Is : Tree → Type 0) (parts : List Tree) : Type 0 where
  pub each : All Is parts
  pub all : (s : Tree) → Is s → Contains parts s
  pub different : AllPairs (λ s t. s ≢ t) parts

-- the different parts of the term
abbrev pub AreItsParts : Tree → List Tree → Type 0
AreItsParts t = AreEachOnce (λ s. IsPart s t)

-- the different parts of the terms at these places
abbrev pub AreTheirParts : List Tree → List ℕ → List Tree → Type 0
AreTheirParts trees places = AreEachOnce (IsPartOfAny trees places)

-- from one count of steps to the next there is a step for each different part of the term
abbrev pub IsAStepAPart : Tree → ℕ → ℕ → Type 0
IsAStepAPart t before now = (parts : List Tree) × AreItsParts t parts × (now ≡ before + length parts)

-- the same of the parts of the terms at these places
abbrev pub IsAStepAPartOfAny : List Tree → List ℕ → ℕ → ℕ → Type 0
IsAStepAPartOfAny trees places before now = (parts : List Tree) × AreTheirParts trees places parts × (now ≡ before + length parts)
