-- What forcing the waiting clauses' literals gives.
use Rattle.std.specs.Prelude.{◌≡◌, ℕ, ◌⊎◌, true, false, Bool, List, [], ◌∷◌, ◌++◌, All, Some}
use Rattle.clause_store.specs.Trail.{Assigns}
use Rattle.clause_store.specs.declared.trail.Step.{Step}
use Rattle.clause_store.specs.Stored.{IsFalseOn}
use Rattle.clause_store.specs.declared.waits.Wait.{Wait}

abbrev pub ForceGives : Wait → ℕ → List Step → List Step → Bool → Type 0
ForceGives w depth old new true =
    let step : Step = record { literal = w.literal; depth = depth; reason = Some w.row } in
    Assigns new w.literal × ((new ≡ old) ⊎ (new ≡ old ++ step ∷ []))
ForceGives w depth old new false = IsFalseOn old w.literal × (new ≡ old)

-- each literal is on the trail
abbrev pub AllForced : List Step → List Wait → Type 0
AllForced steps ws = All (λ (w : Wait). Assigns steps w.literal) ws

abbrev pub IsFalseWait : List Step → Wait → Type 0
IsFalseWait steps w = IsFalseOn steps w.literal
