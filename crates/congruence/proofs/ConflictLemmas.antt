-- A step that keeps equal points apart, found by its watched pair.
use Rattle.std.proofs.Common.{◌≡◌, ℕ, ◌<◌, List, All, length, get_or, sym, subst}
use Rattle.std.specs.Prelude.{Contains}
use Rattle.std.proofs.lemmas.List.Elements.{Contains-get_or}
use Rattle.point_closure.specs.declared.step.Step.{Step}
use Rattle.point_closure.specs.Closure.{Point}
use Rattle.point_closure.specs.declared.watch.Watch.{Watch}
use Rattle.point_closure.specs.Rest.{watch_at}
use Rattle.point_closure.specs.State.{AreWatched}
use Rattle.point_closure.specs.Whole.{AreEqualPairs}
use Rattle.congruence.specs.Reasons.{IsDiffering}

pub first_met : (met : List ℕ) (k : ℕ) → 0 < length met → k ≡ get_or met 0 k → Contains met k
first_met met k less e = subst (Contains met) (sym e) (Contains-get_or met 0 k less)

pub met_differs : (ps : List Point) (log : List Step) (ws : List Watch) (met : List ℕ) (k : ℕ) → AreWatched log ws → AreEqualPairs ps log ws met → All (λ (w : Watch). (w.left < length ps) × (w.right < length ps)) ws → Contains met k
    → IsDiffering ps log (watch_at ws k)
met_differs ps log ws met k watched equal ends has =
    let h = (equal k).0 has in
    let w = watched.pairs k h.0 in
    let e = ends k (record { left = 0; right = 0; step = 0 }) h.0 in
    record { within = w.0; left = e.0; right = e.1; step = w.1; equal = h.1 }
