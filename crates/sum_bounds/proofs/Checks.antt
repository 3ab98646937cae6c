-- What a check makes of the state.
use Rattle.std.proofs.Common.{◌≡◌, ℕ, Bool, true, List, map, refl}
use Rattle.simplex_steps.specs.State.{KeepsBounds}
use Rattle.simplex.specs.State as Simplex
use Rattle.simplex.specs.declared.state.Verdict.{Verdict}
use Rattle.sum_bounds.specs.declared.finding.Finding.{Finding}
use Rattle.sum_bounds.specs.declared.finding.Finding.TheVariants.{Fits}
use Rattle.simplex.specs.Sums.{HaveOwnSums}
use Rattle.sum_bounds.specs.Bounds.{AllMet, IsCore, Judges, told_of}
use Rattle.sum_bounds.specs.Finding.{IsFound}
use Rattle.sum_bounds.proofs.Values.{within_from_met, sums_meet}
use Rattle.sum_bounds.proofs.Conflicts.{state_of, judged, met_where_fits}
use Rattle.sum_bounds.proofs.Growth.{apart_kept, core_kept}

pub checked : (s u : Simplex.State) (keys : List ℕ) (count : ℕ) (was now : Bool) (v : Verdict) (f : Finding) → IsCore s keys count was → Simplex.IsState u → KeepsBounds s.columns u.columns
    → Simplex.Judges u v → IsFound v f → (now ≡ true → f ≡ Fits) → Judges (state_of u) f × IsCore u keys count now
checked s u keys count was now v f core state keeps h found fits =
    let apart = apart_kept s.columns u.columns keeps.count (λ i. (keeps.each i).sum) core.apart in
    let j = judged u v f state apart h found in
    (j, core_kept s u keys count was now core keeps.count (λ i. (keeps.each i).sum) (λ e. met_where_fits u state f (fits e) j))

-- a clean state fits
pub clean_fits : (s : Simplex.State) → Simplex.IsState s → HaveOwnSums s.columns → AllMet s.columns (map told_of s.bounds) → Judges (state_of s) Fits
clean_fits s state apart met =
    (within_from_met s.columns s.bounds state.bounded met, sums_meet (state_of s) s.bounds refl state.solution state.meant apart state.known met)
