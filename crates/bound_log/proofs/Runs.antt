-- The lines of a run's pivots, from grid to grid.
use Rattle.std.proofs.Common.{◌≡◌, ℕ, suc, ◌<◌, Bool, List, [], ◌∷◌, length, Some, refl, ap, subst}
use Rattle.fraction128.specs.declared.Summand.{Summand}
use Rattle.fraction128.specs.declared.Grid.{Grid}
use Rattle.fraction128.specs.Grid.{Step, take, move, pivot, moved_value, after, after_move, after_pivot}
use Rattle.fraction128.specs.Lines.{Bounding, IsSoundGrid, HasBasis, exchanged, pivot_line}
use Rattle.fraction128.specs.Chain.{ComesFrom, begins, moved, PivotsLead}
use Rattle.simplex_steps.specs.Law.{IsLawful, Runs, RunsFit, pivots, lines_of}
use Rattle.simplex_steps.specs.State.{AreRanged}
use Rattle.simplex_steps.proofs.NextStep.{step_facts}
use Rattle.simplex_steps.proofs.Moments.{length_with}
use Rattle.simplex_steps.proofs.Keeping.{steps_keep}
use Rattle.simplex_steps.proofs.Independent.{pivots_exchange}
use Rattle.simplex_steps.proofs.SoundSteps.{after_ranged, steps_stay_sound}

-- where the steps of a run fit a sound grid, each line is that of a sound grid, with the basis that the lines before it leave, and these pivots, with the moves between them, lead from a grid that led to the first one to the last one
pub pivots_lead : (sums : List (List Summand)) (B : Bounding) (f g h : Grid) (ss : List Step) (is : ℕ → Bool) → IsLawful g → AreRanged g.columns → IsSoundGrid sums B g → Runs g ss h → RunsFit g ss → HasBasis is g → ComesFrom f g
    → PivotsLead sums B is (Some f) (lines_of g ss) (Some h)
pivots_lead sums B f g h [] is law ranged sound runs fits basis come = subst (ComesFrom f) runs come
pivots_lead sums B f g h (take p ∷ ss) is law ranged sound runs fits basis come = absurd (step_facts g (take p) law.pending law.uncrossed runs.0)
pivots_lead sums B f g h (move i k ∷ ss) is law ranged sound runs fits basis come =
    pivots_lead sums B f (after_move g i k) h ss is (steps_keep g (move i k) law runs.0) (after_ranged g (move i k) law ranged runs.0) (steps_stay_sound sums B g (move i k) law ranged sound runs.0 fits.0) runs.1 fits.1
    (λ j lt. basis j (subst (λ n. j < n) (length_with (moved_value g i k) 0 g.columns) lt)) (moved g i k come runs.0)
pivots_lead sums B f g h (pivot b k c ∷ ss) is law ranged sound runs fits basis come = (
  record { grid = g; sound = sound; basis = basis; leaves = b; number = k; enters = c; next = runs.0; line = refl },
  come,
  pivots_lead sums B (after_pivot g b k c) (after_pivot g b k c) h ss (exchanged (pivot_line g b c) is) (steps_keep g (pivot b k c) law runs.0) (after_ranged g (pivot b k c) law ranged runs.0)
      (steps_stay_sound sums B g (pivot b k c) law ranged sound runs.0 fits.0) runs.1 fits.1 (pivots_exchange g b k c is law runs.0 basis) begins,
)

pub as_many_lines : (g : Grid) (ss : List Step) → length (lines_of g ss) ≡ pivots ss
as_many_lines g [] = refl
as_many_lines g (take p ∷ ss) = as_many_lines (after g (take p)) ss
as_many_lines g (move i k ∷ ss) = as_many_lines (after g (move i k)) ss
as_many_lines g (pivot b k c ∷ ss) = ap suc (as_many_lines (after g (pivot b k c)) ss)
