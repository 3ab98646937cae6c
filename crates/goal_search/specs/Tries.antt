-- The candidates of a core, and what a check without one of them comes to.
use Rattle.std.specs.Prelude.{◌≡◌, ℕ, ◌+◌, ◌<◌, ◌≤◌, ℤ, Bool, false, List, [], ◌∷◌, slice_set, Option, Some, None}
use Rattle.smt_meaning.specs.declared.replies.Reason.{Reason}
use Rattle.smt_meaning.specs.declared.replies.Held.{Held}
use Rattle.smt_meaning.specs.Core.{IsReason}
use Rattle.smt_meaning.specs.Keeping.{keeping}
use Rattle.smt_meaning.specs.Stack.{Frame, HasNoModel}
use Rattle.smt_meaning.specs.Term.{Tree}
use Rattle.smt_meaning.specs.StackCommand.{Stack}
use Rattle.scope_stack.specs.Trials.{marks}

-- places that ascend, none before the first place or at the end
abbrev pub AreCandidates : ℕ → ℕ → List ℕ → Type 0
AreCandidates first end [] = Unit {0}
AreCandidates first end (p ∷ ps) = (first ≤ p) × (p < end) × AreCandidates (p + 1) end ps

-- these levels have no model, or this is why none is found that they haven't
abbrev pub IsAnswered : ℕ → List Tree → List Frame → ℤ → Option Reason → Type 0
IsAnswered workers ts frames limit None = HasNoModel frames
IsAnswered workers ts frames limit (Some why) = IsReason workers ts frames limit why

abbrev pub held_by : ℕ → Option Reason → List Held
held_by place None = []
held_by place (Some why) = record { place = place; why = why } ∷ []

-- without the assertion at this place what was kept has no model, and it goes; or this is the reason why not, and it stays
abbrev pub IsTried : ℕ → Stack → ℤ → ℕ → List Bool → Option Reason → List Bool → Type 0
IsTried workers s limit place old None new = HasNoModel (keeping (marks (slice_set old place false)) s.frames) × (new ≡ slice_set old place false)
IsTried workers s limit place old (Some why) new = IsReason workers s.trees (keeping (marks (slice_set old place false)) s.frames) limit why × (new ≡ old)
