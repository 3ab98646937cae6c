-- A core of a stack with what stands above it.
use Rattle.std.specs.Prelude.{ℕ, ℤ, ◌+◌, ◌≤◌, ◌<◌, List, ◌++◌}
use Rattle.smt_meaning.specs.declared.replies.Held.{Held}
use Rattle.smt_meaning.specs.Core.{IsReduced}
use Rattle.smt_meaning.specs.Sorts.{with_all}
use Rattle.smt_meaning.specs.Stack.{assertions_of}
use Rattle.smt_meaning.specs.StackCommand.{Stack}
use Rattle.session.specs.declared.above.Above.{Above}
use Rattle.session.specs.Above.{above_by}

-- these candidates are held
abbrev pub IsReducedUnder : Stack → Above → ℕ → ℤ → List ℕ → List Held → Type 0
IsReducedUnder s a workers limit candidates hs = IsReduced workers (with_all s.trees (assertions_of (above_by s.trees a))) (s.frames ++ above_by s.trees a) limit candidates hs

-- its place is one of so many, past those below
abbrev pub IsHeldAmong : ℕ → ℕ → Held → Type 0
IsHeldAmong below many h = (below ≤ h.place) × (h.place < below + many)
