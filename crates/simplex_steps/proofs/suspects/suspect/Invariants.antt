use Rattle.std.proofs.Common.{Contains}
use Rattle.simplex_steps.specs.Suspects.{Covers}
use Rattle.simplex_steps.proofs.SuspectLemmas.{AreListedTo}
use Rattle.simplex_steps.proofs.suspects.suspect.Given as goal

abbrev pub invariant-loop-change : goal.invariant-loop-change
invariant-loop-change l =
    Covers l.suspects l.columns × Contains l.suspects.variables l.one × Contains l.suspects.variables l.other × AreListedTo l.suspects.variables l.moved l.change-index
