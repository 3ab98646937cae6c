use Rattle.std.proofs.Common.{◌≡◌, List, All, take}
use Rattle.literals.specs.Signed.{Signed}
use Rattle.clause_store.specs.Trail.{Assigns}
use Rattle.clause_store.specs.Entries.{Entry}
use Rattle.clause_store.specs.Watching.{Grows, kept_from}
use Rattle.clause_store.specs.Rested.{IsWaiting}
use Rattle.clause_store.specs.Forcing.{AllForced}
use Rattle.clause_store.proofs.waits.force_all.Given as goal

abbrev pub invariant-loop-wait : goal.invariant-loop-wait
invariant-loop-wait l = record {
  grows : (es : List Entry) → All (IsWaiting es l.initial.trail.steps) l.waiting → Grows (kept_from 0 es) l.initial.trail.depth l.initial.trail.steps l.trail.steps;
  more : (s : Signed) → Assigns l.initial.trail.steps s → Assigns l.trail.steps s;
  forced : AllForced l.trail.steps (take l.wait-index l.waiting);
  atoms : l.trail.atoms ≡ l.initial.trail.atoms;
  depth : l.trail.depth ≡ l.initial.trail.depth;
}
