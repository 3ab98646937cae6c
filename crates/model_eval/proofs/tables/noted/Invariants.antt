use Rattle.std.proofs.Common.{◌≡◌, ℕ, nat_eq, take}
use Rattle.std.specs.HashMap.{get}
use Rattle.model_eval.specs.Tables.{first_place}
use Rattle.model_eval.proofs.tables.noted.Given as goal

abbrev pub invariant-loop-i : goal.invariant-loop-i
invariant-loop-i l = (q : ℕ) → get nat_eq l.places q ≡ first_place (take l.i l.tables) q
