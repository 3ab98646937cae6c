-- What a refusal to number atoms shows.
use Rattle.std.specs.Prelude.{ℕ}
use Rattle.smt_meaning.specs.declared.reports.RangeSeen.{RangeSeen}
use Rattle.smt_meaning.specs.declared.reports.RangeSeen.TheVariants.{Coefficient, Pair}
use Rattle.smt_meaning.specs.declared.reports.Cause.{Cause}
use Rattle.smt_meaning.specs.declared.reports.Cause.TheVariants.{Range, Memory}
use Rattle.bound_clauses.specs.declared.orders.Sense.{Sense}
use Rattle.bound_clauses.specs.declared.orders.Sense.TheVariants.{NotAbove, Below}
use Rattle.check_atoms.specs.declared.refusal.Refusal.{Refusal}
use Rattle.check_atoms.specs.declared.refusal.Refusal.TheVariants.{Term as RefusedTerm, Pair as RefusedPair, Limit as RefusedLimit, Memory as RefusedMemory}

-- of a refused pair its difference left the range, or for a strict bound what the part compares
abbrev pub pair_seen : ℕ → Sense → ℕ → ℕ → RangeSeen
pair_seen part NotAbove left right = Pair left right
pair_seen part Below left right = Coefficient part

abbrev pub cause_of : Refusal → Cause
cause_of (RefusedTerm place) = Range (Coefficient place)
cause_of (RefusedPair part o) = Range (pair_seen part o.sense o.lesser o.greater)
cause_of (RefusedLimit part) = Range (Coefficient part)
cause_of RefusedMemory = Memory
