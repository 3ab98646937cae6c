-- Laws of the pairs of terms whose bound is refused, and of limits of divisions.
use Rattle.std.specs.Prelude.{ℕ, List, All, IsTrue}
use Rattle.smt_meaning.specs.declared.commands.Command.{Command}
use Rattle.smt_meaning.specs.Term.{Tree}
use Rattle.smt_meaning.specs.Ranges.{LeavesInPart}
use Rattle.smt_meaning.specs.StackCommand.{Stack, start, after_all}
use Rattle.smt_laws.specs.Numerals.{numerals_fit}
use Rattle.bound_clauses.specs.declared.orders.Order.{Order}
use Rattle.scope_stack.specs.Shown.{IsLawful}
use Rattle.check_atoms.specs.declared.refusal.Refusal.TheVariants.{Pair, Limit}
use Rattle.check_atoms.specs.OfStack.{IsRefused}
use Rattle.check_atoms.specs.Laws.{PairLeavesRange}

-- whatever commands come, of a pair that is refused the difference leaves the range, or for a strict bound what the part compares
abbrev pub RefusedPairsLeaveRange : Type 0
RefusedPairsLeaveRange =
    (cs : List Command) (part : ℕ) (o : Order) → IsRefused (after_all start cs) (Pair part o) → PairLeavesRange (after_all start cs) part o.sense o.lesser o.greater

-- so it is on each lawful stack whose numerals are in the range
abbrev pub LawfulPairsLeaveRange : Type 0
LawfulPairsLeaveRange =
    (s : Stack) (part : ℕ) (o : Order) → IsLawful s → All (λ (t : Tree). IsTrue (numerals_fit t)) s.trees → IsRefused s (Pair part o)
    → PairLeavesRange s part o.sense o.lesser o.greater

-- whatever commands come, what a part compares leaves the range where one of its limits is refused
abbrev pub RefusedLimitsLeaveRange : Type 0
RefusedLimitsLeaveRange =
    (cs : List Command) (part : ℕ) → IsRefused (after_all start cs) (Limit part) → LeavesInPart (after_all start cs).trees (after_all start cs).frames part

-- so it is on each lawful stack whose numerals are in the range
abbrev pub LawfulLimitsLeaveRange : Type 0
LawfulLimitsLeaveRange =
    (s : Stack) (part : ℕ) → IsLawful s → All (λ (t : Tree). IsTrue (numerals_fit t)) s.trees → IsRefused s (Limit part) → LeavesInPart s.trees s.frames part
