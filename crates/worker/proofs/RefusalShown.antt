-- What a refusal shows.
use Rattle.std.proofs.Common.{ℕ, List, [], ℤ, arith}
use Rattle.std.proofs.lemmas.List.Elements.{All-nil}
use Rattle.fraction128.specs.declared.Summand.{Summand}
use Rattle.fraction128.specs.Lines.{AreSums}
use Rattle.smt_meaning.specs.declared.reports.RangeSeen.{RangeSeen}
use Rattle.smt_meaning.specs.declared.reports.RangeSeen.TheVariants.{Coefficient}
use Rattle.smt_meaning.specs.StackCommand.{Stack}
use Rattle.smt_meaning.specs.Report.{IsPastRange, Shows, IsCheckAtom}
use Rattle.smt_meaning.specs.Ranges.{LeavesRange}
use Rattle.scope_stack.specs.Shown.{IsLawful}
use Rattle.bound_clauses.specs.declared.orders.Sense.{Sense}
use Rattle.bound_clauses.specs.declared.orders.Sense.TheVariants.{NotAbove, Below}
use Rattle.check_atoms.specs.declared.refusal.Refusal.{Refusal}
use Rattle.check_atoms.specs.declared.refusal.Refusal.TheVariants.{Term, Pair, Limit, Memory}
use Rattle.check_atoms.specs.OfStack.{IsRefused}
use Rattle.check_atoms.specs.Laws.{RefusedTermLeavesRange, PairLeavesRange}
use Rattle.check_atoms.specs.PairRangesLaws.{LawfulPairsLeaveRange, LawfulLimitsLeaveRange}
use Rattle.worker.specs.Causes.{pair_seen, cause_of}

pair_shown : (s : Stack) (part : ℕ) (sense : Sense) (left right : ℕ) → PairLeavesRange s part sense left right
    → LeavesRange s.trees s.frames [] (IsCheckAtom s.trees s.frames []) (pair_seen part sense left right)
pair_shown s part NotAbove left right h = h
pair_shown s part Below left right h = h

-- before there is any variable
no_sums : (Known : List Summand → Type 0) → AreSums Known []
no_sums Known = record { apart = λ i j d l m. absurd (omega (arith, m)); filled = All-nil _; known = All-nil _ }

without_variables : (s : Stack) (seen : RangeSeen) → LeavesRange s.trees s.frames [] (IsCheckAtom s.trees s.frames []) seen → IsPastRange s.trees s.frames [] seen
without_variables s seen h = record { sums = []; known = no_sums _; are_branches = tt; leaves = h }

pub shown : RefusedTermLeavesRange → LawfulPairsLeaveRange → LawfulLimitsLeaveRange → (s : Stack) (limit : ℤ) (e : Refusal) → IsLawful s → IsRefused s e
    → Shows s.trees s.frames limit [] (cause_of e)
shown term pairs limits s limit (Term place) lawful r = without_variables s (Coefficient place) (term s place lawful r)
shown term pairs limits s limit (Pair part o) lawful r =
    without_variables s (pair_seen part o.sense o.lesser o.greater) (pair_shown s part o.sense o.lesser o.greater (pairs s part o lawful lawful.numerals r))
shown term pairs limits s limit (Limit part) lawful r = without_variables s (Coefficient part) (limits s part lawful lawful.numerals r)
shown term pairs limits s limit Memory lawful r = tt
