-- The form of the first term of a refused pair is in the range, so the pair leaves it; and the refused limits of whole stacks.
use Rattle.std.proofs.Common.{◌≡◌, ℕ, List, subst, sym, true, inl, inr}
use Rattle.smt_meaning.specs.declared.commands.Command.{Command}
use Rattle.smt_meaning.specs.Term.{tree_at}
use Rattle.smt_meaning.specs.Linear.{folding_fits}
use Rattle.smt_meaning.specs.StackCommand.{Stack, start, after_all}
use Rattle.smt_laws.specs.TermLaws.{NoIdTwice}
use Rattle.smt_laws.specs.SortLaws.{AssertionsAreTruths, TreesAreInOrder, PartsAreAmongTheTrees}
use Rattle.smt_laws.specs.LinearLaws.{NumeralsAreInRange, PlacedFormsFit, TreesAreLinear}
use Rattle.bound_clauses.specs.declared.orders.Order.{Order}
use Rattle.scope_stack.specs.Shown.{IsLawful}
use Rattle.check_atoms.specs.declared.refusal.Refusal.TheVariants.{Pair, Memory}
use Rattle.check_atoms.specs.OfStack.{IsRefused}
use Rattle.check_atoms.specs.Laws.{RefusedPairLeavesRange}
use Rattle.check_atoms.specs.PairRangesLaws.{RefusedPairsLeaveRange, LawfulPairsLeaveRange, LawfulLimitsLeaveRange, RefusedLimitsLeaveRange}

no_memory : (part : ℕ) (o : Order) → Pair part o ≡ Memory → ⊥
no_memory part o e = cc

-- the first term of a refused pair folds within the range
first_folds : (s : Stack) (part : ℕ) (o : Order) → IsRefused s (Pair part o) → folding_fits s.trees (tree_at s.trees o.lesser) ≡ true
first_folds s part o (inl m) = absurd (no_memory part o m)
first_folds s part o (inr r) = elim r.atom [
  | inl b ↦ subst (λ (q : Order). folding_fits s.trees (tree_at s.trees q.lesser) ≡ true) (sym b.refuses.1) b.refuses.2.left_fits
  | inr other ↦ elim other [ inl l ↦ absurd l.refuses | inr d ↦ absurd d ]
]

pub lawful_pairs : PlacedFormsFit → RefusedPairLeavesRange → LawfulPairsLeaveRange
lawful_pairs fit leaves s part o lawful numerals refused = leaves s part o lawful (fit s.trees o.lesser numerals (first_folds s part o refused)) refused

-- the stack that commands give is lawful
given_lawful : NumeralsAreInRange → NoIdTwice → AssertionsAreTruths → TreesAreInOrder → PartsAreAmongTheTrees → TreesAreLinear → (cs : List Command) → IsLawful (after_all start cs)
given_lawful numerals ids truths order parts linear cs = record { no_id_twice = ids cs; truths = truths cs; in_order = order cs; parts = parts cs; numerals = numerals cs; linear = linear cs }

pub refused_pairs : LawfulPairsLeaveRange → NumeralsAreInRange → NoIdTwice → AssertionsAreTruths → TreesAreInOrder → PartsAreAmongTheTrees → TreesAreLinear → RefusedPairsLeaveRange
refused_pairs leave numerals ids truths order parts linear cs part o refused = leave (after_all start cs) part o (given_lawful numerals ids truths order parts linear cs) (numerals cs) refused

pub refused_limits : LawfulLimitsLeaveRange → NumeralsAreInRange → NoIdTwice → AssertionsAreTruths → TreesAreInOrder → PartsAreAmongTheTrees → TreesAreLinear → RefusedLimitsLeaveRange
refused_limits leaves numerals ids truths order parts linear cs part refused = leaves (after_all start cs) part (given_lawful numerals ids truths order parts linear cs) (numerals cs) refused
