use Rattle.std.proofs.Common.{◌≢◌, ℕ, ◌<◌, slice_index_or}
use Rattle.smt_meaning.specs.declared.values.Sort.TheVariants.{Bool as Truths, Int as Ints}
use Rattle.check_atoms.specs.Parts.{IsMarked}
use Rattle.check_atoms.proofs.stack_atoms.are_no_integers.Given as goal

abbrev pub invariant-loop-id : goal.invariant-loop-id
invariant-loop-id l = (p : ℕ) → p < l.id → IsMarked l.marks p → slice_index_or l.sorts p Truths ≢ Ints
