use Rattle.std.proofs.Common.{take}
use Rattle.check_atoms.proofs.AssertedTerms.{AreNoBools}
use Rattle.check_atoms.proofs.asserted.are_no_bools.Given as goal

abbrev pub invariant-loop-place : goal.invariant-loop-place
invariant-loop-place l = AreNoBools l.sorts (take l.place-index l.places)
