use Rattle.proof_form.proofs.FarkasKeeping.{AreKeeping}
use Rattle.proof_form.proofs.farkas.keep_literals.Given as goal

abbrev pub invariant-loop-part : goal.invariant-loop-part
invariant-loop-part l = AreKeeping l.fn.clauses l.clauses l.weighted l.part-index l.codes.items
