use Rattle.std.proofs.Common.{◌≡◌, take}
use Rattle.race_model.specs.Race.{clauses_of}
use Rattle.race_model.proofs.clause.copy_clauses.Given as goal

abbrev pub invariant-loop-entry : goal.invariant-loop-entry
invariant-loop-entry l = l.copies.items ≡ clauses_of (take l.entry-index l.entries)
