use Rattle.std.proofs.Common.{◌≤◌, drop, length}
use Rattle.clause_form.specs.Node.{HasNoAtomTwice}
use Rattle.first_clauses.proofs.turn.has_each_once.Given as goal

abbrev pub invariant-loop-from : goal.invariant-loop-from
invariant-loop-from l = record { within : l.from ≤ length l.literals; once : HasNoAtomTwice (drop l.from l.literals) }

abbrev pub decreases-loop-from : goal.decreases-loop-from
decreases-loop-from l = l.from
