use Rattle.std.proofs.Common.{◌<◌, All, length, take}
use Rattle.literals.specs.Signed.{Signed}
use Rattle.first_clauses.specs.Turned.{AreTurned}
use Rattle.first_clauses.proofs.turn.put_turned.Given as goal

abbrev pub invariant-loop-literal : goal.invariant-loop-literal
invariant-loop-literal l = record {
  within : All (λ (m : Signed). m.atom < length l.atoms.atoms) l.put.items;
  turned : AreTurned l.terms.trees l.atoms.atoms (take l.literal-index l.clause) l.put.items;
}
