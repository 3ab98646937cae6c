use Rattle.std.proofs.Common.{◌≡◌, ◌++◌, ◌<◌, drop, map, length, All}
use Rattle.literals.specs.Signed.{Signed}
use Rattle.first_clauses.specs.PartClausesFirst.{written_literal}
use Rattle.worker.proofs.import.number_literals.Given as goal

abbrev pub invariant-loop-literal : goal.invariant-loop-literal
invariant-loop-literal g l =
    let table = (g.T.Theory.state l.theory).reading.table in
    record {
      same : (map (written_literal table) l.numbers.items ++ drop l.literal-index l.literals) ≡ l.literals;
      within : All (λ (x : Signed). x.atom < length table) l.numbers.items;
    }
