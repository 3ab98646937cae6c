use Rattle.std.proofs.Common.{◌≡◌, ◌+◌, ◌<◌, ◌^◌, ◌++◌, drop}
use Rattle.congruence.specs.Steps.{neighbours_equal, all_equal}
use Rattle.congruence.proofs.steps.add_neighbours.Given as goal

abbrev pub invariant-loop-k : goal.invariant-loop-k
invariant-loop-k l = record {
  fits : l.last + 2 < 2 ^ 32;
  rest : l.steps.items ++ neighbours_equal l.last (drop l.k l.terms) ≡ l.initial.steps.items ++ all_equal l.terms;
}
