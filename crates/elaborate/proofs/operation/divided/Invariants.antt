use Rattle.std.proofs.Common.{drop}
use Rattle.elaborate.specs.Values.{HasGrown}
use Rattle.elaborate.proofs.Operations.{IsDividing}
use Rattle.elaborate.proofs.operation.divided.Given as goal

abbrev pub invariant-loop-divisor : goal.invariant-loop-divisor
invariant-loop-divisor l = record {
  dividing : IsDividing l.sort l.fn.number l.divisors (drop l.divisor-index l.divisors) l.fn.store.trees l.store.trees l.value;
  grown : HasGrown l.fn.store l.store;
}
