use Rattle.std.proofs.Common.{◌≡◌, ◌++◌, length}
use Rattle.theory_combine.specs.Pivots.{pivot_units}
use Rattle.theory_combine.proofs.pivots.spend_pivots.Given as goal

abbrev pub invariant-loop-line : goal.invariant-loop-line
invariant-loop-line l = record {
  lines : l.yielded ++ l.line-iterator.rest.items ≡ l.fn.lines.items;
  size : length l.line-iterator.rest.items ≡ l.line-iterator.rest.len;
  spent : l.budget ≡ record l.initial.budget { units = l.initial.budget.units ++ pivot_units l.yielded };
}
