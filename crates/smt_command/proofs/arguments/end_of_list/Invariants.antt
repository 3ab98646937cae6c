use Rattle.std.proofs.Common.{◌≡◌, ◌+◌, ◌-◌, ◌≤◌, drop, length}
use Rattle.smt_meaning.specs.Sexp.{open_lists_of}
use Rattle.smt_command.proofs.arguments.end_of_list.Given as goal

abbrev pub invariant-loop-depth : goal.invariant-loop-depth
invariant-loop-depth l = record {
  order : l.from ≤ l.place;
  within : l.place ≤ length l.sexpr;
  few : l.depth + l.from ≤ l.place + 1;
  outer : drop l.depth (open_lists_of (drop l.place l.sexpr)) ≡ drop 1 (open_lists_of (drop l.from l.sexpr));
}

abbrev pub decreases-loop-depth : goal.decreases-loop-depth
decreases-loop-depth l = length l.sexpr - l.place
