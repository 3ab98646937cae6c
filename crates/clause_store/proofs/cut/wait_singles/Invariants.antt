use Rattle.std.proofs.Common.{◌≤◌, vec_capacity}
use Rattle.clause_store.specs.Empties.{all_filled}
use Rattle.clause_store.specs.From.{HasSingles}
use Rattle.clause_store.proofs.cut.wait_singles.Given as goal

abbrev pub invariant-loop-i : goal.invariant-loop-i
invariant-loop-i l = record {
  singles : HasSingles (all_filled l.rows.entries) l.i l.waiting.items;
  room : vec_capacity l.initial.waiting ≤ vec_capacity l.waiting;
}
