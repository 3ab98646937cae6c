use Rattle.std.proofs.Common.{◌≡◌, ℕ, suc, ◌+◌, ◌≤◌, [], map, All, vec_len, vec_capacity}
use Rattle.race_cell.specs.Rules.{fresh_from, with_claims}
use Rattle.race_cell.specs.Passes as of
use Rattle.race_cell.proofs.race.Race.deal.Given as goal

abbrev pub invariant-loop-worker : goal.invariant-loop-worker
invariant-loop-worker g l = record {
  table : l.seat.table_id ≡ l.initial.seat.table_id;
  left : (k : ℕ) × (l.worker + suc k ≡ l.fn.workers) × (l.seat.me ≡ (with_claims l.initial.seat.me.0.base (fresh_from l.worker (suc k)), []));
  len : vec_len l.passes ≡ l.worker;
  room : l.fn.workers ≤ vec_capacity l.passes;
  claims : map of.claim_of l.passes.items ≡ fresh_from 0 l.worker;
  all : All (of.IsIn l.initial.seat.table_id l.initial.seat.me.0.base) l.passes.items;
}
