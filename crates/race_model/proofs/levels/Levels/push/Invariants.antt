use Rattle.std.proofs.Common.{◌≡◌, ◌+◌, ◌-◌, ◌≤◌, ◌++◌, replicate, [], vec_len, vec_capacity}
use Rattle.race_model.proofs.levels.Levels.push.Given as goal

abbrev pub invariant-loop : goal.invariant-loop
invariant-loop l = record {
  terms : l.self.terms ≡ l.initial.self.terms;
  items : l.self.levels.items ≡ l.initial.self.levels.items ++ replicate l.counter (record { declared = []; asserted = [] });
  room : vec_len l.self.levels + (l.count - l.counter) ≤ vec_capacity l.self.levels;
}
