use Rattle.std.proofs.Common.{◌≡◌, ◌-◌, ◌≤◌, length, take, map}
use Rattle.smt_sorts.specs.Listed.{hash_of}
use Rattle.smt_sorts.proofs.entries.file.Given as goal

abbrev pub invariant-loop-count : goal.invariant-loop-count
invariant-loop-count l = record {
  within : l.count ≤ length l.declarations;
  hashed : l.index ≡ map hash_of (take l.count l.declarations);
}

abbrev pub decreases-loop-count : goal.decreases-loop-count
decreases-loop-count l = length l.declarations - l.count
