use Rattle.std.proofs.Common.{◌≡◌, List, ℤ, map, All}
use Rattle.std.specs.List.{range_with_len}
use Rattle.smt_meaning.specs.declared.reports.Report.{Report}
use Rattle.smt_meaning.specs.Report.{Shows}
use Rattle.smt_meaning.specs.Stack.{Frame}
use Rattle.smt_meaning.specs.Term.{Tree}
use Rattle.proof_check.proofs.undecided.reports.Given as goal

abbrev pub invariant-loop-worker : goal.invariant-loop-worker
invariant-loop-worker l = record {
  one_each : map (λ (r : Report). r.worker) l.reports ≡ range_with_len 0 l.worker;
  shown : (ts : List Tree) (frames : List Frame) (limit : ℤ) → All (λ (r : Report). Shows ts frames limit r.branches r.cause) l.reports;
}
