use Rattle.std.proofs.Common.{◌≡◌, ◌+◌, length, ◌≤◌, Ok}
use Rattle.smt_top.specs.Progress.{Served}
use Rattle.smt_top.proofs.Servings.{Still}
use Rattle.smt_top.proofs.serving.Server.serve.Given as goal

abbrev pub invariant-loop-stage : goal.invariant-loop-stage
invariant-loop-stage g l = record {
  served : Served (Ok tt) l.fn.self l.self l.fn.sink l.sink (g.K.Sink.told l.fn.sink) (g.K.Sink.told l.sink) (g.L.Ledger.entries l.fn.ledger) (g.L.Ledger.entries l.ledger) (Still);
  numbered : l.self.count ≤ l.self.reader.place;
  finished : l.self.reader.finished ≡ l.fn.self.reader.finished;
  size : l.self.reader.place + length l.self.reader.bytes ≡ l.fn.self.reader.place + length l.fn.self.reader.bytes;
  later : (g.K.Sink.told l.fn.sink).faults ≤ (g.K.Sink.told l.sink).faults;
  may : g.D.Decider.may l.decider;
}

abbrev pub decreases-loop-stage : goal.decreases-loop-stage
decreases-loop-stage g l = length l.self.reader.bytes
