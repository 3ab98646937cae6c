use Rattle.std.proofs.Common.{◌≡◌, vec_len, Ok}
use Rattle.smt_top.specs.Progress.{Driven, between}
use Rattle.smt_top.proofs.top.drive.Given as goal

abbrev pub invariant-loop-turn : goal.invariant-loop-turn
invariant-loop-turn g l = record {
  buffer : vec_len l.buf ≡ 65536;
  driven : Driven l.fn.server.session.settings (Ok l.stage) (between (g.S.Source.told l.fn.source) (g.K.Sink.told l.fn.sink)
      (g.S.Source.told l.source) (g.K.Sink.told l.sink)) l.turn l.server l.fn.sink l.sink (g.L.Ledger.entries l.fn.ledger) (g.L.Ledger.entries l.ledger);
  may : g.D.Decider.may l.decider;
}
