use Rattle.std.proofs.Common.{arith}
use Rattle.theory_combine.specs.Columns.{variables_of}
use Rattle.theory_combine.specs.Progress.{state}
use Rattle.theory_combine.proofs.Answering.{to_ready, went_full}
use Rattle.theory_combine.proofs.Calling.{checked_with}
use Rattle.theory_combine.proofs.Going.{went_same}
use Rattle.theory_combine.proofs.calls.check.Goals as goal

pub returns-in-Some-clause-went : goal.returns-in-Some-clause-went
returns-in-Some-clause-went c =
    let p = c.args.parts.now in
    let w = c.args.progress.now in
    let b = c.args.budget.now in
    went_full p w w b b (went_same p w b c.requires.progress (let r = c.room-spent.ensures in omega arith))

pub returns-in-None-clause-went : goal.returns-in-None-clause-went
returns-in-None-clause-went c = went_full c.args.parts.now c.args.progress.now c.judge.new.progress c.args.budget.now c.judge.new.budget c.judge.ensures.went

pub returns-in-None-clause-found : goal.returns-in-None-clause-found
returns-in-None-clause-found c =
    let p = c.args.parts.now in
    let new = c.judge.new.progress in
    checked_with (state p new) (variables_of new.stopped_at new.held.bounds) c.args.budget.now c.judge.new.budget c.judge.result c.judge.ensures.found

pub judge-requires : goal.judge-requires
judge-requires c = record {
  ready = to_ready c.args.parts.now c.args.progress.now c.requires.parts c.requires.progress c.in-None.is;
  last = record { full = c.requires.full; agreed = c.requires.agreed };
}
