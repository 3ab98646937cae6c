use Rattle.std.proofs.Common.{arith}
use Rattle.theory_combine.specs.Columns.{variables_of}
use Rattle.theory_combine.specs.Progress.{state}
use Rattle.theory_combine.proofs.Answering.{to_ready, went_full}
use Rattle.theory_combine.proofs.Calling.{inferred_with}
use Rattle.theory_combine.proofs.Going.{went_same}
use Rattle.theory_combine.proofs.calls.look.Goals as goal

pub returns-in-Some-clause-went : goal.returns-in-Some-clause-went
returns-in-Some-clause-went c =
    let p = c.args.parts.now in
    let w = c.args.progress.now in
    let b = c.args.budget.now in
    went_full p w w b b (went_same p w b c.requires.progress (let r = c.room-spent.ensures in omega arith))

pub returns-in-None-clause-went : goal.returns-in-None-clause-went
returns-in-None-clause-went c = went_full c.args.parts.now c.args.progress.now c.infer_more.new.progress c.args.budget.now c.infer_more.new.budget c.infer_more.ensures.went

pub returns-in-None-clause-found : goal.returns-in-None-clause-found
returns-in-None-clause-found c =
    let p = c.args.parts.now in
    let new = c.infer_more.new.progress in
    inferred_with (state p new) (variables_of new.stopped_at new.held.bounds) c.args.budget.now c.infer_more.new.budget c.infer_more.result c.infer_more.ensures.found

pub infer_more-requires : goal.infer_more-requires
infer_more-requires c = to_ready c.args.parts.now c.args.progress.now c.requires.parts c.requires.progress c.in-None.is
