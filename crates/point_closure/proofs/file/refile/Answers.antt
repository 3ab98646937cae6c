use Rattle.std.proofs.Common.{arith}
use Rattle.point_closure.proofs.FileLemmas.{filed_step, filed_done, grows_on}
use Rattle.point_closure.proofs.RestLemmas.{begins_on}
use Rattle.point_closure.proofs.file.refile.Goals as goal

pub returns-in_err-file-clause-sound : goal.returns-in_err-file-clause-sound
returns-in_err-file-clause-sound c = λ log all. c.file.ensures.sound log (c.loop-owner.invariant.sound log all)

pub loop-owner-preserved : goal.loop-owner-preserved
loop-owner-preserved c = record {
  waits = filed_step c.args.graph.now c.args.classes.now.unions c.loop-owner.table c.file.new.table c.loop-owner.pending.items c.file.new.pending.items c.args.owners.now c.loop-owner.owner-index
      c.file.ensures.grows c.file.ensures.begins c.in_ok-file.ensures.ok c.loop-owner.invariant.filed c.loop-owner.invariant.waits;
  filed = c.file.ensures.filed;
  sound = λ log all. c.file.ensures.sound log (c.loop-owner.invariant.sound log all);
  begins = begins_on c.args.pending.now.items c.loop-owner.pending.items c.file.new.pending.items c.loop-owner.invariant.begins c.file.ensures.begins;
  grows = grows_on c.args.table.now c.loop-owner.table c.file.new.table c.loop-owner.invariant.grows c.file.ensures.grows;
}

pub returns-clause-ok : goal.returns-clause-ok
returns-clause-ok c = filed_done c.args.graph.now c.args.classes.now.unions c.loop-owner.table c.loop-owner.pending.items c.args.owners.now c.loop-owner.owner-index (omega arith) c.loop-owner.invariant.waits
