use Rattle.std.proofs.Common.{◌-◌, arith}
use Rattle.point_closure.proofs.SignatureLemmas.{walk_starts, walk_next, place_before}
use Rattle.point_closure.proofs.RestLemmas.{begins_itself, begins_on}
use Rattle.point_closure.proofs.file.pair_found.Goals as goal

pub loop-link-init : goal.loop-link-init
loop-link-init c = record {
  walks = walk_starts c.args.graph.now c.args.classes.now.unions c.args.table.now c.args.pending.now.items c.args.hash c.args.point c.last-link.result c.last-link.ensures;
  sound = λ log all. all;
  begins = begins_itself c.args.pending.now.items;
}

pub returns-in_err-found-clause-sound : goal.returns-in_err-found-clause-sound
returns-in_err-found-clause-sound c = λ log all. c.look.ensures.sound log (c.loop-link.invariant.sound log all)

pub returns-in_err-found-clause-begins : goal.returns-in_err-found-clause-begins
returns-in_err-found-clause-begins c = begins_on c.args.pending.now.items c.loop-link.pending.items c.look.new.pending.items c.loop-link.invariant.begins c.look.ensures.begins

pub loop-link-smaller : goal.loop-link-smaller
loop-link-smaller c = omega (arith, place_before c.args.table.now (c.loop-link.link - 1) c.before-link.result c.before-link.ensures)

pub loop-link-preserved : goal.loop-link-preserved
loop-link-preserved c = record {
  walks = walk_next c.args.graph.now c.args.classes.now.unions c.args.table.now c.loop-link.pending.items c.look.new.pending.items c.args.hash c.args.point c.loop-link.link (c.loop-link.link - 1) c.before-link.result
      c.loop-link.found c.in_ok-found.found (omega arith) c.look.ensures.begins c.in_ok-found.ensures.ok c.before-link.ensures c.loop-link.invariant.walks;
  sound = λ log all. c.look.ensures.sound log (c.loop-link.invariant.sound log all);
  begins = begins_on c.args.pending.now.items c.loop-link.pending.items c.look.new.pending.items c.loop-link.invariant.begins c.look.ensures.begins;
}
