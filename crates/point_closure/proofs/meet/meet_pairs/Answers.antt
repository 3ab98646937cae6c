use Rattle.std.proofs.Common.{refl, arith}
use Rattle.point_closure.proofs.RestLemmas.{begins_itself, begins_on}
use Rattle.point_closure.proofs.MeetLemmas.{meets_start, meets_step, all_step, all_end}
use Rattle.point_closure.proofs.meet.meet_pairs.Goals as goal

pub loop-slot-init : goal.loop-slot-init
loop-slot-init c = record {
  begins = begins_itself c.args.met.now.items;
  meets = meets_start c.args.pairs.now c.args.classes.now.unions c.args.kept c.args.gone c.args.met.now.items;
  all = λ j less. absurd (omega arith);
}

pub loop-slot-preserved : goal.loop-slot-preserved
loop-slot-preserved c = record {
  begins = begins_on c.args.met.now.items c.loop-slot.met.items c.meet_one.new.met.items c.loop-slot.invariant.begins c.meet_one.ensures.begins;
  meets = meets_step c.args.pairs.now c.args.classes.now.unions c.args.kept c.args.gone c.args.met.now.items c.loop-slot.met.items c.meet_one.new.met.items _ (c.requires.slots c.loop-slot.slot-index 0 c.loop-slot-test.true) c.loop-slot.invariant.meets c.in_ok-meet_one.ensures.ok;
  all = all_step c.args.pairs.now c.args.classes.now.unions c.args.kept c.args.gone c.loop-slot.met.items c.meet_one.new.met.items c.args.slots.now c.loop-slot.slot-index _ refl c.in_ok-meet_one.ensures.ok c.loop-slot.invariant.all;
}

pub returns-clause-all : goal.returns-clause-all
returns-clause-all c = all_end c.args.pairs.now c.args.classes.now.unions c.args.kept c.args.gone c.loop-slot.met.items c.args.slots.now c.loop-slot.slot-index (omega arith) c.loop-slot.invariant.all
