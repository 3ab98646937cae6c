use Rattle.theory_combine.proofs.Beginning.{leaves_none, leaves_then}
use Rattle.theory_combine.proofs.Variables.{leaves_first, leaves_next}
use Rattle.theory_combine.proofs.start.add_leaves.Goals as goal

pub loop-place-init : goal.loop-place-init
loop-place-init c = record { adds = leaves_none c.args.stack.now c.args.bounds.now; variables = leaves_first c.args.stack.now c.args.marks.now c.args.bounds.now }

pub loop-place-preserved : goal.loop-place-preserved
loop-place-preserved c = record {
  adds = leaves_then c.args.stack.now c.args.bounds.now c.loop-place.bounds c.add_if_leaf.new.bounds c.loop-place.invariant.adds c.add_if_leaf.ensures.adds;
  variables =
      leaves_next c.args.stack.now c.args.marks.now c.loop-place.bounds c.add_if_leaf.new.bounds c.loop-place.place c.add_if_leaf.ensures.adds.kept c.loop-place.invariant.variables c.in_ok-add_if_leaf.ensures.variable;
}
