use Rattle.std.proofs.Common.{arith, sym, ◌∙◌, refl}
use Rattle.smt_meaning.specs.Term.{tree_at}
use Rattle.smt_meaning.specs.Interpretation.{meaning}
use Rattle.model_eval.proofs.KeepLemmas.{node_gathered, gathered_in_range, node_unfit, node_valued, kept_push, kept_skip}
use Rattle.model_eval.proofs.evaluate.add.Goals as goal
use Rattle.model_eval.proofs.evaluate.add.Goals.{then-marks-id+in_ok-value+in-Some+in_ok-push-in-Some, else-marks-id}

pub node_value-requires-clause-values : goal.node_value-requires-clause-values
node_value-requires-clause-values g c =
    (node_gathered (meaning c.args.interp.now) c.args.store.now.trees c.args.marks.now c.args.found.now.slots.items c.args.found.now.values.items c.args.id
    c.node-node.result.head c.node-node.result.arguments.now c.requires.kept c.requires.next c.requires.different (c.requires.closed c.if-marks-id.true) c.requires.term
    c.node-node.ensures.tree c.node-node.ensures.earlier).slot

pub node_value-requires-clause-ranges : goal.node_value-requires-clause-ranges
node_value-requires-clause-ranges g c =
    gathered_in_range (meaning c.args.interp.now) c.args.store.now.trees c.args.found.now.slots.items c.args.found.now.values.items c.node-node.result.arguments.now
    (node_gathered (meaning c.args.interp.now) c.args.store.now.trees c.args.marks.now c.args.found.now.slots.items c.args.found.now.values.items c.args.id
    c.node-node.result.head c.node-node.result.arguments.now c.requires.kept c.requires.next c.requires.different (c.requires.closed c.if-marks-id.true) c.requires.term
    c.node-node.ensures.tree c.node-node.ensures.earlier)

pub returns-in-None-clause-err : goal.returns-in-None-clause-err
returns-in-None-clause-err g c = (
  refl,
  c.if-marks-id.true,
  node_unfit (meaning c.args.interp.now) c.args.store.now.trees c.args.found.now.slots.items c.args.found.now.values.items c.node-node.result.arguments.now c.node-node.result.head
      (tree_at c.args.store.now.trees c.args.id)
      (node_gathered (meaning c.args.interp.now) c.args.store.now.trees c.args.marks.now c.args.found.now.slots.items c.args.found.now.values.items c.args.id
      c.node-node.result.head c.node-node.result.arguments.now c.requires.kept c.requires.next c.requires.different (c.requires.closed c.if-marks-id.true) c.requires.term
      c.node-node.ensures.tree c.node-node.ensures.earlier)
      c.node-node.ensures.tree (sym c.in_ok-value.ensures.value ∙ c.in-None.is),
)

pub returns-clause-kept : goal.returns-clause-kept
returns-clause-kept g c =
    elim c.if-marks-id.branch [
      | then-marks-id+in_ok-value+in-Some+in_ok-push-in-Some w ↦
          rw (c.in_ok-push.ensures.items, w.found-is, w.in_ok-push-in-Some.ensures.items, w.in_ok-value.ensures.slots, w.in_ok-value.ensures.values)
          (kept_push (meaning c.args.interp.now) c.args.store.now.trees c.args.marks.now c.args.found.now.slots.items c.args.found.now.values.items w.in-Some.value c.len-slot.result c.args.id
          c.requires.kept c.requires.next (grind arith)
          (node_valued (meaning c.args.interp.now) c.args.store.now.trees c.args.found.now.slots.items c.args.found.now.values.items w.node-node.result.arguments.now w.node-node.result.head
          (tree_at c.args.store.now.trees c.args.id) w.in-Some.value
          (node_gathered (meaning c.args.interp.now) c.args.store.now.trees c.args.marks.now c.args.found.now.slots.items c.args.found.now.values.items c.args.id
          w.node-node.result.head w.node-node.result.arguments.now c.requires.kept c.requires.next c.requires.different (c.requires.closed w.if-marks-id.true) c.requires.term
          w.node-node.ensures.tree w.node-node.ensures.earlier)
          w.node-node.ensures.tree (sym w.in_ok-value.ensures.value ∙ w.in-Some.is)))
      | else-marks-id w ↦
          rw (c.in_ok-push.ensures.items, w.found-is)
          (kept_skip (meaning c.args.interp.now) c.args.store.now.trees c.args.marks.now c.args.found.now.slots.items c.args.found.now.values.items c.len-slot.result c.args.id
          c.requires.kept c.requires.next w.if-marks-id.false)
    ]
