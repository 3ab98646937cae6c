use Rattle.std.proofs.Common.{◌≡◌, ◌+◌, ◌-◌, arith}
use Rattle.model_eval.proofs.MarkLemmas.{marked_node, unmarked_node}
use Rattle.model_eval.proofs.marks.mark_parts.Goals as goal

pub loop-bound-preserved-then-marks-bound : goal.loop-bound-preserved-then-marks-bound
loop-bound-preserved-then-marks-bound c =
    let e : c.loop-bound.bound ≡ (c.loop-bound.bound - 1) + 1 = omega arith in
    record {
      within = (let w = c.loop-bound.invariant.within in omega arith);
      marked = marked_node c.args.store.now.trees c.args.terms.now _ (c.loop-bound.bound - 1) c.loop-bound.bound c.loop-bound.marks c.mark_all.new.marks c.node.result.head c.node.result.arguments.now
          c.loop-bound.invariant.marked e (let w = c.loop-bound.invariant.within in let t = c.requires.within in omega arith) c.if-marks-bound.true c.node.ensures.tree c.node.ensures.earlier c.mark_all.ensures;
    }

pub loop-bound-preserved : goal.loop-bound-preserved
loop-bound-preserved c =
    let e : c.loop-bound.bound ≡ (c.loop-bound.bound - 1) + 1 = omega arith in
    record {
      within = (let w = c.loop-bound.invariant.within in omega arith);
      marked = unmarked_node c.args.store.now.trees c.args.terms.now _ (c.loop-bound.bound - 1) c.loop-bound.bound c.loop-bound.marks c.loop-bound.invariant.marked e c.if-marks-bound.false;
    }

pub overflow_cast-bound : goal.overflow_cast-bound
overflow_cast-bound c = let w = c.loop-bound.invariant.within in let t = c.requires.within in grind arith
