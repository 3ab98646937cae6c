use Rattle.std.proofs.Common.{arith, length, ◌<◌}
use Rattle.model_eval.proofs.MarkLemmas.{top_more, take_past}
use Rattle.model_eval.proofs.marks.top_of.Goals as goal

pub loop-term-preserved : goal.loop-term-preserved
loop-term-preserved c =
    let short : c.loop-term.term-index < length c.args.terms.now = c.loop-term-test.true in
    record {
      below = rw c.raised-top.ensures (top_more c.loop-term.top c.args.terms.now c.loop-term.term-index short c.loop-term.invariant.below);
      least = λ n h. (let last = h c.loop-term.term-index 0 short in let before = c.loop-term.invariant.least n h in omega (arith, c.raised-top.ensures));
    }

pub returns-clause-below : goal.returns-clause-below
returns-clause-below c = rw (← take_past c.loop-term.term-index c.args.terms.now (omega arith)) c.loop-term.invariant.below
