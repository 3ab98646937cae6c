use Rattle.std.proofs.Common.{arith}
use Rattle.bound_clauses.proofs.Merging.{negation_added}
use Rattle.bound_clauses.proofs.axioms.add_negations.Goals as goal

pub loop-i-preserved : goal.loop-i-preserved
loop-i-preserved c = record {
  within = omega arith;
  rest = negation_added c.loop-i.links.items c.push.new.self.items _ c.args.bounds.now c.loop-i.i _ c.link_of_negation.result (omega arith) c.loop-i.invariant.within
      c.link_of_negation.ensures c.in_ok-push.ensures.items c.loop-i.invariant.rest;
}
