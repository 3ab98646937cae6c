use Rattle.std.proofs.Common.{◌≡◌, ◌<◌, ◌-◌, true, false, length, take, drop, ◌++◌, ◌∙◌, ap, sym, rules, arith, length-drop, SFits}
use Rattle.std.specs.Prelude.{int_lt}
use Rattle.std.specs.Int.{w128}
use Rattle.std.proofs.lemmas.List.{take_all}
use Rattle.std.proofs.lemmas.Result.{on_ok_weaker}
use Rattle.bound_clauses.specs.Chain.{chain_of, of_sums, of_negations}
use Rattle.bound_clauses.proofs.Merging.{read_back, second_moved, first_moved, ended}
use Rattle.bound_clauses.proofs.axioms.merge.Goals as goal
use Rattle.bound_clauses.proofs.axioms.merge.Goals.{then-loop-i-test+else-j-gt0, else-loop-i-test}

pub loop-i-preserved-then-is_below : goal.loop-i-preserved-then-is_below
loop-i-preserved-then-is_below c =
    let lower_fits : SFits w128 c.link_of_negation-lower.result.threshold = search rules in
    let upper_fits : SFits w128 c.link_of_sum-upper.result.threshold = search rules in
    record {
      here = c.loop-i.invariant.here;
      there = omega arith;
      rest = second_moved c.loop-i.links.items c.push.new.self.items _ c.args.bounds.now c.args.negated.now c.loop-i.i c.loop-i.j _ _ c.link_of_sum-upper.result c.link_of_negation-lower.result
          (omega arith) (omega arith) c.loop-i.invariant.there c.link_of_sum-upper.ensures c.link_of_negation-lower.ensures
          (read_back int_lt _ _ true lower_fits upper_fits (sym c.is_below.ensures ∙ c.if-is_below.true)) c.in_ok-push.ensures.items c.loop-i.invariant.rest;
    }

pub loop-i-preserved : goal.loop-i-preserved
loop-i-preserved c =
    let lower_fits : SFits w128 c.link_of_negation-lower.result.threshold = search rules in
    let upper_fits : SFits w128 c.link_of_sum-upper.result.threshold = search rules in
    record {
      here = omega arith;
      there = c.loop-i.invariant.there;
      rest = first_moved c.loop-i.links.items c.push-else-is_below.new.self.items _ c.args.bounds.now c.args.negated.now c.loop-i.i c.loop-i.j _ _ c.link_of_sum-upper.result c.link_of_negation-lower.result
          (omega arith) (omega arith) c.loop-i.invariant.there c.link_of_sum-upper.ensures c.link_of_negation-lower.ensures
          (read_back int_lt _ _ false lower_fits upper_fits (sym c.is_below.ensures ∙ c.if-is_below.false)) c.in_ok-push-2.ensures.items c.loop-i.invariant.rest;
    }

pub returns : goal.returns
unfolding chain_of
returns c =
    let bounds = c.args.bounds.now in
    let stop : c.loop-i.i < length bounds → 0 < c.loop-i.j → ⊥ =
    λ h k. elim c.loop-i-test.branch [ then-loop-i-test+else-j-gt0 w ↦ absurd (omega arith) | else-loop-i-test w ↦ absurd (omega arith) ] in
    let whole : take (length bounds - c.loop-i.i) (drop c.loop-i.i bounds) ≡ drop c.loop-i.i bounds = take_all (length bounds - c.loop-i.i) (drop c.loop-i.i bounds) (omega (arith, length-drop c.loop-i.i bounds)) in
    on_ok_weaker c.add_negations.result
    (λ e. e ∙ ap (λ xs. xs ++ of_negations (take c.loop-i.j c.args.negated.now)) (c.in_ok-add_sums.ensures ∙ ap (λ bs. c.loop-i.links.items ++ of_sums bs) whole)
    ∙ ended c.loop-i.links.items _ bounds c.args.negated.now c.loop-i.i c.loop-i.j c.loop-i.invariant.here stop c.loop-i.invariant.rest)
    c.add_negations.ensures
