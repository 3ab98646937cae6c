use Rattle.std.proofs.Common.{rules, ◌≡◌, ◌++◌, ◌∷◌, length, sym, ap, ◌∙◌, arith}
use Rattle.std.proofs.lemmas.List.{append_assoc}
use Rattle.order_clauses.specs.Pairs.{with_each, each_two}
use Rattle.order_clauses.proofs.Counting.{pairs_first, pairs_none}
use Rattle.order_clauses.proofs.pairs.add_each_two.Goals as goal

pub returns-in_err-add_with_each-clause-few : goal.returns-in_err-add_with_each-clause-few
returns-in_err-add_with_each-clause-few g c =
    let list : c.loop-first.rest.now ≡ c.in-Some.first.now ∷ c.in-Some.others.now = search rules in
    let next = pairs_first c.loop-first.rest.now c.in-Some.others.now c.in-Some.first.now list in
    let few = c.add_with_each.ensures.few in
    let steps = c.loop-first.invariant.steps in
    omega arith

pub loop-first-preserved : goal.loop-first-preserved
loop-first-preserved g c =
    let list : c.loop-first.rest.now ≡ c.in-Some.first.now ∷ c.in-Some.others.now = search rules in
    let next = pairs_first c.loop-first.rest.now c.in-Some.others.now c.in-Some.first.now list in
    let counted = c.in_ok-add_with_each.ensures.counted in
    let rise = c.loop-first.invariant.rise in
    let steps = c.loop-first.invariant.steps in
    record {
      pairs =
          ap (λ qs. qs ++ each_two c.in-Some.others.now) c.in_ok-add_with_each.ensures.pairs
          ∙ append_assoc c.loop-first.pairs.items (with_each c.in-Some.first.now c.in-Some.others.now) (each_two c.in-Some.others.now)
          ∙ ap (λ xs. c.loop-first.pairs.items ++ each_two xs) (sym list) ∙ c.loop-first.invariant.pairs;
      rise = omega arith;
      steps = omega arith;
    }

pub returns-clause-counted : goal.returns-clause-counted
returns-clause-counted g c =
    let size : length c.loop-first.rest.now ≡ 0 = search rules in
    let nothing = pairs_none (length c.loop-first.rest.now) size in
    let steps = c.loop-first.invariant.steps in
    omega arith
