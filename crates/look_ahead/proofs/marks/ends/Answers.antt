use Rattle.std.proofs.Common.{◌-◌, subst, arith, ◌≡◌}
use Rattle.look_ahead.specs.Marks.{AreMarked}
use Rattle.look_ahead.proofs.MarkLemmas.{inside_sexp, all_marked}
use Rattle.look_ahead.proofs.marks.ends.Goals as goal

pub mark-requires-clause-inside : goal.mark-requires-clause-inside
mark-requires-clause-inside c = λ i. inside_sexp c.args.term.now i (c.s_expressions_read_back.ensures c.args.term.now c.len-count.ensures.matched).0

pub returns : goal.returns
returns c =
    let all : c.len-count.result - c.loop-back.back ≡ 0 = omega arith in
    all_marked c.args.term.now c.loop-back.ends.items c.loop-back.closing.items (c.s_expressions_read_back.ensures c.args.term.now c.len-count.ensures.matched).0
    (subst (λ i. AreMarked c.args.term.now i c.loop-back.ends.items c.loop-back.closing.items) all c.loop-back.invariant)
