use Rattle.std.proofs.Common.{subst, arith}
use Rattle.literals.specs.Signed.{Signed}
use Rattle.sum_bounds.specs.Complements.{IsPut}
use Rattle.sum_bounds.proofs.Complements.{clause_more, clause_all}
use Rattle.sum_bounds.proofs.told.clause_of.Goals as goal

pub loop-tag-preserved : goal.loop-tag-preserved
loop-tag-preserved c =
    clause_more c.loop-tag.tag-index c.args.tags.now c.loop-tag.clause.items c.put.new.clause.items c.loop-tag.invariant
    (subst (λ (l : Signed). IsPut c.loop-tag.clause.items l c.put.new.clause.items) c.complement_of.ensures c.in_ok-put.ensures)

pub returns : goal.returns
returns c =
    let up = c.loop-tag.auto.tag-index-end in
    let down = c.loop-tag-test.false in
    clause_all c.loop-tag.tag-index c.args.tags.now c.loop-tag.clause.items (omega (arith, up, down)) c.loop-tag.invariant
