use Rattle.std.proofs.Common.{◌≡◌, suc, ◌-◌, sym, ◌∙◌, arith}
use Rattle.term_store.proofs.IndexLemmas.{follow_stops, follow_goes}
use Rattle.term_store.proofs.index.follow.Goals as goal

pub returns-then-links-place : goal.returns-then-links-place
returns-then-links-place c =
    let e : c.loop-link.link ≡ suc (c.loop-link.link - 1) = omega arith in
    sym (follow_stops c.args.links.now c.args.hash c.loop-link.link (c.loop-link.link - 1) (record { hash = 0; before = 0 }) e c.loop-link.invariant.chain.within c.if-links-place.true) ∙ c.loop-link.invariant.same

pub loop-link-smaller : goal.loop-link-smaller
loop-link-smaller c =
    let e : c.loop-link.link ≡ suc (c.loop-link.link - 1) = omega arith in
    (follow_goes c.args.links.now c.args.hash c.loop-link.link (c.loop-link.link - 1) (record { hash = 0; before = 0 }) e c.loop-link.invariant.chain c.if-links-place.false).less

pub loop-link-preserved : goal.loop-link-preserved
loop-link-preserved c =
    let e : c.loop-link.link ≡ suc (c.loop-link.link - 1) = omega arith in
    let goes = follow_goes c.args.links.now c.args.hash c.loop-link.link (c.loop-link.link - 1) (record { hash = 0; before = 0 }) e c.loop-link.invariant.chain c.if-links-place.false in
    record { chain = goes.chain; same = goes.same ∙ c.loop-link.invariant.same }
