use Rattle.std.proofs.Common.{arith}
use Rattle.atom_form.specs.Sums.{sums_in}
use Rattle.atom_form.proofs.SumTableNumbering.{passed_start, passed_on, passed_all, link_within, length-sums}
use Rattle.atom_form.proofs.sum_table.find.Goals as goal

pub loop-link-init : goal.loop-link-init
loop-link-init c =
    passed_start (sums_in c.args.all.now c.args.spans.now) c.args.keys.now c.args.sum.now c.args.hash c.requires.hashed c.requires.hash c.last-link.result c.last-link.ensures

pub sum_at-requires-clause-number : goal.sum_at-requires-clause-number
sum_at-requires-clause-number c =
    let within = link_within (sums_in c.args.all.now c.args.spans.now) c.args.keys.now c.args.sum.now c.args.hash c.requires.hashed c.requires.hash c.loop-link.link c.loop-link.invariant in
    omega (arith, within, length-sums c.args.all.now c.args.spans.now)

pub loop-link-smaller : goal.loop-link-smaller
loop-link-smaller c =
    (passed_on (sums_in c.args.all.now c.args.spans.now) c.args.keys.now c.args.sum.now c.args.hash c.requires.hashed c.requires.hash c.loop-link.link c.before-link.result c.sum_at.result.now c.is_same.result
    c.loop-link.invariant c.loop-link-test.true c.sum_at.ensures c.is_same.ensures.1 c.if-is_same.false c.before-link.ensures).1

pub loop-link-preserved : goal.loop-link-preserved
loop-link-preserved c =
    (passed_on (sums_in c.args.all.now c.args.spans.now) c.args.keys.now c.args.sum.now c.args.hash c.requires.hashed c.requires.hash c.loop-link.link c.before-link.result c.sum_at.result.now c.is_same.result
    c.loop-link.invariant c.loop-link-test.true c.sum_at.ensures c.is_same.ensures.1 c.if-is_same.false c.before-link.ensures).0

pub returns-clause-none : goal.returns-clause-none
returns-clause-none c =
    passed_all (sums_in c.args.all.now c.args.spans.now) c.args.keys.now c.args.sum.now c.args.hash c.requires.hashed c.requires.hash c.loop-link.link c.loop-link.invariant c.loop-link-test.false
