use Rattle.std.proofs.Common.{◌∙◌, ap}
use Rattle.fraction128.specs.declared.Column.{Column}
use Rattle.sum_bounds.proofs.Lookups.{passed_start, passed_on}
use Rattle.sum_bounds.proofs.lookup.find.Goals as goal

pub loop-link-init : goal.loop-link-init
loop-link-init c =
    passed_start c.args.simplex.now.columns c.args.keys.now c.args.sum.now c.requires c.hash_of.result c.last-link.result c.hash_of.ensures c.last-link.ensures

pub loop-link-smaller : goal.loop-link-smaller
loop-link-smaller c =
    (passed_on c.args.simplex.now.columns c.args.keys.now c.args.sum.now c.requires c.loop-link.link c.before-link.result c.is_same.result c.loop-link.invariant c.loop-link-test.true
    (λ e. c.is_same.ensures.1 (c.as_slice.ensures ∙ ap (λ (x : Column). x.sum) c.column.ensures ∙ e)) c.if-is_same.false c.before-link.ensures).1

pub loop-link-preserved : goal.loop-link-preserved
loop-link-preserved c =
    (passed_on c.args.simplex.now.columns c.args.keys.now c.args.sum.now c.requires c.loop-link.link c.before-link.result c.is_same.result c.loop-link.invariant c.loop-link-test.true
    (λ e. c.is_same.ensures.1 (c.as_slice.ensures ∙ ap (λ (x : Column). x.sum) c.column.ensures ∙ e)) c.if-is_same.false c.before-link.ensures).0
