use Rattle.std.proofs.Common.{◌≡◌, suc, ◌-◌, arith, sym, ◌∙◌}
use Rattle.term_store.specs.Nodes.{plain, nodes_of}
use Rattle.term_store.proofs.StoreLemmas.{seeks_start, seeks_next}
use Rattle.term_store.proofs.store.find.Goals as goal

pub loop-link-init : goal.loop-link-init
loop-link-init c =
    seeks_start (nodes_of c.args.rows.now) c.args.index.now c.args.hash c.last-link.result (plain c.args.node.head c.args.node.arguments.now) c.requires.hashed c.requires.hash c.last-link.ensures

pub loop-link-smaller : goal.loop-link-smaller
loop-link-smaller c =
    let e : c.loop-link.link ≡ suc (c.loop-link.link - 1) = omega arith in
    (seeks_next (nodes_of c.args.rows.now) c.args.index.now c.args.hash c.loop-link.link c.before-link.result (c.loop-link.link - 1) (plain c.args.node.head c.args.node.arguments.now)
    c.requires.hashed c.requires.hash c.loop-link.invariant e
    (λ d same. (let yes = c.is_same.ensures.1 (sym (c.node_at.ensures d) ∙ same) in cc))
    c.before-link.ensures).less

pub loop-link-preserved : goal.loop-link-preserved
loop-link-preserved c =
    let e : c.loop-link.link ≡ suc (c.loop-link.link - 1) = omega arith in
    (seeks_next (nodes_of c.args.rows.now) c.args.index.now c.args.hash c.loop-link.link c.before-link.result (c.loop-link.link - 1) (plain c.args.node.head c.args.node.arguments.now)
    c.requires.hashed c.requires.hash c.loop-link.invariant e
    (λ d same. (let yes = c.is_same.ensures.1 (sym (c.node_at.ensures d) ∙ same) in cc))
    c.before-link.ensures).seeks
