use Rattle.std.proofs.Common.{◌-◌, length, get_or, arith, ap, ◌∙◌}
use Rattle.term_store.specs.Latest.{last_place}
use Rattle.model_eval.specs.Rows.{row_hashes}
use Rattle.model_eval.proofs.RowLemmas.{seeks_start, seeks_next, length-row_hashes}
use Rattle.model_eval.proofs.rows.find.Goals as goal

pub loop-link-init : goal.loop-link-init
loop-link-init c =
    seeks_start c.args.rows.now c.args.default c.args.arguments.now c.last-link.result
    (c.last-link.ensures ∙ ap (λ hs. last_place hs c.hash_of.result (length hs)) c.requires ∙ ap (λ h. last_place (row_hashes c.args.rows.now) h (length (row_hashes c.args.rows.now))) c.hash_of.ensures)

pub before-link-requires : goal.before-link-requires
before-link-requires c =
    let within = c.loop-link.invariant.within in
    omega (arith, length-row_hashes c.args.rows.now, ap length c.requires)

pub loop-link-smaller : goal.loop-link-smaller
loop-link-smaller c =
    (seeks_next c.args.rows.now c.args.default c.args.arguments.now c.loop-link.link c.before-link.result c.index-rows-rows.result c.loop-link.invariant (omega arith) c.index-rows-rows.is
    (grind arith)
    (c.before-link.ensures ∙ ap (λ hs. last_place hs (get_or hs (c.loop-link.link - 1) 0) (c.loop-link.link - 1)) c.requires)).less

pub loop-link-preserved : goal.loop-link-preserved
loop-link-preserved c =
    (seeks_next c.args.rows.now c.args.default c.args.arguments.now c.loop-link.link c.before-link.result c.index-rows-rows.result c.loop-link.invariant (omega arith) c.index-rows-rows.is
    (grind arith)
    (c.before-link.ensures ∙ ap (λ hs. last_place hs (get_or hs (c.loop-link.link - 1) 0) (c.loop-link.link - 1)) c.requires)).seeks
