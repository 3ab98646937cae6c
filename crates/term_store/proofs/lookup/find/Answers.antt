use Rattle.std.proofs.Common.{◌-◌, ◌≡◌, ◌≤◌, get_or, false, length, arith, sym, ◌∙◌, ap}
use Rattle.std.specs.Prelude.{bytes_eq}
use Rattle.term_store.proofs.SeekLemmas.{seeks_start, seeks_next}
use Rattle.term_store.proofs.lookup.find.Goals as goal

pub loop-link-init : goal.loop-link-init
loop-link-init g c =
    seeks_start g.T.Named.name c.args.items.now c.args.index.now c.args.name.now c.hash.result c.last-link.result c.requires c.hash.ensures c.last-link.ensures

pub loop-link-smaller : goal.loop-link-smaller
loop-link-smaller g c =
    let within : c.loop-link.link ≤ length c.args.items.now = c.loop-link.invariant.within in
    let other : bytes_eq c.args.name.now (g.T.Named.name (get_or c.args.items.now (c.loop-link.link - 1) c.index-items-place.result)) ≡ false =
    ap (λ x. bytes_eq c.args.name.now (g.T.Named.name x)) (sym c.index-items-place.is) ∙ ap (bytes_eq c.args.name.now) (sym c.name.ensures) ∙ sym c.same_name.ensures ∙ c.if-same_name.false in
    (seeks_next g.T.Named.name c.args.items.now c.args.index.now c.args.name.now c.loop-link.link c.before-link.result (c.loop-link.link - 1) c.index-items-place.result c.requires c.loop-link.invariant (omega arith) other c.before-link.ensures).less

pub loop-link-preserved : goal.loop-link-preserved
loop-link-preserved g c =
    let within : c.loop-link.link ≤ length c.args.items.now = c.loop-link.invariant.within in
    let other : bytes_eq c.args.name.now (g.T.Named.name (get_or c.args.items.now (c.loop-link.link - 1) c.index-items-place.result)) ≡ false =
    ap (λ x. bytes_eq c.args.name.now (g.T.Named.name x)) (sym c.index-items-place.is) ∙ ap (bytes_eq c.args.name.now) (sym c.name.ensures) ∙ sym c.same_name.ensures ∙ c.if-same_name.false in
    (seeks_next g.T.Named.name c.args.items.now c.args.index.now c.args.name.now c.loop-link.link c.before-link.result (c.loop-link.link - 1) c.index-items-place.result c.requires c.loop-link.invariant (omega arith) other c.before-link.ensures).seeks
