use Rattle.std.proofs.Common.{◌-◌, ◌≤◌, length, arith, sym, ◌∙◌, ap}
use Rattle.std.proofs.lemmas.List.{get_or_read}
use Rattle.smt_sorts.specs.Listed.{is_named}
use Rattle.smt_sorts.proofs.FindLemmas.{seeks_start, seeks_next, seeks_end, first_named}
use Rattle.smt_sorts.proofs.entries.find.Goals as goal

pub loop-link-init : goal.loop-link-init
loop-link-init c = seeks_start c.args.declarations.now c.args.index.now c.args.kind c.args.name.now c.hash.result c.last-link.result c.requires.hashed c.hash.ensures c.last-link.ensures

pub loop-link-smaller : goal.loop-link-smaller
loop-link-smaller c =
    let within : c.loop-link.link ≤ length c.args.declarations.now = c.loop-link.invariant.within in
    (seeks_next c.args.declarations.now c.args.index.now c.args.kind c.args.name.now c.loop-link.link c.before-link.result (c.loop-link.link - 1) c.requires.hashed c.loop-link.invariant (omega arith)
    (λ d. ap (is_named c.args.kind c.args.name.now) (sym (get_or_read c.args.declarations.now (c.loop-link.link - 1) c.index-declarations-place.result (omega arith) c.index-declarations-place.is d)) ∙ sym c.is_named.ensures ∙ c.if-is_named.false)
    c.before-link.ensures).less

pub loop-link-preserved : goal.loop-link-preserved
loop-link-preserved c =
    let within : c.loop-link.link ≤ length c.args.declarations.now = c.loop-link.invariant.within in
    (seeks_next c.args.declarations.now c.args.index.now c.args.kind c.args.name.now c.loop-link.link c.before-link.result (c.loop-link.link - 1) c.requires.hashed c.loop-link.invariant (omega arith)
    (λ d. ap (is_named c.args.kind c.args.name.now) (sym (get_or_read c.args.declarations.now (c.loop-link.link - 1) c.index-declarations-place.result (omega arith) c.index-declarations-place.is d)) ∙ sym c.is_named.ensures ∙ c.if-is_named.false)
    c.before-link.ensures).seeks

pub returns-then-is_named-clause-some : goal.returns-then-is_named-clause-some
returns-then-is_named-clause-some c =
    let within : c.loop-link.link ≤ length c.args.declarations.now = c.loop-link.invariant.within in
    first_named c.args.declarations.now c.args.kind c.args.name.now (c.loop-link.link - 1) c.index-declarations-place.result c.requires.apart (omega arith) c.index-declarations-place.is
    (sym c.is_named.ensures ∙ c.if-is_named.true)

pub returns-clause-none : goal.returns-clause-none
returns-clause-none c = seeks_end c.args.declarations.now c.args.index.now c.args.kind c.args.name.now c.loop-link.link c.loop-link.invariant (omega arith)
