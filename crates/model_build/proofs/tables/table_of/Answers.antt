use Rattle.std.proofs.Common.{◌≡◌, length, subst, ap, ◌∙◌}
use Rattle.smt_meaning.specs.declared.values.Table.{Table}
use Rattle.term_store.specs.Latest.{last_place}
use Rattle.model_build.specs.Filling.{empty_table, table_of}
use Rattle.model_build.proofs.Fills.{IsFilled, filled_start, filled_on, filled_end}
use Rattle.model_build.proofs.tables.table_of.Goals as goal

pub loop-link-init : goal.loop-link-init
loop-link-init c =
    let e : empty_table c.args.declaration.now ≡ record { symbol = c.id.result; rows = c.new.result; default = c.default_of.result } = cc in
    subst (λ (t : Table). IsFilled c.args.store.now.trees c.args.given.now (empty_table c.args.declaration.now) c.args.firsts.now c.args.symbols.now t c.last-link.result) e
    (filled_start c.args.store.now.trees c.args.given.now (empty_table c.args.declaration.now) c.args.firsts.now c.args.symbols.now c.requires.symbols c.last-link.result
    (c.last-link.ensures ∙ ap (λ f. last_place c.args.symbols.now f (length c.args.symbols.now)) c.id.ensures))

pub loop-link-smaller : goal.loop-link-smaller
loop-link-smaller c =
    (filled_on c.args.store.now.trees c.args.given.now (empty_table c.args.declaration.now) c.args.firsts.now c.args.symbols.now c.requires.symbols c.loop-link.table c.put.new.table
    c.loop-link.link c.before-link.result c.loop-link.invariant c.loop-link-test.true c.before-link.ensures c.in_ok-put.ensures).1

pub loop-link-preserved : goal.loop-link-preserved
loop-link-preserved c =
    (filled_on c.args.store.now.trees c.args.given.now (empty_table c.args.declaration.now) c.args.firsts.now c.args.symbols.now c.requires.symbols c.loop-link.table c.put.new.table
    c.loop-link.link c.before-link.result c.loop-link.invariant c.loop-link-test.true c.before-link.ensures c.in_ok-put.ensures).0

pub returns : goal.returns
unfolding table_of
returns c =
    filled_end c.args.store.now.trees c.args.given.now (empty_table c.args.declaration.now) c.args.firsts.now c.args.symbols.now c.requires.symbols c.loop-link.table c.loop-link.link
    c.loop-link.invariant c.loop-link-test.false
