use Rattle.std.proofs.Common.{◌∙◌, ap, refl, sym, subst}
use Rattle.std.proofs.lemmas.Result.{on_ok_weaker, on_err_weaker}
use Rattle.fraction128.specs.Grid.{pivoted_rows}
use Rattle.tableau.specs.Table.{Table, no_row, row_at}
use Rattle.tableau.proofs.PivotedRows.{pivot_rows_are}
use Rattle.tableau.proofs.FitTests.{pivot_fits_so, refused_so}
use Rattle.tableau.proofs.TableLemmas.{pivot_kept, pivot_keeps, pivot_same, pivot_entered, pivot_others}
use Rattle.tableau.specs.Holders.{IsIndexed}
use Rattle.tableau.proofs.HolderLemmas.{indexed_back}
use Rattle.tableau.proofs.PlaceLemmas.{basic_listed, entering_listed, pivot_placed}
use Rattle.tableau.proofs.table.Tableau.pivot.Goals as goal

pub exchange-requires-clause-basic : goal.exchange-requires-clause-basic
exchange-requires-clause-basic c =
    basic_listed c.self.inside.count c.index.result.now.basic c.args.place c.self.inside.rows.items c.args.self.now.rows c.self.inside.places.items c.index.result.now c.self.invariant.1 (ap (λ (t : Table). t.rows) c.self.view_is) c.requires.place c.index.ensures refl

pub exchange-requires-clause-entering : goal.exchange-requires-clause-entering
exchange-requires-clause-entering c =
    entering_listed c.self.inside.count c.args.entering c.args.place c.self.inside.rows.items c.args.self.now.rows c.self.inside.places.items c.index.result.now c.self.invariant.1 (ap (λ (t : Table). t.rows) c.self.view_is) c.requires.place c.requires.entry

pub invariant_of-self : goal.invariant_of-self
invariant_of-self c = (
  pivot_kept c.pivot_rows-made.result c.self.inside.rows.len c.self.inside.count c.args.entering c.args.place c.self.inside.rows.items c.deref_mut.result.now c.pivot_rows-made.new.rows c.args.self.now.rows
      c.self.invariant.0 (ap (λ (t : Table). t.rows) c.self.view_is) c.requires.place c.deref_mut.ensures.value c.self.inside.rows.ok.0 c.pivot_rows-made.auto.rows c.pivot_rows-made.ensures.ok c.pivot_rows-made.ensures.err,
  pivot_placed c.pivot_rows-made.result c.self.inside.rows.len c.self.inside.count c.index.result.now.basic c.args.entering c.args.place c.self.inside.rows.items c.deref_mut.result.now c.pivot_rows-made.new.rows c.args.self.now.rows
      c.self.inside.places.items c.exchange.new.places.items c.index.result.now c.self.invariant.1 (ap (λ (t : Table). t.rows) c.self.view_is) c.requires.place c.deref_mut.ensures.value c.self.inside.rows.ok.0 c.pivot_rows-made.auto.rows
      c.index.ensures refl c.requires.entry c.pivot_rows-made.ensures.ok c.pivot_rows-made.ensures.err c.exchange.ensures.ok c.exchange.ensures.err,
  indexed_back c.self.inside.rows.len c.self.inside.rows.items c.deref_mut.result.now c.pivot_rows-made.new.rows c.pivot_rows-made.new.holders.items
      c.deref_mut.ensures.value c.self.inside.rows.ok.0 c.pivot_rows-made.auto.rows c.pivot_rows-made.ensures.indexed,
)

pub pivot_rows-made-requires-clause-indexed : goal.pivot_rows-made-requires-clause-indexed
pivot_rows-made-requires-clause-indexed c = subst (λ rs. IsIndexed rs c.self.inside.holders.items) (sym c.deref_mut.ensures.value) c.self.invariant.2

pub returns-clause-keeps : goal.returns-clause-keeps
returns-clause-keeps c =
    pivot_keeps c.pivot_rows-made.result c.self.inside.rows.len c.self.inside.count c.args.entering c.args.place c.self.inside.rows.items c.deref_mut.result.now c.pivot_rows-made.new.rows c.args.self.now.rows
    c.self.invariant.0 (ap (λ (t : Table). t.rows) c.self.view_is) c.requires.place c.deref_mut.ensures.value c.self.inside.rows.ok.0 c.pivot_rows-made.auto.rows c.pivot_rows-made.ensures.ok

pub returns-clause-err : goal.returns-clause-err
returns-clause-err c =
    on_err_weaker c.pivot_rows-made.result
    (λ e. ap (λ rs. let t : Table = record { count = c.self.inside.count; rows = rs } in t) e ∙ c.self.view_is)
    (pivot_same c.pivot_rows-made.result c.self.inside.rows.len c.self.inside.rows.items c.deref_mut.result.now c.pivot_rows-made.new.rows c.deref_mut.ensures.value c.self.inside.rows.ok.0 c.pivot_rows-made.auto.rows
    c.pivot_rows-made.ensures.err)

pub returns-clause-entered : goal.returns-clause-entered
returns-clause-entered c =
    pivot_entered c.pivot_rows-made.result c.self.inside.rows.len c.args.entering c.args.place c.self.inside.rows.items c.deref_mut.result.now c.pivot_rows-made.new.rows c.args.self.now.rows
    (ap (λ (t : Table). t.rows) c.self.view_is) c.requires.place c.deref_mut.ensures.value c.self.inside.rows.ok.0 c.pivot_rows-made.auto.rows c.pivot_rows-made.ensures.ok

pub returns-clause-others : goal.returns-clause-others
returns-clause-others c =
    pivot_others c.pivot_rows-made.result c.self.inside.rows.len c.args.entering c.args.place c.self.inside.rows.items c.deref_mut.result.now c.pivot_rows-made.new.rows c.args.self.now.rows
    (ap (λ (t : Table). t.rows) c.self.view_is) c.deref_mut.ensures.value c.self.inside.rows.ok.0 c.pivot_rows-made.auto.rows c.pivot_rows-made.ensures.ok

pub returns-clause-exact : goal.returns-clause-exact
returns-clause-exact c =
    on_ok_weaker c.pivot_rows-made.result
    (λ e. e ∙ ap (λ n. pivoted_rows n c.args.self.now.rows (row_at c.args.self.now.rows c.args.place).basic c.args.entering) (ap (λ (t : Table). t.count) c.self.view_is))
    (pivot_rows_are c.pivot_rows-made.result c.self.inside.rows.len c.self.inside.count c.args.entering c.args.place c.self.inside.rows.items c.deref_mut.result.now c.pivot_rows-made.new.rows c.args.self.now.rows
    no_row c.self.invariant.0 (ap (λ (t : Table). t.rows) c.self.view_is) c.requires.place c.deref_mut.ensures.value c.self.inside.rows.ok.0 c.pivot_rows-made.auto.rows c.pivot_rows-made.ensures.ok)

pub returns-clause-fits : goal.returns-clause-fits
returns-clause-fits c =
    pivot_fits_so c.pivot_rows-made.result c.self.inside.rows.items c.deref_mut.result.now c.pivot_rows-made.new.rows c.args.self.now.rows no_row c.self.inside.count c.args.self.now.count c.args.entering c.args.place
    c.self.invariant.0 (ap (λ (t : Table). t.rows) c.self.view_is) (ap (λ (t : Table). t.count) c.self.view_is) c.requires.place c.deref_mut.ensures.value c.pivot_rows-made.ensures.ok

pub returns-clause-range : goal.returns-clause-range
returns-clause-range c =
    refused_so c.pivot_rows-made.result c.self.inside.rows.items c.deref_mut.result.now c.args.self.now.rows no_row c.self.inside.count c.args.self.now.count c.args.entering c.args.place
    c.self.invariant.0 (ap (λ (t : Table). t.rows) c.self.view_is) (ap (λ (t : Table). t.count) c.self.view_is) c.requires.place c.deref_mut.ensures.value c.pivot_rows-made.ensures.range
