use Rattle.std.proofs.Common.{◌∙◌, ap, sym, subst, arith}
use Rattle.tableau.specs.Table.{Table, no_row}
use Rattle.tableau.proofs.FitTests.{tried_fits_so, refused_so}
use Rattle.tableau.proofs.TableLemmas.{tried_kept, tried_same, place_in}
use Rattle.tableau.specs.Holders.{IsIndexed}
use Rattle.tableau.proofs.PlaceLemmas.{tried_placed, entry_of}
use Rattle.tableau.proofs.HolderLemmas.{indexed_tried, entering_within, list_at, listed_at}
use Rattle.tableau.proofs.table.Tableau.try_pivot.Goals as goal

pub invariant_of-self : goal.invariant_of-self
invariant_of-self c = (
  tried_kept c.self.inside.rows.len c.self.inside.count c.self.inside.rows.items c.deref_mut.result.now c.try_pivot_rows.new.rows
      c.self.invariant.0 c.deref_mut.ensures.value c.self.inside.rows.ok.0 c.try_pivot_rows.auto.rows c.try_pivot_rows.ensures.same,
  tried_placed c.self.inside.rows.len c.self.inside.count c.self.inside.rows.items c.deref_mut.result.now c.try_pivot_rows.new.rows c.self.inside.places.items
      c.self.invariant.1 c.deref_mut.ensures.value c.self.inside.rows.ok.0 c.try_pivot_rows.auto.rows c.try_pivot_rows.ensures.same,
  indexed_tried c.self.inside.rows.len c.self.inside.rows.items c.deref_mut.result.now c.try_pivot_rows.new.rows c.self.inside.holders.items
      c.deref_mut.ensures.value c.self.inside.rows.ok.0 c.try_pivot_rows.auto.rows c.try_pivot_rows.ensures.same c.self.invariant.2,
)

pub returns-clause-same : goal.returns-clause-same
returns-clause-same c =
    ap (λ rs. let t : Table = record { count = c.self.inside.count; rows = rs } in t)
    (tried_same c.self.inside.rows.len c.self.inside.rows.items c.deref_mut.result.now c.try_pivot_rows.new.rows c.deref_mut.ensures.value c.self.inside.rows.ok.0 c.try_pivot_rows.auto.rows c.try_pivot_rows.ensures.same)
    ∙ c.self.view_is

pub returns-clause-fits : goal.returns-clause-fits
returns-clause-fits c =
    tried_fits_so c.try_pivot_rows.result c.self.inside.rows.items c.deref_mut.result.now c.try_pivot_rows.new.rows c.args.self.now.rows no_row c.self.inside.count c.args.self.now.count c.args.entering c.args.place _
    c.self.invariant.0 (ap (λ (t : Table). t.rows) c.self.view_is) (ap (λ (t : Table). t.count) c.self.view_is) c.requires.place c.deref_mut.ensures.value c.try_pivot_rows.ensures.same c.try_pivot_rows.ensures.ok

pub returns-clause-range : goal.returns-clause-range
returns-clause-range c =
    refused_so c.try_pivot_rows.result c.self.inside.rows.items c.deref_mut.result.now c.args.self.now.rows no_row c.self.inside.count c.args.self.now.count c.args.entering c.args.place
    c.self.invariant.0 (ap (λ (t : Table). t.rows) c.self.view_is) (ap (λ (t : Table). t.count) c.self.view_is) c.requires.place c.deref_mut.ensures.value c.try_pivot_rows.ensures.range

pub index-list-requires : goal.index-list-requires
index-list-requires c =
    let l = entering_within c.self.inside.rows.items c.self.inside.holders.items c.args.entering c.args.place c.self.invariant.2
    (place_in c.args.self.now.rows c.self.inside.rows.items c.args.place (ap (λ (t : Table). t.rows) c.self.view_is) c.requires.place)
    (entry_of c.self.inside.rows.items c.args.self.now.rows c.args.entering c.args.place (ap (λ (t : Table). t.rows) c.self.view_is) c.requires.place c.requires.entry) in omega (arith, l)

pub try_pivot_rows-requires-clause-listed : goal.try_pivot_rows-requires-clause-listed
try_pivot_rows-requires-clause-listed c =
    listed_at c.deref_mut.result.now c.self.inside.holders.items c.args.entering c.deref.result.now (subst (λ rs. IsIndexed rs c.self.inside.holders.items) (sym c.deref_mut.ensures.value) c.self.invariant.2)
    (list_at c.self.inside.holders.items c.args.entering c.index-list.result.now c.deref.result.now
    (entering_within c.self.inside.rows.items c.self.inside.holders.items c.args.entering c.args.place c.self.invariant.2
    (place_in c.args.self.now.rows c.self.inside.rows.items c.args.place (ap (λ (t : Table). t.rows) c.self.view_is) c.requires.place)
    (entry_of c.self.inside.rows.items c.args.self.now.rows c.args.entering c.args.place (ap (λ (t : Table). t.rows) c.self.view_is) c.requires.place c.requires.entry))
    c.index-list.ensures c.deref.ensures.value)
