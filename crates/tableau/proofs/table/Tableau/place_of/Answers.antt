use Rattle.std.proofs.Common.{ap}
use Rattle.tableau.specs.Table.{Table}
use Rattle.tableau.proofs.PlaceLemmas.{place_facts, is_inside, is_of, is_row, is_none, is_lacking}
use Rattle.tableau.proofs.table.Tableau.place_of.Goals as goal

pub returns-clause-some : goal.returns-clause-some
returns-clause-some c =
    is_inside c.args.self.now.rows c.args.variable c.place_in.result
    (place_facts c.self.inside.count c.self.inside.rows.items c.args.self.now.rows c.self.inside.places.items c.deref.result.now c.args.variable c.place_in.result c.self.invariant.1 (ap (λ (t : Table). t.rows) c.self.view_is) c.deref.ensures.value c.place_in.ensures)

pub returns-clause-basic : goal.returns-clause-basic
returns-clause-basic c =
    is_of c.args.self.now.rows c.args.variable c.place_in.result
    (place_facts c.self.inside.count c.self.inside.rows.items c.args.self.now.rows c.self.inside.places.items c.deref.result.now c.args.variable c.place_in.result c.self.invariant.1 (ap (λ (t : Table). t.rows) c.self.view_is) c.deref.ensures.value c.place_in.ensures)

pub returns-clause-row : goal.returns-clause-row
returns-clause-row c =
    is_row c.args.self.now.rows c.args.variable c.place_in.result
    (place_facts c.self.inside.count c.self.inside.rows.items c.args.self.now.rows c.self.inside.places.items c.deref.result.now c.args.variable c.place_in.result c.self.invariant.1 (ap (λ (t : Table). t.rows) c.self.view_is) c.deref.ensures.value c.place_in.ensures)

pub returns-clause-none : goal.returns-clause-none
returns-clause-none c =
    is_none c.args.self.now.rows c.args.variable c.place_in.result
    (place_facts c.self.inside.count c.self.inside.rows.items c.args.self.now.rows c.self.inside.places.items c.deref.result.now c.args.variable c.place_in.result c.self.invariant.1 (ap (λ (t : Table). t.rows) c.self.view_is) c.deref.ensures.value c.place_in.ensures)

pub returns-clause-lacks : goal.returns-clause-lacks
returns-clause-lacks c =
    is_lacking c.args.self.now.rows c.args.variable c.place_in.result
    (place_facts c.self.inside.count c.self.inside.rows.items c.args.self.now.rows c.self.inside.places.items c.deref.result.now c.args.variable c.place_in.result c.self.invariant.1 (ap (λ (t : Table). t.rows) c.self.view_is) c.deref.ensures.value c.place_in.ensures)
