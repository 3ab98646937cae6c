use Rattle.std.proofs.Common.{ap, subst, ◌∙◌}
use Rattle.smt_sorts.proofs.TableLemmas.{signature_is, IsTable-leveled}
use Rattle.smt_sorts.proofs.PlaceLemmas.{first_at_place}
use Rattle.smt_sorts.specs.Names.{IsTable}
use Rattle.smt_sorts.specs.Listed.{first_that, has_id}
use Rattle.smt_sorts.proofs.table.Table.with_id.Goals as goal

pub returns-in-Some-clause-some : goal.returns-in-Some-clause-some
returns-in-Some-clause-some c =
    let found = rw c.declarations-declarations.ensures.value at c.in-Some.ensures.some in
    let is = rw c.declarations-declarations.ensures.value at c.index-declarations-place.is in
    rw (← c.self.view_is)
    (ap (first_that (has_id c.args.id)) (signature_is c.self.inside.count c.self.inside.given c.self.inside.base c.self.inside.entries c.self.invariant.0)
    ∙ first_at_place c.self.inside.entries.declarations c.args.id c.in-Some.place c.index-declarations-place.result c.self.invariant.0.ids_apart found is)

pub returns-in-Some-clause-apart : goal.returns-in-Some-clause-apart
returns-in-Some-clause-apart c = (subst IsTable c.self.view_is (IsTable-leveled c.self.inside.count c.self.inside.given c.self.inside.base c.self.inside.entries c.self.invariant.0)).ids_apart

pub returns-in-None-clause-none : goal.returns-in-None-clause-none
returns-in-None-clause-none c =
    let absent = rw c.declarations-declarations.ensures.value at c.in-None.ensures.none in
    rw (← c.self.view_is) (ap (first_that (has_id c.args.id)) (signature_is c.self.inside.count c.self.inside.given c.self.inside.base c.self.inside.entries c.self.invariant.0) ∙ absent)

pub returns-in-None-clause-apart : goal.returns-in-None-clause-apart
returns-in-None-clause-apart c = (subst IsTable c.self.view_is (IsTable-leveled c.self.inside.count c.self.inside.given c.self.inside.base c.self.inside.entries c.self.invariant.0)).ids_apart
