use Rattle.std.proofs.Common.{ap, refl, ◌∙◌}
use Rattle.smt_sorts.proofs.TableLemmas.{signature_is}
use Rattle.smt_sorts.proofs.WhereLemmas.{level_is, level_within}
use Rattle.smt_sorts.specs.Listed.{first_that, has_id}
use Rattle.smt_sorts.proofs.table.Table.level_with_id.Goals as goal

pub returns-in-Some-clause-some : goal.returns-in-Some-clause-some
returns-in-Some-clause-some c =
    let found = rw c.declarations.ensures.value at c.in-Some.ensures.some in
    rw (← c.self.view_is, c.levels.ensures.value) (level_is c.self.inside.count c.self.inside.given c.self.inside.base c.self.inside.entries c.args.id c.in-Some.place _ c.self.invariant.0 found refl)

pub returns-in-Some-clause-within : goal.returns-in-Some-clause-within
returns-in-Some-clause-within c =
    let found = rw c.declarations.ensures.value at c.in-Some.ensures.some in
    rw (← c.self.view_is, c.levels.ensures.value) (level_within c.self.inside.count c.self.inside.given c.self.inside.base c.self.inside.entries c.args.id c.in-Some.place _ c.self.invariant.0 found refl)

pub returns-in-None-clause-none : goal.returns-in-None-clause-none
returns-in-None-clause-none c =
    let absent = rw c.declarations.ensures.value at c.in-None.ensures.none in
    rw (← c.self.view_is) (ap (first_that (has_id c.args.id)) (signature_is c.self.inside.count c.self.inside.given c.self.inside.base c.self.inside.entries c.self.invariant.0) ∙ absent)
