use Rattle.std.proofs.Common.{◌≡◌, ◌+◌, ◌<◌, length, arith, sym, ap, subst}
use Rattle.smt_sorts.proofs.TableLemmas.{new_inside, IsLeveled-base, levels_of-base}
use Rattle.smt_sorts.proofs.KeptLemmas.{kept_insert}
use Rattle.smt_sorts.specs.Names.{Names}
use Rattle.smt_meaning.specs.Sorts.{most_symbols}
use Rattle.smt_sorts.proofs.table.Table.add_at_base.Goals as goal

pub overflow_add-base : goal.overflow_add-base
overflow_add-base c =
    let within = c.self.invariant.0.base_within in
    omega (arith, within, ap length c.declarations.ensures.value)

pub insert-requires-clause-new : goal.insert-requires-clause-new
insert-requires-clause-new c = new_inside c.self.inside.count c.self.inside.given c.self.inside.base c.self.inside.entries c.args.self.now c.args.declaration c.self.invariant.0 c.self.view_is c.requires.new

pub invariant_of-self-2 : goal.invariant_of-self-2
invariant_of-self-2 c =
    let room = subst (λ (t : Names). t.given < most_symbols) (sym c.self.view_is) c.requires.room in
    let id = subst (λ (t : Names). c.args.declaration.id ≡ t.given) (sym c.self.view_is) c.requires.id in
    let new = new_inside c.self.inside.count c.self.inside.given c.self.inside.base c.self.inside.entries c.args.self.now c.args.declaration c.self.invariant.0 c.self.view_is c.requires.new in
    rw c.in_ok-insert.ensures.ok (
      IsLeveled-base c.self.inside.count c.self.inside.given c.self.inside.base c.self.inside.entries c.args.declaration c.self.invariant.0 id room new,
      kept_insert c.self.inside.given c.self.inside.base c.self.inside.entries.declarations c.args.declaration c.self.inside.kept id c.self.invariant.1,
    )

pub returns-clause-ok : goal.returns-clause-ok
returns-clause-ok c =
    rw (c.in_ok-insert.ensures.ok, ← c.self.view_is)
    (ap (λ dss. record { levels = dss; given = c.self.inside.given + 1 }) (levels_of-base c.self.inside.count c.self.inside.given c.self.inside.base c.self.inside.entries c.args.declaration c.self.invariant.0))
