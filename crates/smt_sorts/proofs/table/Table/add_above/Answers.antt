use Rattle.std.proofs.Common.{◌≡◌, ◌+◌, ◌-◌, ◌<◌, length, arith, sym, ap, subst}
use Rattle.smt_sorts.proofs.TableLemmas.{new_inside, length-levels_of, IsLeveled-above, levels_of-above}
use Rattle.smt_sorts.proofs.KeptLemmas.{kept_insert}
use Rattle.smt_sorts.specs.Names.{Names}
use Rattle.smt_sorts.specs.Leveled.{levels_of}
use Rattle.smt_meaning.specs.Sorts.{most_symbols}
use Rattle.smt_sorts.proofs.table.Table.add_above.Goals as goal

pub insert-requires-clause-new : goal.insert-requires-clause-new
insert-requires-clause-new c = new_inside c.self.inside.count c.self.inside.given c.self.inside.base c.self.inside.entries c.args.self.now c.args.declaration c.self.invariant.0 c.self.view_is c.requires.new

pub invariant_of-self-2 : goal.invariant_of-self-2
invariant_of-self-2 c =
    let room = subst (λ (t : Names). t.given < most_symbols) (sym c.self.view_is) c.requires.room in
    let id = subst (λ (t : Names). c.args.declaration.id ≡ t.given) (sym c.self.view_is) c.requires.id in
    let above = subst (λ (t : Names). 1 < length t.levels) (sym c.self.view_is) c.requires.above in
    let size : length (levels_of c.self.inside.count c.self.inside.entries) ≡ c.self.inside.count = length-levels_of c.self.inside.count c.self.inside.entries in
    let new = new_inside c.self.inside.count c.self.inside.given c.self.inside.base c.self.inside.entries c.args.self.now c.args.declaration c.self.invariant.0 c.self.view_is c.requires.new in
    rw (c.in_ok-insert.ensures.ok, c.declarations-place.ensures.value) (
      IsLeveled-above c.self.inside.count c.self.inside.given c.self.inside.base c.self.inside.entries c.args.declaration c.self.invariant.0 id (c.self.inside.count - 1) room new (omega arith) (omega arith),
      kept_insert c.self.inside.given (length c.self.inside.entries.declarations) c.self.inside.entries.declarations c.args.declaration c.self.inside.kept id c.self.invariant.1,
    )

pub returns-clause-ok : goal.returns-clause-ok
returns-clause-ok c =
    let above = subst (λ (t : Names). 1 < length t.levels) (sym c.self.view_is) c.requires.above in
    let size : length (levels_of c.self.inside.count c.self.inside.entries) ≡ c.self.inside.count = length-levels_of c.self.inside.count c.self.inside.entries in
    rw (c.in_ok-insert.ensures.ok, c.declarations-place.ensures.value, ← c.self.view_is)
    (ap (λ dss. record { levels = dss; given = c.self.inside.given + 1 })
    (levels_of-above c.self.inside.count c.self.inside.given c.self.inside.base (c.self.inside.count - 1) c.self.inside.entries c.args.declaration c.self.invariant.0 (omega arith)))
