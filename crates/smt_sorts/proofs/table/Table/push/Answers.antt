use Rattle.std.proofs.Common.{◌+◌, ◌^◌, ◌<◌, length, arith, ap, sym, subst}
use Rattle.smt_sorts.proofs.TableLemmas.{length-levels_of, IsLeveled-more, levels_of-more}
use Rattle.smt_sorts.specs.Names.{Names}
use Rattle.smt_sorts.proofs.table.Table.push.Goals as goal

pub overflow_add-self : goal.overflow_add-self
overflow_add-self c =
    let room = subst (λ (t : Names). length t.levels + c.args.levels < 2 ^ 32) (sym c.self.view_is) c.requires in
    omega (arith, length-levels_of c.self.inside.count c.self.inside.entries)

pub invariant_of-self : goal.invariant_of-self
invariant_of-self c =
    let room = subst (λ (t : Names). length t.levels + c.args.levels < 2 ^ 32) (sym c.self.view_is) c.requires in
    (IsLeveled-more c.self.inside.count c.self.inside.given c.self.inside.base c.args.levels c.self.inside.entries c.self.invariant.0 (omega (arith, length-levels_of c.self.inside.count c.self.inside.entries)), c.self.invariant.1)

pub returns : goal.returns
returns c = rw (← c.self.view_is) (ap (λ dss. record { levels = dss; given = c.self.inside.given }) (levels_of-more c.self.inside.count c.self.inside.given c.self.inside.base c.args.levels c.self.inside.entries c.self.invariant.0))
