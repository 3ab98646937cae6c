use Rattle.std.proofs.Common.{◌≡◌, ◌-◌, ◌<◌, length, take, arith, ap, sym, subst, ◌∙◌}
use Rattle.smt_sorts.proofs.TableLemmas.{length-levels_of, IsLeveled-fewer, levels_of-fewer}
use Rattle.smt_sorts.proofs.KeptLemmas.{kept_take}
use Rattle.smt_sorts.specs.Names.{Names}
use Rattle.smt_sorts.specs.Leveled.{levels_of}
use Rattle.smt_sorts.proofs.table.Table.pop.Goals as goal

pub overflow_sub-self : goal.overflow_sub-self
overflow_sub-self c =
    let some = subst (λ (t : Names). c.args.levels < length t.levels) (sym c.self.view_is) c.requires in
    let size : length (levels_of c.self.inside.count c.self.inside.entries) ≡ c.self.inside.count = length-levels_of c.self.inside.count c.self.inside.entries in
    omega arith

pub invariant_of-self : goal.invariant_of-self
invariant_of-self c =
    let some = subst (λ (t : Names). c.args.levels < length t.levels) (sym c.self.view_is) c.requires in
    let size : length (levels_of c.self.inside.count c.self.inside.entries) ≡ c.self.inside.count = length-levels_of c.self.inside.count c.self.inside.entries in
    let few = c.self.invariant.0.few_levels in
    let below = rw c.levels.ensures.value at c.below_level-len.ensures.below in
    let above = rw c.levels.ensures.value at c.below_level-len.ensures.above in
    rw c.truncate.ensures (
      IsLeveled-fewer c.self.inside.count c.self.inside.given c.self.inside.base (c.self.inside.count - c.args.levels) c.below_level-len.result c.self.inside.entries c.self.invariant.0 (omega arith) (omega arith) below above,
      kept_take c.self.inside.given c.below_level-len.result c.self.inside.entries.declarations c.self.inside.kept c.self.invariant.1,
    )

pub returns : goal.returns
returns c =
    let some = subst (λ (t : Names). c.args.levels < length t.levels) (sym c.self.view_is) c.requires in
    let size : length (levels_of c.self.inside.count c.self.inside.entries) ≡ c.self.inside.count = length-levels_of c.self.inside.count c.self.inside.entries in
    let above = rw c.levels.ensures.value at c.below_level-len.ensures.above in
    rw (c.truncate.ensures, ← c.self.view_is)
    (ap (λ dss. record { levels = dss; given = c.self.inside.given })
    (levels_of-fewer c.self.inside.count c.self.inside.given c.self.inside.base (c.self.inside.count - c.args.levels) c.below_level-len.result c.self.inside.entries c.self.invariant.0 (omega arith) above
    ∙ ap (λ n. take (n - c.args.levels) (levels_of c.self.inside.count c.self.inside.entries)) (sym size)))
