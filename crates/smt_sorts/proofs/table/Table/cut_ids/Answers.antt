use Rattle.std.proofs.Common.{min, sym, ap, ◌∙◌, arith}
use Rattle.smt_sorts.proofs.TableLemmas.{IsLeveled-cut, levels_of-cut}
use Rattle.smt_sorts.specs.Names.{cut_to}
use Rattle.smt_sorts.proofs.CutLemmas.{cut_to-gained}
use Rattle.smt_sorts.proofs.table.Table.cut_ids.Goals as goal

pub invariant_of-self : goal.invariant_of-self
invariant_of-self c =
    let base_below = rw (c.split_at.ensures.front, c.declarations.ensures.value) at c.below_id-base.ensures.below in
    let base_above = rw (c.split_at.ensures.front, c.declarations.ensures.value) at c.below_id-base.ensures.above in
    let below = rw (c.split_at.ensures.back, c.declarations.ensures.value) at c.below_id.ensures.below in
    let above = rw (c.split_at.ensures.back, c.declarations.ensures.value) at c.below_id.ensures.above in
    let within = c.below_id-base.ensures.within in
    let front = c.split_at.ensures.front_len in
    rw (c.remove.ensures, c.truncate.ensures) (
      IsLeveled-cut c.self.inside.count c.self.inside.given c.min-self-inside.result c.args.ids c.self.inside.base c.below_id-base.result c.below_id.result c.self.inside.entries c.self.invariant.0 (omega (arith, within, front))
          (record { base_below = base_below; base_above = base_above; below = below; above = above }) c.min-self-inside.ensures,
      tt,
    )

pub returns-clause-value : goal.returns-clause-value
returns-clause-value c =
    let base_below = rw (c.split_at.ensures.front, c.declarations.ensures.value) at c.below_id-base.ensures.below in
    let base_above = rw (c.split_at.ensures.front, c.declarations.ensures.value) at c.below_id-base.ensures.above in
    let below = rw (c.split_at.ensures.back, c.declarations.ensures.value) at c.below_id.ensures.below in
    let above = rw (c.split_at.ensures.back, c.declarations.ensures.value) at c.below_id.ensures.above in
    let within = c.below_id-base.ensures.within in
    let front = c.split_at.ensures.front_len in
    rw (c.remove.ensures, c.truncate.ensures, c.min-self-inside.ensures, ← c.self.view_is)
    (ap (λ dss. record { levels = dss; given = min c.self.inside.given c.args.ids })
    (levels_of-cut c.self.inside.count c.self.inside.given c.args.ids c.self.inside.base c.below_id-base.result c.below_id.result c.self.inside.entries c.self.invariant.0 (omega (arith, within, front))
    (record { base_below = base_below; base_above = base_above; below = below; above = above })))

pub returns-clause-restored : goal.returns-clause-restored
returns-clause-restored c = λ t e h. returns-clause-value c ∙ ap (λ n. cut_to n c.args.self.now) (sym e) ∙ cut_to-gained t c.args.self.now h
