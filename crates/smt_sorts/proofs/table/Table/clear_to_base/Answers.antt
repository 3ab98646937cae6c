use Rattle.std.proofs.Common.{◌≡◌, length, take, ap, ap₂, ◌∙◌}
use Rattle.std.specs.Prelude.{filter}
use Rattle.smt_meaning.specs.Stack.{stays}
use Rattle.smt_sorts.specs.Listed.{Listed}
use Rattle.smt_sorts.proofs.TableLemmas.{based_at, IsLeveled-based, levels_of-based}
use Rattle.smt_sorts.proofs.table.Table.clear_to_base.Goals as goal

pub invariant_of-self : goal.invariant_of-self
invariant_of-self c =
    let declarations : c.remove_names.new.self.declarations ≡ filter stays (take c.self.inside.base c.self.inside.entries.declarations) = c.remove_names.ensures.declarations ∙ ap (λ (a : Listed). filter stays a.declarations) c.truncate.ensures in
    let levels : c.remove_names.new.self.levels ≡ (based_at c.self.inside.base c.self.inside.entries).levels =
    c.remove_names.ensures.levels ∙ ap₂ (λ n (a : Listed). take n a.levels) (ap length declarations) c.truncate.ensures in
    let entries : c.remove_names.new.self ≡ based_at c.self.inside.base c.self.inside.entries = ap₂ (λ ds ls. record { declarations = ds; levels = ls }) declarations levels in
    rw (c.declarations.ensures.value, entries) (IsLeveled-based c.self.inside.count c.self.inside.given c.self.inside.base c.self.inside.entries c.self.invariant.0, tt)

pub returns : goal.returns
returns c =
    let declarations : c.remove_names.new.self.declarations ≡ filter stays (take c.self.inside.base c.self.inside.entries.declarations) = c.remove_names.ensures.declarations ∙ ap (λ (a : Listed). filter stays a.declarations) c.truncate.ensures in
    let levels : c.remove_names.new.self.levels ≡ (based_at c.self.inside.base c.self.inside.entries).levels =
    c.remove_names.ensures.levels ∙ ap₂ (λ n (a : Listed). take n a.levels) (ap length declarations) c.truncate.ensures in
    let entries : c.remove_names.new.self ≡ based_at c.self.inside.base c.self.inside.entries = ap₂ (λ ds ls. record { declarations = ds; levels = ls }) declarations levels in
    rw (entries, ← c.self.view_is) (ap (λ dss. record { levels = dss; given = c.self.inside.given }) (levels_of-based c.self.inside.count c.self.inside.given c.self.inside.base c.self.inside.entries c.self.invariant.0))
