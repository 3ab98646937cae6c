use Rattle.std.proofs.Common.{◌<◌, length, sym, ap, ◌∙◌, arith}
use Rattle.point_closure.specs.Lists.{Listed, list_of}
use Rattle.point_closure.proofs.ListsLemmas.{items_get}
use Rattle.point_closure.proofs.lists.Lists.list.Goals as goal

pub returns : goal.returns
returns c =
    let within : c.args.class < length c.self.inside.lists.items = omega (arith, ap (λ (s : Listed). s.count) c.self.view_is) in
    c.deref.ensures.value ∙ ap (λ v. v.items) c.index.ensures ∙ sym (items_get c.self.inside.lists.items c.args.class c.index.result.now within)
    ∙ c.self.invariant.items c.args.class ∙ ap (λ (s : Listed). list_of s.changes c.args.class) c.self.view_is
