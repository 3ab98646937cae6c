use Rattle.std.proofs.Common.{◌≡◌, ◌-◌, length, drop, ap, ◌∙◌, sym, arith}
use Rattle.elaborate.specs.Filed.{bound_hashes}
use Rattle.elaborate.proofs.Stacks.{cut_top}
use Rattle.elaborate.proofs.FiledLemmas.{hashes_take}
use Rattle.elaborate.proofs.bindings.Bindings.drop_newest.Goals as goal

pub invariant_of-self : goal.invariant_of-self
invariant_of-self c =
    c.truncate-2.ensures ∙ hashes_take c.self.inside.items.items c.self.inside.index c.saturating_sub-kept.result c.self.invariant ∙ ap bound_hashes (sym c.truncate.ensures.items)

pub returns : goal.returns
returns c =
    let size : c.saturating_sub-kept.result ≡ length c.self.inside.items.items - c.args.count = grind arith in
    cut_top c.self.inside.items.items c.truncate.new.self.items c.args.count c.saturating_sub-kept.result size c.truncate.ensures.items ∙ ap (drop c.args.count) c.self.view_is
