use Rattle.std.proofs.Common.{ℕ, List, sym, subst}
use Rattle.point_closure.specs.Rest.{watch_at}
use Rattle.point_closure.specs.Whole.{AreEqualPairs}
use Rattle.point_closure.proofs.LawLemmas.{root_then_equal, equal_then_root}
use Rattle.point_closure.proofs.closure.Closure.met.Goals as goal

pub returns : goal.returns
returns c =
    let s = c.args.self.now in
    let law = c.classes_are_the_closure.ensures in
    subst (λ (l : List ℕ). AreEqualPairs s.graph s.steps.items s.pairs.items l) (sym c.as_slice.ensures.value) (λ k. (
      λ has. let h = c.requires.whole.rest.met.each k has in (h.0, root_then_equal s law c.requires.whole c.unions-each.ensures.each (watch_at s.pairs.items k).left (watch_at s.pairs.items k).right h.1),
      λ h. c.requires.whole.rest.met.all k h.0 (equal_then_root s law c.requires.whole c.unions-each.ensures.each (watch_at s.pairs.items k).left (watch_at s.pairs.items k).right h.1),
    ))
