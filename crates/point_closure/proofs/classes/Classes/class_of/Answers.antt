use Rattle.std.proofs.Common.{◌∙◌, ap, sym, arith}
use Rattle.point_closure.specs.Unions.{root_of, Joined}
use Rattle.point_closure.proofs.UnionLemmas.{reads_up, reads_root}
use Rattle.point_closure.proofs.classes.Classes.class_of.Goals as goal

pub walk-smaller : goal.walk-smaller
walk-smaller c =
    let up = reads_up c.self.inside.unions.items c.self.inside.links.items c.walk.at c.index-link.result.now c.self.invariant c.walk.invariant.within c.index-link.ensures c.if-link.false in
    omega (arith, up.later, up.small)

pub walk-preserved : goal.walk-preserved
walk-preserved c =
    let up = reads_up c.self.inside.unions.items c.self.inside.links.items c.walk.at c.index-link.result.now c.self.invariant c.walk.invariant.within c.index-link.ensures c.if-link.false in
    record { within = up.within; same = up.same ∙ c.walk.invariant.same }

pub returns-then-link-clause-value : goal.returns-then-link-clause-value
returns-then-link-clause-value c =
    sym (reads_root c.self.inside.unions.items c.self.inside.links.items c.walk.at c.index-link.result.now c.self.invariant c.walk.invariant.within c.index-link.ensures c.if-link.true)
    ∙ c.walk.invariant.same ∙ ap (λ (j : Joined). root_of j.unions c.args.point) c.self.view_is
