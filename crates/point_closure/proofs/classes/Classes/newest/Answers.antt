use Rattle.std.proofs.Common.{◌≡◌, ◌<◌, true, false, sym, subst, arith}
use Rattle.point_closure.specs.Unions.{root_of, Joined, IsNewest}
use Rattle.point_closure.proofs.UnionLemmas.{reads_on, meet_start, meet_turned}
use Rattle.point_closure.proofs.classes.Classes.newest.Goals as goal

pub walk-init : goal.walk-init
walk-init c =
    meet_start c.self.inside.unions.items c.self.inside.links.items c.args.left c.args.right
    (subst (λ (j : Joined). c.args.left < j.count) (sym c.self.view_is) c.requires.left_within)
    (subst (λ (j : Joined). c.args.right < j.count) (sym c.self.view_is) c.requires.right_within)
    c.requires.different
    (subst (λ (j : Joined). root_of j.unions c.args.left ≡ root_of j.unions c.args.right) (sym c.self.view_is) c.requires.same)

pub returns-then-one-other : goal.returns-then-one-other
returns-then-one-other c =
    let on = reads_on c.self.inside.unions.items c.self.inside.links.items c.args.left c.args.right c.walk.one c.walk.other c.index-link.result.now c.index-opposite.result.now c.self.invariant c.walk.invariant c.index-link.ensures c.index-opposite.ensures (omega arith) in
    subst (λ (j : Joined). IsNewest j.unions c.args.left c.args.right (record { union = c.index-link.result.now.edge; turned = false })) c.self.view_is (on.found c.if-one-other.true)

pub walk-smaller-else-one-other : goal.walk-smaller-else-one-other
walk-smaller-else-one-other c =
    let on = reads_on c.self.inside.unions.items c.self.inside.links.items c.args.left c.args.right c.walk.one c.walk.other c.index-link.result.now c.index-opposite.result.now c.self.invariant c.walk.invariant c.index-link.ensures c.index-opposite.ensures (omega arith) in
    omega (arith, on.later, on.small)

pub walk-preserved-else-one-other : goal.walk-preserved-else-one-other
walk-preserved-else-one-other c =
    let on = reads_on c.self.inside.unions.items c.self.inside.links.items c.args.left c.args.right c.walk.one c.walk.other c.index-link.result.now c.index-opposite.result.now c.self.invariant c.walk.invariant c.index-link.ensures c.index-opposite.ensures (omega arith) in
    on.more c.if-one-other.false

pub returns-then-one-other-2 : goal.returns-then-one-other-2
returns-then-one-other-2 c =
    let on = reads_on c.self.inside.unions.items c.self.inside.links.items c.args.right c.args.left c.walk.other c.walk.one c.index-opposite.result.now c.index-link.result.now c.self.invariant (meet_turned _ _ _ _ _ _ c.walk.invariant) c.index-opposite.ensures c.index-link.ensures (omega arith) in
    subst (λ (j : Joined). IsNewest j.unions c.args.left c.args.right (record { union = c.index-opposite.result.now.edge; turned = true })) c.self.view_is (on.found_turned (sym c.if-one-other-2.true))

pub walk-smaller : goal.walk-smaller
walk-smaller c =
    let on = reads_on c.self.inside.unions.items c.self.inside.links.items c.args.right c.args.left c.walk.other c.walk.one c.index-opposite.result.now c.index-link.result.now c.self.invariant (meet_turned _ _ _ _ _ _ c.walk.invariant) c.index-opposite.ensures c.index-link.ensures (omega arith) in
    omega (arith, on.later, on.small)

pub walk-preserved : goal.walk-preserved
walk-preserved c =
    let on = reads_on c.self.inside.unions.items c.self.inside.links.items c.args.right c.args.left c.walk.other c.walk.one c.index-opposite.result.now c.index-link.result.now c.self.invariant (meet_turned _ _ _ _ _ _ c.walk.invariant) c.index-opposite.ensures c.index-link.ensures (omega arith) in
    meet_turned _ _ _ _ _ _ (on.more (λ e. c.if-one-other-2.false (sym e)))
