use Rattle.std.proofs.Common.{◌≡◌, ◌<◌, length, sym, subst, arith}
use Rattle.std.specs.Prelude.{Contains}
use Rattle.std.proofs.lemmas.List.Elements.{Contains-push}
use Rattle.point_closure.specs.Unions.{AreUnions}
use Rattle.point_closure.specs.Explaining.{IsExplaining}
use Rattle.point_closure.proofs.ExplainLemmas.{whole_before}
use Rattle.point_closure.proofs.GoalLemmas.{explaining_on, explaining_skips, explaining_ends, no_goals, total_skips, total_falls}
use Rattle.point_closure.proofs.explain.Explainer.explain.Goals as goal

pub tell-requires-clause-left_within : goal.tell-requires-clause-left_within
tell-requires-clause-left_within c =
    let has : Contains c.goals.self.goals.items c.in-Some.goal = subst (λ gs. Contains gs c.in-Some.goal) (sym c.in-Some.ensures.items) (Contains-push c.pop.new.self.items c.in-Some.goal) in
    subst (λ n. c.in-Some.goal.left < n) c.requires.points (c.goals.invariant.goals.within c.in-Some.goal has).0

pub tell-requires-clause-right_within : goal.tell-requires-clause-right_within
tell-requires-clause-right_within c =
    let has : Contains c.goals.self.goals.items c.in-Some.goal = subst (λ gs. Contains gs c.in-Some.goal) (sym c.in-Some.ensures.items) (Contains-push c.pop.new.self.items c.in-Some.goal) in
    subst (λ n. c.in-Some.goal.right < n) c.requires.points (c.goals.invariant.goals.within c.in-Some.goal has).1

pub tell-requires-clause-same : goal.tell-requires-clause-same
tell-requires-clause-same c =
    let has : Contains c.goals.self.goals.items c.in-Some.goal = subst (λ gs. Contains gs c.in-Some.goal) (sym c.in-Some.ensures.items) (Contains-push c.pop.new.self.items c.in-Some.goal) in
    whole_before c.args.classes.now.unions c.in-Some.goal.left c.in-Some.goal.right (c.goals.invariant.goals.same c.in-Some.goal has)

pub goals-smaller-in-Continue-branch-3 : goal.goals-smaller-in-Continue-branch-3
goals-smaller-in-Continue-branch-3 c =
    let unions : AreUnions (length c.args.graph.now) c.args.classes.now.unions = subst (λ n. AreUnions n c.args.classes.now.unions) (sym c.requires.points) c.unions.ensures.each in
    let falls = total_falls c.args.graph.now c.args.classes.now.unions c.in-Some.goal c.pop.new.self.items c.tell.new.goals.items c.goals.self.told c.tell.new.told c.goals.self.steps.items c.tell.new.steps.items
    unions c.requires.alike c.in_ok-tell.ensures in
    rw c.in-Some.ensures.items falls

pub goals-preserved-in-Continue-branch-3 : goal.goals-preserved-in-Continue-branch-3
goals-preserved-in-Continue-branch-3 c =
    let us = c.args.classes.now.unions in
    let unions : AreUnions (length c.args.graph.now) us = subst (λ n. AreUnions n us) (sym c.requires.points) c.unions.ensures.each in
    explaining_on c.args.graph.now us c.args.left c.args.right c.in-Some.goal c.pop.new.self.items c.tell.new.goals.items c.goals.self.told c.tell.new.told c.goals.self.steps.items c.tell.new.steps.items
    c.requires.earlier unions c.requires.alike
    (subst (λ gs. IsExplaining c.args.graph.now us c.args.left c.args.right gs c.goals.self.told c.goals.self.steps.items) c.in-Some.ensures.items c.goals.invariant)
    c.in_ok-tell.ensures

pub goals-smaller : goal.goals-smaller
goals-smaller c = rw c.in-Some.ensures.items (total_skips _ c.args.classes.now.unions c.pop.new.self.items c.in-Some.goal)

pub goals-preserved : goal.goals-preserved
goals-preserved c =
    explaining_skips c.args.graph.now c.args.classes.now.unions c.args.left c.args.right c.in-Some.goal c.pop.new.self.items c.goals.self.told c.goals.self.steps.items
    (subst (λ gs. IsExplaining c.args.graph.now c.args.classes.now.unions c.args.left c.args.right gs c.goals.self.told c.goals.self.steps.items) c.in-Some.ensures.items c.goals.invariant)
    c.if-goal.false

pub returns : goal.returns
returns c =
    let empty : length c.goals.self.goals.items ≡ 0 = omega (arith, c.in_default.ensures.cases.0) in
    explaining_ends c.args.graph.now c.args.classes.now.unions c.args.left c.args.right c.goals.self.told c.goals.self.steps.items
    (subst (λ gs. IsExplaining c.args.graph.now c.args.classes.now.unions c.args.left c.args.right gs c.goals.self.told c.goals.self.steps.items) (no_goals c.goals.self.goals.items empty) c.goals.invariant)
