use Rattle.std.proofs.Common.{List, refl, inr}
use Rattle.point_closure.specs.declared.explain.Goal.{Goal}
use Rattle.point_closure.specs.Closure.{point_at}
use Rattle.point_closure.specs.Explaining.{goal_of, paired}
use Rattle.point_closure.proofs.ExplainLemmas.{tells_by}
use Rattle.point_closure.proofs.explain.tell.Goals as goal

pub returns-in_ok-push_arguments-in-Alike : goal.returns-in_ok-push_arguments-in-Alike
returns-in_ok-push_arguments-in-Alike c =
    let u = c.union_at-union.result in
    let b : Goal = goal_of c.sides-ends.result.right u.to in
    let more' : List Goal = paired (point_at c.args.graph.now u.from).arguments (point_at c.args.graph.now u.to).arguments in
    tells_by c.args.graph.now c.args.classes.now.unions c.args.goal c.args.goals.now.items c.push_arguments.new.goals.items c.args.told.now _ c.args.steps.now.items c.args.steps.now.items
    c.newest-newest.result.union c.newest-newest.result.turned u c.sides-ends.result more' c.newest-newest.ensures c.union_at-union.ensures.value c.sides-ends.ensures
    (rw (c.in_ok-push_arguments-in-Alike.ensures, c.in_ok-push-2.ensures.items, c.in_ok-push.ensures.items, c.arguments.ensures.value, c.arguments-in-Alike.ensures.value) refl)
    (inr (c.set.ensures, inr (c.in-Alike.is, refl, refl)))
