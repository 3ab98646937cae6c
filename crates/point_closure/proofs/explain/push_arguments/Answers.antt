use Rattle.std.proofs.Common.{◌++◌, ◌∷◌, [], ◌∙◌, ap, arith, add-one, append_assoc, take, get_or}
use Rattle.point_closure.specs.declared.explain.Goal.{Goal}
use Rattle.point_closure.specs.Explaining.{paired, goal_of}
use Rattle.point_closure.proofs.ExplainLemmas.{paired_more}
use Rattle.point_closure.proofs.explain.push_arguments.Goals as goal

pub loop-i-preserved : goal.loop-i-preserved
loop-i-preserved c =
    let g : Goal = goal_of (get_or c.args.left.now c.loop-i.i 0) (get_or c.args.right.now c.loop-i.i 0) in
    rw (c.in_ok-push.ensures.items, add-one c.loop-i.i)
    (ap (λ gs. gs ++ g ∷ []) c.loop-i.invariant
    ∙ append_assoc c.args.goals.now.items (paired (take c.loop-i.i c.args.left.now) (take c.loop-i.i c.args.right.now)) (g ∷ [])
    ∙ ap (λ gs. c.args.goals.now.items ++ gs) (paired_more c.args.left.now c.args.right.now c.loop-i.i c.requires (omega arith)))
