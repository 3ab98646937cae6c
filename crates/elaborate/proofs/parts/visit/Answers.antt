use Rattle.elaborate.proofs.PartCopies.{on_ok, arguments_first, jobs_inside, visited_has_fewer, visited_in_order}
use Rattle.std.proofs.Common.{◌∙◌, ap}
use Rattle.elaborate.specs.Parts.{visits_of}
use Rattle.elaborate.proofs.parts.visit.Goals as goal

pub returns-clause-same : goal.returns-clause-same
returns-clause-same c =
    on_ok c.push_visits.result c.push_visits.ensures
    (λ e. arguments_first c.args.store.now.trees c.args.id c.node.result.head c.node.result.arguments.now c.args.jobs.now c.push_visits.new.jobs c.parts_are_visited.ensures c.node.ensures.tree
    (e ∙ ap (visits_of c.node.result.arguments.now) c.in_ok-push.ensures.ok))

pub returns-clause-inside : goal.returns-clause-inside
returns-clause-inside c =
    on_ok c.push_visits.result c.push_visits.ensures
    (λ e. jobs_inside _ c.args.id c.node.result.arguments.now c.args.jobs.now c.push_visits.new.jobs c.requires.within c.node.ensures.earlier c.requires.inside
    (e ∙ ap (visits_of c.node.result.arguments.now) c.in_ok-push.ensures.ok))

pub returns-clause-order : goal.returns-clause-order
returns-clause-order c =
    on_ok c.push_visits.result c.push_visits.ensures
    (λ e. visited_in_order c.args.store.now.trees c.args.id c.node.result.head c.node.result.arguments.now c.args.jobs.now c.push_visits.new.jobs c.node.ensures.tree
    (e ∙ ap (visits_of c.node.result.arguments.now) c.in_ok-push.ensures.ok))

pub returns-clause-fewer : goal.returns-clause-fewer
returns-clause-fewer c =
    on_ok c.push_visits.result c.push_visits.ensures
    (λ e. visited_has_fewer c.args.store.now.trees c.args.id c.node.result.head c.node.result.arguments.now c.args.jobs.now c.push_visits.new.jobs c.node.ensures.tree
    (e ∙ ap (visits_of c.node.result.arguments.now) c.in_ok-push.ensures.ok))
