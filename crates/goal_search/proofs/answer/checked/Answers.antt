use Rattle.goal_search.proofs.Answered.{found_answers}
use Rattle.goal_search.proofs.answer.checked.Goals as goal

pub returns-clause-checked : goal.returns-clause-checked
returns-clause-checked g c =
    found_answers c.args.settings.now.workers c.args.settings.now.units c.args.stack.now c.in_ok-verdict.verdict c.in_ok-answer.answer c.in_ok-verdict.ensures.found c.in_ok-answer.ensures.answer
    c.in_ok-answer.ensures.refuted
