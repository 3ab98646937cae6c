use Rattle.smt_meaning.specs.StackCommand.{Stack}
use Rattle.smt_meaning.specs.Term.{tree_at}
use Rattle.std.proofs.Common.{subst, sym}
use Rattle.goal_search.specs.Goals.{IsGoal}
use Rattle.session.specs.Minimized.{IsItselfAbove}
use Rattle.session.proofs.Itself.{minimized_so}
use Rattle.session.proofs.minimizing.minimized.Goals as goal

pub itself_above-requires : goal.itself_above-requires
itself_above-requires g c = subst (λ (s : Stack). IsGoal s c.args.text.now c.args.term) (sym c.least.ensures.stays) c.requires.goal

pub returns-clause-ok : goal.returns-clause-ok
returns-clause-ok g c =
    let old : Stack = c.args.stack.now in
    minimized_so c.args.settings.now.workers c.args.settings.now.units c.args.text.now (tree_at old.trees c.args.term) old c.itself_above.new.stack c.in_ok-found.found.value c.in_ok-answer.answer c.in_ok-assumptions.assumptions
    c.in_ok-found.ensures.least c.in_ok-answer.ensures.answer c.in_ok-answer.ensures.refuted
    (subst (λ (s : Stack). IsItselfAbove c.args.text.now (tree_at s.trees c.args.term) s c.in_ok-assumptions.assumptions c.itself_above.new.stack) c.least.ensures.stays c.in_ok-assumptions.ensures.ok)
