-- Each command leads from a stack that commands give to another.
use Rattle.std.proofs.Common.{◌≡◌, ◌∙◌, refl, ap, subst, ℕ, List, [], ◌∷◌, ◌++◌, Some}
use Rattle.smt_meaning.specs.declared.commands.Command.{Command}
use Rattle.smt_meaning.specs.Sorts.{Scope, done, Judging}
use Rattle.smt_meaning.specs.StackCommand.{Stack, Change, start, stack_command, judged, changed, after_outcome, after_command, after, after_all}
use Rattle.scope_stack.specs.Inside.{IsReached}

after_all-append : (s : Stack) (cs ds : List Command) → after_all s (cs ++ ds) ≡ after_all (after_all s cs) ds
after_all-append s [] ds = refl
after_all-append s (c ∷ cs) ds = after_all-append (after s c) cs ds

pub start_reached : IsReached start
unfolding IsReached
start_reached = ([], refl)

pub after_reached : (s : Stack) (c : Command) → IsReached s → IsReached (after s c)
unfolding IsReached
after_reached s c h = (h.0 ++ c ∷ [], after_all-append start h.0 (c ∷ []) ∙ ap (λ t. after t c) h.1)

pub done_reached : (s : Stack) (command : Command) (c : ℕ → Judging Change) (change : Change) (scope : Scope) → stack_command command ≡ Some c
    → judged c s ≡ done change scope → IsReached s → IsReached (changed s change scope)
done_reached s command c change scope e f h = subst IsReached (ap (after_command s) e ∙ ap (after_outcome s) f) (after_reached s command h)
