-- What comes of a check of a stack.
use Rattle.std.specs.Prelude.{◌≡◌, ℕ, ℤ, List}
use Rattle.smt_meaning.specs.declared.answers.Mode.{Mode}
use Rattle.smt_meaning.specs.declared.answers.Mode.TheVariants.{Start, Assert, Sat, Unknown, Unsat}
use Rattle.smt_meaning.specs.Term.{Tree}
use Rattle.smt_meaning.specs.Stack.{Frame, HasNoModel}
use Rattle.smt_meaning.specs.StackCommand.{Stack}
use Rattle.smt_meaning.specs.State.{State, checked_frames}
use Rattle.smt_meaning.specs.MayReply.{MayDecide}
use Rattle.theory_port.specs.declared.decider.Verdict.{Verdict}
use Rattle.theory_port.specs.Verdicts.{IsVerdict}
use Rattle.goal_search.specs.declared.answer.Answer.{Answer}

-- in this state a check may be answered so
abbrev pub Answers : State → Answer → Type 0
Answers s a = MayDecide s a.reply a.kept (record s { mode = a.mode })

-- it answers each check of which this is found
abbrev pub IsAnswerBy : Verdict → Answer → Type 0
IsAnswerBy v a = (s : State) → IsVerdict s.settings.workers s.stack.trees (checked_frames s) s.options.reproducible_resource_limit v → Answers s a

-- it answers each check of these levels over these trees, by so many workers, under this limit of units
abbrev pub IsAnswerOver : List Tree → List Frame → ℕ → ℤ → Answer → Type 0
IsAnswerOver ts frames workers limit a =
    (s : State) → s.stack.trees ≡ ts → checked_frames s ≡ frames → s.settings.workers ≡ workers → s.options.reproducible_resource_limit ≡ limit → Answers s a

-- where the mode is unsat, this
abbrev pub WhereUnsat : Mode → Type 0 → Type 0
WhereUnsat Start P = Unit {0}
WhereUnsat Assert P = Unit {0}
WhereUnsat (Sat i) P = Unit {0}
WhereUnsat (Unknown r) P = Unit {0}
WhereUnsat Unsat P = P

-- the stack's check is answered so; in the mode unsat its levels have no model
pub record IsChecked (workers : ℕ) (limit : ℤ) (s : Stack) (a : Answer) : Type 0 where
  pub answer : IsAnswerOver s.trees s.frames workers limit a
  pub refuted : WhereUnsat a.mode (HasNoModel s.frames)
