-- What a check of a stack under assumptions comes to.
use Rattle.std.specs.Prelude.{◌≡◌, ◌≤◌, ℕ, ℤ, map, drop, flat_map, All}
use Rattle.smt_meaning.specs.Term.{tree_at}
use Rattle.smt_meaning.specs.Stack.{assertions_of, depth}
use Rattle.smt_meaning.specs.StackCommand.{Stack, most_levels}
use Rattle.smt_meaning.specs.State.{texts_of}
use Rattle.scope_stack.specs.declared.answers.Assertion.{Assertion}
use Rattle.scope_stack.specs.Inside.{IsWithin}
use Rattle.scope_stack.specs.Shown.{IsLawful}
use Rattle.goal_search.specs.declared.assuming.Assumed.{Assumed}
use Rattle.goal_search.specs.Checked.{IsChecked}

-- the stack's check is answered, and these are the assertions after so many, each by its text and the place of its term
pub record IsAnsweredUnder (workers : ℕ) (limit : ℤ) (below : ℕ) (s : Stack) (a : Assumed) : Type 0 where
  pub check : IsChecked workers limit s a.answer
  pub texts : map (λ (x : Assertion). x.text) a.assumptions ≡ drop below (flat_map texts_of s.frames)
  pub terms : map (λ (x : Assertion). tree_at s.trees x.term) a.assumptions ≡ drop below (assertions_of s.frames)
  pub within : All (IsWithin s.trees) a.assumptions
  pub depth_fits : depth s.frames ≤ most_levels
  pub lawful : IsLawful s
