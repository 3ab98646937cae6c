-- A level of assertions above a stack.
use Rattle.std.specs.Prelude.{◌≡◌, ◌<◌, List, map, length, All}
use Rattle.smt_meaning.specs.Stack.{Assertion as Asserted, depth}
use Rattle.smt_meaning.specs.StackCommand.{Stack, most_levels}
use Rattle.scope_stack.specs.declared.answers.Assertion.{Assertion}
use Rattle.scope_stack.specs.Carries.{under}
use Rattle.scope_stack.specs.Inside.{asserted_by, IsWithin}
use Rattle.scope_stack.specs.Shown.{IsLawful}

-- a level above the stack may assert these: their places are among its terms, with them it is lawful, and there is room for one level more
pub record MayAssertAbove (xs : List Assertion) (s : Stack) : Type 0 where
  pub within : All (IsWithin s.trees) xs
  pub lawful : IsLawful (under (map (asserted_by s.trees) xs) s)
  pub room : depth s.frames < most_levels

-- it stands above a lawful stack
pub record StandsAbove (new : Stack) : Type 0 where
  pub asserted : List Asserted
  pub old : Stack
  pub some : 0 < length old.frames
  pub lawful : IsLawful old
  pub new_is : new ≡ under asserted old
