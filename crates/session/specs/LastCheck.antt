-- What the last check was of.
use Rattle.std.specs.Prelude.{◌≡◌, Bool, true, false, List, [], ◌++◌, map, All}
use Rattle.smt_meaning.specs.declared.answers.Mode.{Mode}
use Rattle.smt_meaning.specs.declared.answers.Mode.TheVariants as In
use Rattle.smt_meaning.specs.Term.{tree_at}
use Rattle.smt_meaning.specs.Stack.{signature_of, assertions_of}
use Rattle.smt_meaning.specs.StackCommand.{Stack}
use Rattle.smt_meaning.specs.State.{State, checked_frames}
use Rattle.scope_stack.specs.declared.answers.Assertion.{Assertion}
use Rattle.scope_stack.specs.Inside.{IsWithin}
use Rattle.session.specs.declared.above.Above.{Above}
use Rattle.session.specs.declared.above.Above.TheVariants.{Nothing, Assumed}

-- the modes after a check that was answered sat, unsat or unknown (SMT-LIB 2.6, section 4.1.1)
abbrev pub is_after_check : Mode → Bool
is_after_check In.Start = false
is_after_check In.Assert = false
is_after_check (In.Sat i) = true
is_after_check (In.Unknown r) = true
is_after_check In.Unsat = true

abbrev pub assumptions_of : Above → List Assertion
assumptions_of Nothing = []
assumptions_of (Assumed xs) = xs

-- the last check was of this stack and, above it, of these assumptions, whose terms stand at places of its list
pub record IsOfLastCheck (s : State) (stack : Stack) (assumptions : List Assertion) : Type 0 where
  pub after_check : is_after_check s.mode ≡ true
  pub stack_is : stack ≡ s.stack
  pub signature : signature_of (checked_frames s) ≡ signature_of stack.frames
  pub assertions : assertions_of (checked_frames s) ≡ assertions_of stack.frames ++ map (λ (a : Assertion). tree_at stack.trees a.term) assumptions
  pub within : All (IsWithin stack.trees) assumptions
