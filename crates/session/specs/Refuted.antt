-- What is known in the mode unsat: the levels of the last check have no model, and what stood above the stack may stand there again.
use Rattle.std.specs.Prelude.{◌++◌}
use Rattle.smt_meaning.specs.Stack.{HasNoModel}
use Rattle.smt_meaning.specs.StackCommand.{Stack}
use Rattle.scope_stack.specs.Raised.{MayAssertAbove}
use Rattle.session.specs.declared.above.Above.{Above}
use Rattle.session.specs.declared.above.Above.TheVariants.{Nothing, Assumed}
use Rattle.session.specs.Above.{above_by}

abbrev pub MayStandAgain : Stack → Above → Type 0
MayStandAgain s Nothing = Unit {0}
MayStandAgain s (Assumed xs) = MayAssertAbove xs s

pub record IsRefuted (s : Stack) (a : Above) : Type 0 where
  pub none : HasNoModel (s.frames ++ above_by s.trees a)
  pub again : MayStandAgain s a
