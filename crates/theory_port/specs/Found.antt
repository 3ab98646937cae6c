-- What settles the check of a stack.
use Rattle.std.specs.Prelude.{List, Option, Some, None}
use Rattle.smt_meaning.specs.Stack.{Frame, HasNoModel}
use Rattle.smt_meaning.specs.MayReply.{IsModel}
use Rattle.theory_port.specs.declared.decider.Verdict.{Verdict}
use Rattle.theory_port.specs.declared.decider.Verdict.TheVariants.{Sat, Unsat, Unknown}

-- a model, or that there is none, if it is found
abbrev pub IsSettled : List Frame → Option Verdict → Type 0
IsSettled frames None = Unit {0}
IsSettled frames (Some (Sat i)) = IsModel frames i
IsSettled frames (Some Unsat) = HasNoModel frames
IsSettled frames (Some (Unknown rs)) = ⊥
