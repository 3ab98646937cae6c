-- What is found of a stack's assertions.
use Rattle.std.specs.Prelude.{ℕ, List, ℤ}
use Rattle.smt_meaning.specs.Term.{Tree}
use Rattle.smt_meaning.specs.Stack.{Frame, HasNoModel}
use Rattle.smt_meaning.specs.MayReply.{IsModel}
use Rattle.smt_meaning.specs.Report.{AreReports}
use Rattle.theory_port.specs.declared.decider.Verdict.{Verdict}
use Rattle.theory_port.specs.declared.decider.Verdict.TheVariants.{Sat, Unsat, Unknown}

-- a model, or none, or a report of each of so many workers under this limit of units
abbrev pub IsVerdict : ℕ → List Tree → List Frame → ℤ → Verdict → Type 0
IsVerdict workers ts frames limit (Sat i) = IsModel frames i
IsVerdict workers ts frames limit Unsat = HasNoModel frames
IsVerdict workers ts frames limit (Unknown rs) = AreReports workers ts frames limit rs
