-- What the parts of some workers come to together.
use Rattle.std.specs.Prelude.{◌≡◌, ℕ, ◌+◌, ℤ, true, List, map, None, IfSome, All, Contains}
use Rattle.smt_meaning.specs.declared.reports.Cause.TheVariants.{Memory}
use Rattle.smt_meaning.specs.declared.reports.Report.{Report}
use Rattle.smt_meaning.specs.Stack.{Frame, HasNoModel}
use Rattle.smt_meaning.specs.StackCommand.{Stack}
use Rattle.smt_meaning.specs.Kinds.{has_no_integers}
use Rattle.smt_meaning.specs.Report.{Shows, is_unlimited}
use Rattle.smt_meaning.specs.Model.{IsModel}
use Rattle.race_cell.specs.declared.view.Claim.{Claim}
use Rattle.worker.specs.declared.outcome.Answer.{Answer}
use Rattle.worker.specs.declared.outcome.Answer.TheVariants.{Sat, Unsat}
use Rattle.worker.specs.Outcome.{HasWon}
use Rattle.portfolio.specs.declared.tally.Tally.{Tally}

-- the answer is right
abbrev pub IsAnswer : List Frame → Answer → Type 0
IsAnswer frames (Sat i) = IsModel frames i
IsAnswer frames Unsat = HasNoModel frames

-- the report shows why its worker found no answer
abbrev pub IsShown : Stack → ℤ → Report → Type 0
IsShown s limit r = Shows s.trees s.frames limit r.branches r.cause

abbrev pub IsOfMemory : Report → Type 0
IsOfMemory r = r.cause ≡ Memory

abbrev pub HasNotWon : Claim → Type 0
HasNotWon c = HasWon c → ⊥

-- one of the workers has found this one as the winner
abbrev pub IsFound : List Claim → ℕ → Type 0
IsFound cs w = (c : Claim) × Contains cs c × (c.found ≡ w + 1)

-- An answer is right, and without one nobody has won. A winner was found by some worker, and where none was, each worker without an answer has its report, in their order.
pub record Tallied (s : Stack) (limit : ℤ) (cs : List Claim) (t : Tally) : Type 0 where
  pub answer : IfSome t.answer (IsAnswer s.frames)
  pub unwon : t.answer ≡ None → All HasNotWon cs
  pub cancelled : IfSome t.winner (IsFound cs)
  pub complete : t.answer ≡ None → t.winner ≡ None → map (λ (r : Report). r.worker) t.reports.items ≡ map (λ (c : Claim). c.worker) cs
  pub shown : All (IsShown s limit) t.reports.items
  pub memory : has_no_integers s.frames ≡ true → is_unlimited limit ≡ true → All IsOfMemory t.reports.items
