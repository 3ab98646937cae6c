use Rattle.std.proofs.Common.{◌≡◌, ◌≤◌, ℕ, length}
use Rattle.ports.specs.Flow.{SourceTold}
use Rattle.proof_check.specs.Progress.{Phase, SoFar, HasRoom, weight}
use Rattle.proof_check.proofs.intake.Intake.next.Given as goal

abbrev pub invariant-loop-sexpr : goal.invariant-loop-sexpr
invariant-loop-sexpr g l = record {
  room : HasRoom l.self;
  buffer : length l.buf ≡ 65536;
  lighter : weight l.self ≤ weight l.fn.self;
  so_far : (budget : ℕ) (first : SourceTold) (p : Phase) → SoFar budget first (g.S.Source.told l.fn.source) p l.fn.self → SoFar budget first (g.S.Source.told l.source) p l.self;
}

abbrev pub decreases-loop-sexpr : goal.decreases-loop-sexpr
decreases-loop-sexpr g l = l.self.calls
