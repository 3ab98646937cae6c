use Rattle.std.proofs.Common.{◌≡◌, ℕ, length}
use Rattle.ports.specs.Flow.{SourceTold}
use Rattle.proof_check.specs.Progress.{SoFar, HasRoom, folded, weight}
use Rattle.proof_check.proofs.folding.fold_commands.Given as goal

abbrev pub invariant-loop-sexpr : goal.invariant-loop-sexpr
invariant-loop-sexpr g l = record {
  room : HasRoom l.intake;
  buffer : length l.buf ≡ 65536;
  so_far : (budget : ℕ) (first : SourceTold) → SoFar budget first (g.S.Source.told l.fn.source) (folded l.fn.session) l.fn.intake → SoFar budget first (g.S.Source.told l.source) (folded l.session) l.intake;
}

abbrev pub decreases-loop-sexpr : goal.decreases-loop-sexpr
decreases-loop-sexpr g l = weight l.intake
