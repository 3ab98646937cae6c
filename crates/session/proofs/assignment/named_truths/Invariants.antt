use Rattle.std.proofs.Common.{◌≡◌, ◌++◌, drop}
use Rattle.smt_meaning.specs.Interpretation.{meaning}
use Rattle.smt_meaning.specs.State.{named_truths, named_fit}
use Rattle.session.proofs.assignment.named_truths.Given as goal

abbrev pub invariant-loop-declaration : goal.invariant-loop-declaration
invariant-loop-declaration l = record {
  truths : l.out ++ named_truths (meaning l.model) (drop l.declaration-index l.declarations) ≡ named_truths (meaning l.model) l.declarations;
  fit : named_fit (meaning l.model) (drop l.declaration-index l.declarations) ≡ named_fit (meaning l.model) l.declarations;
}
