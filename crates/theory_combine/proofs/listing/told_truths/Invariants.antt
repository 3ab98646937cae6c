use Rattle.std.proofs.Common.{◌≡◌, length}
use Rattle.theory_combine.specs.Settling.{AreToldTruths}
use Rattle.theory_combine.proofs.listing.told_truths.Given as goal

abbrev pub invariant-loop-place : goal.invariant-loop-place
invariant-loop-place l = record {
  size : length l.truths.items ≡ l.place;
  each : AreToldTruths l.progress.atoms.atoms l.progress.held.closure.log.items l.place l.truths.items;
}
