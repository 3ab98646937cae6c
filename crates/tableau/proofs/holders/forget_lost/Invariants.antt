use Rattle.std.proofs.Common.{◌≡◌, length}
use Rattle.tableau.specs.Holders.{KeepsListed}
use Rattle.tableau.proofs.holders.forget_lost.Given as goal

abbrev pub invariant-loop-change : goal.invariant-loop-change
invariant-loop-change l = record {
  count : length l.holders.items ≡ length l.fn.holders.items;
  keeps : KeepsListed l.rows l.fn.holders.items l.holders.items;
}
