use Rattle.std.proofs.Common.{◌≡◌, drop}
use Rattle.atom_form.specs.SumTableHash.{sum_state}
use Rattle.atom_form.proofs.hash.with_summands.Given as goal

abbrev pub invariant-loop-summand : goal.invariant-loop-summand
invariant-loop-summand l = sum_state l.state (drop l.summand-index l.sum) ≡ sum_state l.start l.sum
