use Rattle.std.proofs.Common.{◌≡◌, ◌<◌, ℕ}
use Rattle.theory_combine.specs.Settling.{IsAtomTold}
use Rattle.theory_combine.proofs.settle.settle_atoms.Given as goal

abbrev pub invariant-loop-number : goal.invariant-loop-number
invariant-loop-number l = record {
  same : l.progress ≡ l.initial.progress;
  unspent : l.budget ≡ l.initial.budget;
  told : (n : ℕ) → n < l.number → IsAtomTold l.parts l.initial.progress n;
}
