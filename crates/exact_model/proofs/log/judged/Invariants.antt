use Rattle.std.proofs.Common.{◌≡◌, true, take, All}
use Rattle.literals.specs.Signed.{literal_true}
use Rattle.exact_model.specs.Atoms.{truth_by}
use Rattle.exact_model.proofs.log.judged.Given as goal

abbrev pub invariant-loop-place : goal.invariant-loop-place
invariant-loop-place l = All (λ s. literal_true (truth_by l.values l.atoms.atoms) s ≡ true) (take l.place l.log)
