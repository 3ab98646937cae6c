-- What a step is read as, by what was met on the way.
use Rattle.std.specs.Prelude.{◌≡◌, true, false}
use Rattle.proof_meaning.specs.declared.proof.Step.{Step}
use Rattle.proof_read.specs.declared.read.ReadStep.{ReadStep}
use Rattle.proof_read.specs.declared.read.ReadStep.TheVariants.{Step as IsStep, Wrong, Large}
use Rattle.proof_read.specs.declared.read_parts.Progress.{Progress}

abbrev pub Sorts : Step → Progress → ReadStep → Type 0
Sorts s p (IsStep t) = (t ≡ s) × (p.fits ≡ true) × (p.near ≡ true)
Sorts s p Wrong = (p.fits ≡ true) × (p.near ≡ false)
Sorts s p Large = p.fits ≡ false
