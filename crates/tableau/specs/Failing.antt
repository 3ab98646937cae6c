-- Why a step isn't made.
use Rattle.tableau.specs.declared.failure.Failure.{Failure}
use Rattle.tableau.specs.declared.failure.Failure.TheVariants.{Range, Memory}

-- a number left the range
abbrev pub IsRange : Failure → Type 0
IsRange (Range r) = Unit {0}
IsRange Memory = ⊥
