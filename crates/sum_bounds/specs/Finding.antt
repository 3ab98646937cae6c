-- A verdict on tagged bounds, with a clause in the place of tags.
use Rattle.std.specs.Prelude.{◌≡◌, ◌⊎◌, List, ℕ}
use Rattle.simplex.specs.declared.state.Verdict.{Verdict}
use Rattle.simplex.specs.declared.state.Verdict.TheVariants.{Fits as AllFit, Conflict as Clash, Range as NoFit, UnitsSpent as Spent, Memory as NoMemory}
use Rattle.sum_bounds.specs.declared.finding.Finding.{Finding}
use Rattle.sum_bounds.specs.declared.finding.Finding.TheVariants.{Fits, Conflict, Range, UnitsSpent, Memory}
use Rattle.sum_bounds.specs.Complements.{IsClauseOf}

-- the finding is a conflict with the clause of the tags
abbrev pub IsConflictOf : List ℕ → Finding → Type 0
IsConflictOf tags (Conflict ls) = IsClauseOf tags ls.items
IsConflictOf tags Fits = ⊥
IsConflictOf tags (Range number) = ⊥
IsConflictOf tags UnitsSpent = ⊥
IsConflictOf tags Memory = ⊥

abbrev pub IsFound : Verdict → Finding → Type 0
IsFound (Clash tags) f = (f ≡ Memory) ⊎ IsConflictOf tags.items f
IsFound AllFit f = f ≡ Fits
IsFound (NoFit number) f = f ≡ Range number
IsFound Spent f = f ≡ UnitsSpent
IsFound NoMemory f = f ≡ Memory
