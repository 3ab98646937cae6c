-- Sums without zero coefficients.
use Rattle.std.specs.Prelude.{◌≢◌, List, [], ◌∷◌, pos}
use Rattle.smt_meaning.specs.declared.clauses.Summand.{Summand}

-- no coefficient is 0
abbrev pub HaveNoZero : List Summand → Type 0
HaveNoZero [] = Unit {0}
HaveNoZero (p ∷ ps) = (p.coefficient ≢ pos 0) × HaveNoZero ps
