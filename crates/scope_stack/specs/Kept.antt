-- What is kept of a definition.
use Rattle.std.specs.Prelude.{ℕ, List, Option, Some, None}
use Rattle.smt_meaning.specs.Declaration.{Declaration}
use Rattle.smt_sorts.specs.declared.workshop.Workshop.{Workshop}
use Rattle.smt_sorts.specs.Workshop.{IsOf}

-- what is left of the judgement of the definition with this id
abbrev pub IsKeptOf : List Declaration → ℕ → Option Workshop → Type 0
IsKeptOf ds id None = Unit {0}
IsKeptOf ds id (Some w) = IsOf ds (record { id = id; workshop = w })
