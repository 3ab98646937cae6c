-- Which clauses forced steps of the trail.
use Rattle.std.specs.Prelude.{◌≡◌, ℕ, ◌<◌, Bool, true, false, List, Contains, Some, length, slice_index_or}
use Rattle.clause_store.specs.declared.trail.Step.{Step}

-- each of them is marked
abbrev pub AreMarked : List Step → List Bool → Type 0
AreMarked steps marks = (s : Step) (id : ℕ) → Contains steps s → s.reason ≡ Some id → id < length marks → slice_index_or marks id false ≡ true
