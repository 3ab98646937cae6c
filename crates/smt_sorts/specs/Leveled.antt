-- How a table keeps its levels: a number with each declaration.
use Rattle.std.specs.Prelude.{◌≡◌, ◌≢◌, ℕ, zero, suc, ◌^◌, ◌<◌, ◌≤◌, Bool, true, false, nat_eq, List, [], ◌∷◌, ◌++◌, take, drop, length, All, AllPairs}
use Rattle.smt_meaning.specs.Declaration.{Declaration}
use Rattle.smt_meaning.specs.Sorts.{most_symbols}
use Rattle.smt_sorts.specs.Names.{AreApart}
use Rattle.smt_sorts.specs.Listed.{Listed}

abbrev pub cons_if : Bool → Declaration → List Declaration → List Declaration
cons_if true d ds = d ∷ ds
cons_if false d ds = ds

-- the declarations whose level is this one
abbrev pub at_level : ℕ → List ℕ → List Declaration → List Declaration
at_level l [] ds = []
at_level l (k ∷ ks) [] = []
at_level l (k ∷ ks) (d ∷ ds) = cons_if (nat_eq k l) d (at_level l ks ds)

-- the declarations of each of so many levels
abbrev pub levels_from : ℕ → List ℕ → List Declaration → List (List Declaration)
levels_from zero ks ds = []
levels_from (suc n) ks ds = levels_from n ks ds ++ at_level n ks ds ∷ []

unfoldable pub levels_of : ℕ → Listed → List (List Declaration)
levels_of count a = levels_from count a.levels a.declarations

-- levels never fall along the list; ids rise along those of level 0, which come first, and along those of higher levels
pub record IsLeveled (count given base : ℕ) (a : Listed) : Type 0 where
  pub nonempty : 0 < count
  pub few_levels : count < 2 ^ 32
  pub few_ids : given ≤ most_symbols
  pub size : length a.levels ≡ length a.declarations
  pub within : All (λ k. k < count) a.levels
  pub order : AllPairs (λ j k. j ≤ k) a.levels
  pub base_within : base ≤ length a.declarations
  pub at_base : All (λ k. k < 1) (take base a.levels)
  pub above_base : All (λ k. 1 ≤ k) (drop base a.levels)
  pub ids_given : All (λ (d : Declaration). d.id < given) a.declarations
  pub ids_apart : AllPairs (λ (d e : Declaration). d.id ≢ e.id) a.declarations
  pub base_ids : AllPairs (λ (d e : Declaration). d.id < e.id) (take base a.declarations)
  pub above_ids : AllPairs (λ (d e : Declaration). d.id < e.id) (drop base a.declarations)
  pub apart : AllPairs AreApart a.declarations
