-- What a store's parts are once a clause is added.
use Rattle.std.specs.Prelude.{◌≡◌, ℕ, true, List, [], ◌∷◌, ◌++◌}
use Rattle.literals.specs.Signed.{Signed}
use Rattle.clause_store.specs.declared.trail.Step.{Step}
use Rattle.clause_store.specs.Entries.{Entry}
use Rattle.clause_store.specs.Watching.{IsWatching}
use Rattle.clause_store.specs.Rested.{Rested}
use Rattle.clause_store.specs.declared.lists.Watch.{Watch}
use Rattle.clause_store.specs.declared.waits.Wait.{Wait}

pub record GainsEntry (old new : List Entry) (ls : List Signed) (level : ℕ) : Type 0 where
  pub entry : Entry
  pub gains : new ≡ old ++ entry ∷ []
  pub literals : entry.literals ≡ ls
  pub level_is : entry.level ≡ level
  pub live : entry.live ≡ true

pub record KeptUp (atoms : ℕ) (steps : List Step) (es : List Entry) (lists : List (List Watch)) (ws : List Wait) (head lasting depth : ℕ) : Type 0 where
  pub watch : IsWatching atoms es lists
  pub rested : Rested es steps depth head lasting ws

abbrev pub KeepsUp : ℕ → List Step → List Entry → List Entry → List (List Watch) → List (List Watch) → List Wait → List Wait → Type 0
KeepsUp atoms steps es es' lists lists' ws ws' =
    (head lasting depth : ℕ) → KeptUp atoms steps es lists ws head lasting depth → KeptUp atoms steps es' lists' ws' head lasting depth
