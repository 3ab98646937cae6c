-- What is held of some atoms, and stays.
use Rattle.std.specs.Prelude.{◌≡◌, List}
use Rattle.smt_meaning.specs.declared.clauses.Atom.{Atom}
use Rattle.smt_meaning.specs.StackCommand.{Stack}
use Rattle.closure_log.specs.Seen.{IsSetting}
use Rattle.theory_combine.specs.declared.held.Held.{Held}
use Rattle.theory_combine.specs.Held.{IsHeld}

-- what is held is of these atoms, which are of the stack
pub record IsHeldOf (s : Stack) (table : List Atom) (h : Held) : Type 0 where
  pub setting : IsSetting s table
  pub held : IsHeld s table h

-- the same literals are told, and the bounds stay
pub record KeepsHeld (s : Stack) (table : List Atom) (old new : Held) : Type 0 where
  pub held : IsHeld s table new
  pub log : new.closure.log.items ≡ old.closure.log.items
  pub bounds : new.bounds ≡ old.bounds
