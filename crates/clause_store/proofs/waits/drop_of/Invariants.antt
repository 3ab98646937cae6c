use Rattle.std.proofs.Common.{◌≡◌, ◌-◌, length, All, Contains, take, vec_capacity}
use Rattle.clause_store.specs.Looks.{AreApart}
use Rattle.clause_store.specs.Room.{rows_of}
use Rattle.clause_store.specs.declared.waits.Wait.{Wait}
use Rattle.clause_store.proofs.waits.drop_of.Given as goal

abbrev pub invariant-waits : goal.invariant-waits
invariant-waits l = record {
  keeps : (w : Wait) → Contains l.initial.waiting.items w → (w.row ≡ l.row → ⊥) → Contains l.waiting.items w;
  only : (w : Wait) → Contains l.waiting.items w → Contains l.initial.waiting.items w;
  apart : AreApart (rows_of l.initial.waiting.items) → AreApart (rows_of l.waiting.items);
  room : vec_capacity l.waiting ≡ vec_capacity l.initial.waiting;
  front : All (λ (w : Wait). w.row ≡ l.row → ⊥) (take l.k l.waiting.items);
}

abbrev pub decreases-waits : goal.decreases-waits
decreases-waits l = length l.waiting.items - l.k
