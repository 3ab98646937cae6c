-- What callers see of a pass.
use Rattle.std.specs.Prelude.{◌≡◌, Option, false, []}
use Rattle.atomic_table.specs.Seated.{TableId}
use Rattle.race_model.specs.declared.shelf.Shelf.{Ghosts}
use Rattle.race_model.specs.Shelves.{ShelfState}
use Rattle.race_cell.specs.declared.view.Claim.{Claim}
use Rattle.race_cell.specs.declared.race.Pass.{Pass}
use Rattle.race_cell.specs.declared.race.Race.{Race}
use Rattle.race_cell.specs.Rules.{claim, base_in}

module _ {S : Type 0} {G : Ghosts S} where
  -- what the pass knows of its worker
  abbrev pub claim_of : Pass S G → Claim
  claim_of p = claim p.seat.me.0

  -- the shelf as the race began
  abbrev pub base_of : (S → ShelfState) → Pass S G → ShelfState
  base_of state p = base_in state p.seat.me.0.base

  -- the shelf isn't out with the pass
  pub record HoldsNoSlot (p : Pass S G) : Type 0 where
    pub none_out : p.seat.me.1 ≡ []
    pub none_held : p.seat.me.0.holds ≡ false

  abbrev pub IsSamePass : Pass S G → Pass S G → Type 0
  IsSamePass p q = (q.seat.table_id ≡ p.seat.table_id) × (q.worker ≡ p.worker) × (q.seat.me.0.base ≡ p.seat.me.0.base)

  -- a pass of the race that this table has, over this shelf
  abbrev pub IsOf : (S → ShelfState) → TableId → ShelfState → Pass S G → Type 0
  IsOf state z b p = (p.seat.table_id ≡ z) × (base_of state p ≡ b)

  -- the same, by the shelf itself
  abbrev pub IsIn : TableId → Option S → Pass S G → Type 0
  IsIn z b p = (p.seat.table_id ≡ z) × (p.seat.me.0.base ≡ b)

  -- a pass of the race that this table has
  abbrev pub IsPassOf : TableId → Pass S G → Type 0
  IsPassOf z p = p.seat.table_id ≡ z

-- the shelf as the race began
abbrev pub race_base : {S : Type 0} (state : S → ShelfState) → Race S → ShelfState
race_base state r = state r.table.shared.key.shelf.value
