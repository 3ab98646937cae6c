-- What the threads keep of a pass.
use Rattle.std.specs.Prelude.{◌≡◌}
use Rattle.atomic_table.specs.Seated.{TableId}
use Rattle.race_model.specs.declared.shelf.Shelf.{Ghosts}
use Rattle.race_cell.specs.declared.race.Pass.{Pass}
use Rattle.race_cell.specs.Passes.{base_of}
use Rattle.unit_tests.specs.Stack.{two_levels}

-- a pass of this race, over the two levels
abbrev pub IsReady : {S : Type 0} {G : Ghosts S} → TableId → Pass S G → Type 0
IsReady {S} {G} z p = (p.seat.table_id ≡ z) × ((base_of G.state p).base ≡ two_levels)
