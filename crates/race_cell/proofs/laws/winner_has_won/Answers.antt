use Rattle.race_cell.proofs.Winners.{winner_has_won}
use Rattle.race_cell.proofs.laws.winner_has_won.Goals as goal

pub returns : goal.returns
returns g c = winner_has_won g.S.Shelf.state
