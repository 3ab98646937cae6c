use Rattle.std.proofs.Common.{sym, subst}
use Rattle.race_model.specs.Base.{Base}
use Rattle.race_model.specs.Laws.{IsSound}
use Rattle.race_cell.proofs.May.{puts, same_base}
use Rattle.race_cell.proofs.race.Race.put.Goals as goal

pub share-requires : goal.share-requires
share-requires g c = subst (λ (b : Base). IsSound b c.args.clause) (sym (same_base g.S.Shelf.state c.args.seat.now.me c.requires.1 c.slot_mut.result.now c.slot_mut.ensures.value)) c.requires.2

pub returns-clause-puts : goal.returns-clause-puts
returns-clause-puts g c = puts g.S.Shelf.state c.args.worker c.args.clause c.args.seat.now.me c.requires.1 c.requires.2 c.slot_mut.result.now _ c.slot_mut.ensures.value _ c.share.ensures
