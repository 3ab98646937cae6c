use Rattle.look_ahead.proofs.LetLemmas.{at_some}
use Rattle.look_ahead.proofs.FreeLemmas.{hidden_more}
use Rattle.look_ahead.proofs.free.hide.Goals as goal

pub returns-in_ok-extend_from_slice-in-Ok-Some : goal.returns-in_ok-extend_from_slice-in-Ok-Some
returns-in_ok-extend_from_slice-in-Ok-Some c =
    hidden_more c.args.hidden.now.items c.deref.result.now _ c.in-Ok-Some.names.items _ c.in_ok-extend_from_slice-in-Ok-Some.ensures.items c.deref.ensures.value
    (at_some _ c.in-Ok-Some.names _ _ c.in-Ok-Some.field-0-is c.in-Ok-Some.ensures)
