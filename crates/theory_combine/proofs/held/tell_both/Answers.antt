use Rattle.std.proofs.Common.{rules, ◌≡◌, ◌∙◌, List, length, take, sym, ap, subst}
use Rattle.literals.specs.Signed.{Signed}
use Rattle.search_port.specs.State.{TheoryState}
use Rattle.bound_log.specs.Told.{State}
use Rattle.bound_log.specs.Pending.{FailsToTell}
use Rattle.closure_log.specs.Seen.{state_of}
use Rattle.closure_log.specs.Places.{ArePlaces}
use Rattle.theory_combine.specs.declared.held.Held.{Held}
use Rattle.theory_combine.specs.Held.{IsHeld}
use Rattle.theory_combine.proofs.Holding.{ended_same, front_of}
use Rattle.theory_combine.proofs.Chained.{keeps_both, keeps_grid, keeps_same}
use Rattle.theory_combine.proofs.Telling.{keeps_known, told_more}
use Rattle.theory_combine.proofs.held.tell_both.Goals as goal

pub returns-in-Ended-clause-held : goal.returns-in-Ended-clause-held
returns-in-Ended-clause-held c =
    let log : c.tell-answer.new.self.log.items ≡ c.args.held.now.closure.log.items =
    ended_same (state_of c.args.stack.now c.args.atoms.now.atoms c.args.held.now.closure.log.items) (state_of c.args.stack.now c.args.atoms.now.atoms c.tell-answer.new.self.log.items) c.args.literal c.in-Ended.cause
    c.in-Ended.ensures.answer in
    let place : c.len-place.result ≡ length c.args.held.now.closure.log.items = search rules in
    record {
      told = c.tell-answer.ensures.told;
      knows = c.undo_to.ensures.stays c.args.atoms.now.atoms (c.tell.ensures.stays c.args.atoms.now.atoms c.requires.held.held.knows);
      same =
          c.undo_to.ensures.undone.log ∙ ap (take c.len-place.result) c.in-Ok.ensures.ok.log
          ∙ front_of c.args.held.now.bounds.log c.args.literal c.len-place.result (place ∙ ap length (sym c.requires.held.held.same)) ∙ c.requires.held.held.same ∙ sym log;
      size = c.note.ensures.size ∙ c.requires.held.held.size;
      columns = keeps_known c.args.stack.now c.args.atoms.now.atoms c.tell.new.self c.undo_to.new.self c.undo_to.ensures.columns
          (keeps_known c.args.stack.now c.args.atoms.now.atoms c.args.held.now.bounds c.tell.new.self c.tell.ensures.columns c.requires.held.held.columns);
      told_at = subst (λ (ls : List Signed). ArePlaces ls c.note.new.self.places.items) (sym log) (c.note.ensures.same c.args.held.now.closure.log.items c.requires.held.held.told_at c.requires.open);
    }

pub returns-in-Taken-clause-held : goal.returns-in-Taken-clause-held
returns-in-Taken-clause-held c =
    let table = c.args.atoms.now.atoms in
    let old = c.args.held.now in
    let place : c.len-place.result ≡ length old.closure.log.items = search rules in
    let new : Held = record { closure = c.tell-answer.new.self; bounds = c.tell.new.self; scan = c.note.new.self; looked = old.looked } in
    told_more c.args.stack.now table old new c.args.literal c.requires.held.held c.tell-answer.ensures.told (c.tell.ensures.stays table c.requires.held.held.knows) (keeps_known c.args.stack.now table old.bounds c.tell.new.self c.tell.ensures.columns c.requires.held.held.columns)
    c.in-Ok.ensures.ok.log (ap (λ (t : TheoryState). t.log) c.in-Taken.ensures.answer) c.note.ensures.size (c.note.ensures.joined old.closure.log.items c.requires.held.held.told_at c.requires.open place)

pub returns-in-Conflict-clause-held : goal.returns-in-Conflict-clause-held
returns-in-Conflict-clause-held c =
    let table = c.args.atoms.now.atoms in
    let old = c.args.held.now in
    let place : c.len-place.result ≡ length old.closure.log.items = search rules in
    let new : Held = record { closure = c.tell-answer.new.self; bounds = c.tell.new.self; scan = c.note.new.self; looked = old.looked } in
    told_more c.args.stack.now table old new c.args.literal c.requires.held.held c.tell-answer.ensures.told (c.tell.ensures.stays table c.requires.held.held.knows) (keeps_known c.args.stack.now table old.bounds c.tell.new.self c.tell.ensures.columns c.requires.held.held.columns)
    c.in-Ok.ensures.ok.log (ap (λ (t : TheoryState). t.log) c.in-Conflict.ensures.answer.0) c.note.ensures.size (c.note.ensures.joined old.closure.log.items c.requires.held.held.told_at c.requires.open place)

pub untold-requires-clause-fails : goal.untold-requires-clause-fails
untold-requires-clause-fails c = λ r. subst (λ (b : State). FailsToTell b c.args.literal) (sym c.in-Err.ensures.err) (c.in-Err.ensures.fails r)

pub untold-requires-clause-knows : goal.untold-requires-clause-knows
untold-requires-clause-knows c = c.tell.ensures.stays c.args.atoms.now.atoms c.requires.held.held.knows

pub returns-in-Err-clause-held : goal.returns-in-Err-clause-held
returns-in-Err-clause-held c =
    let old = c.args.held.now in
    subst (λ (b : State). IsHeld c.args.stack.now c.args.atoms.now.atoms (record old { bounds = b })) (sym c.in-Err.ensures.err) c.requires.held.held

pub returns-in-Err-clause-err : goal.returns-in-Err-clause-err
returns-in-Err-clause-err c = c.untold.ensures

pub returns-in-Ended-clause-variables : goal.returns-in-Ended-clause-variables
returns-in-Ended-clause-variables c =
    let law = c.values_stay.ensures in
    keeps_both c.args.held.now.bounds c.tell.new.self c.undo_to.new.self
    (keeps_grid law c.args.held.now.bounds c.tell.new.self c.tell.ensures.variables c.in-Ok.ensures.ok.table c.in-Ok.ensures.ok.values)
    (keeps_grid law c.tell.new.self c.undo_to.new.self c.undo_to.ensures.variables c.undo_to.ensures.undone.table c.undo_to.ensures.undone.values)

pub returns-in-Taken-clause-variables : goal.returns-in-Taken-clause-variables
returns-in-Taken-clause-variables c =
    keeps_grid c.values_stay.ensures c.args.held.now.bounds c.tell.new.self c.tell.ensures.variables c.in-Ok.ensures.ok.table c.in-Ok.ensures.ok.values

pub returns-in-Conflict-clause-variables : goal.returns-in-Conflict-clause-variables
returns-in-Conflict-clause-variables c =
    keeps_grid c.values_stay.ensures c.args.held.now.bounds c.tell.new.self c.tell.ensures.variables c.in-Ok.ensures.ok.table c.in-Ok.ensures.ok.values

pub returns-in-Err-clause-variables : goal.returns-in-Err-clause-variables
returns-in-Err-clause-variables c = keeps_same c.args.held.now.bounds c.tell.new.self c.in-Err.ensures.err
