use Rattle.std.proofs.Common.{◌≡◌, List, refl, subst, ◌∙◌}
use Rattle.race_model.specs.declared.event.Entry.{Entry}
use Rattle.race_cell.specs.declared.answer.Batch.TheVariants.{Batch, Busy, Memory}
use Rattle.race_cell.specs.Passes.{base_of, claim_of}
use Rattle.worker.specs.Import.{AreTaken, TakesBatch}
use Rattle.worker.proofs.Carried.{on_ok}
use Rattle.worker.proofs.import.take_clauses.Goals as goal

pub returns-in-Batch-clause-taken : goal.returns-in-Batch-clause-taken
returns-in-Batch-clause-taken g c =
    let table = (g.T.Theory.state c.args.theory.now).reading.table in
    let number : c.take_batch.new.pass.worker ≡ (claim_of c.args.pass.now).worker = c.in-Batch.ensures.same.1 ∙ c.args.pass.now.number in
    on_ok c.take_entries.result (AreTaken table c.take_batch.new.pass.worker c.deref.result.now c.take_entries.new.lemmas)
    (TakesBatch table (base_of g.S.Shelf.state c.args.pass.now) (claim_of c.args.pass.now) c.args.lemmas.now (claim_of c.take_batch.new.pass) c.take_entries.new.lemmas)
    c.take_entries.ensures.taken
    (λ h. (
      Batch c.in-Batch.entries,
      c.in-Batch.ensures.tells,
      subst (λ w. AreTaken table w c.in-Batch.entries.items c.take_entries.new.lemmas) number
          (subst (λ (es : List Entry). AreTaken table c.take_batch.new.pass.worker es c.take_entries.new.lemmas) c.deref.ensures.value h),
    ))

pub returns-in-Busy-clause-taken : goal.returns-in-Busy-clause-taken
returns-in-Busy-clause-taken g c = (Busy, c.in-Busy.ensures.tells, refl)

pub returns-in-Memory-clause-taken : goal.returns-in-Memory-clause-taken
returns-in-Memory-clause-taken g c = (Memory, c.in-Memory.ensures.tells, refl)
