use Rattle.std.proofs.Common.{take, All, subst}
use Rattle.std.proofs.lemmas.List.{take_all}
use Rattle.std.proofs.lemmas.List.Elements.{All-more, All-weaker}
use Rattle.worker.specs.Import.{IsTaken}
use Rattle.worker.proofs.import.take_entries.Goals as goal

pub loop-entry-preserved : goal.loop-entry-preserved
loop-entry-preserved g c =
    let table = (g.T.Theory.state c.args.theory.now).reading.table in
    record {
      addable = c.take_entry.ensures.addable;
      taken = All-more (IsTaken table c.args.worker c.take_entry.new.lemmas) c.args.entries.now c.loop-entry.entry-index c.entry-item.result c.loop-entry-test.true
          (All-weaker (IsTaken table c.args.worker c.loop-entry.lemmas) (IsTaken table c.args.worker c.take_entry.new.lemmas)
          (λ e h few other may. ((h few other may).0, c.in_ok-take_entry.ensures.stay _ (h few other may).1, (h few other may).2)) (take c.loop-entry.entry-index c.args.entries.now) c.loop-entry.invariant.taken)
          (subst (IsTaken table c.args.worker c.take_entry.new.lemmas) c.entry-item.is c.in_ok-take_entry.ensures.taken);
    }

pub returns-clause-taken : goal.returns-clause-taken
returns-clause-taken g c =
    let table = (g.T.Theory.state c.args.theory.now).reading.table in
    subst (λ es. All (IsTaken table c.args.worker c.loop-entry.lemmas) es) (take_all c.loop-entry.entry-index c.args.entries.now c.loop-entry-test.false) c.loop-entry.invariant.taken
