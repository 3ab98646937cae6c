use Rattle.std.proofs.Common.{take}
use Rattle.cdcl_core.specs.Search.{AreAddable}
use Rattle.worker.specs.Import.{AreTaken}
use Rattle.worker.proofs.import.take_entries.Given as goal

abbrev pub invariant-loop-entry : goal.invariant-loop-entry
invariant-loop-entry g l =
    record {
      addable : AreAddable (g.T.Theory.state l.theory).reading l.lemmas;
      taken : AreTaken (g.T.Theory.state l.theory).reading.table l.worker (take l.entry-index l.entries) l.lemmas;
    }
