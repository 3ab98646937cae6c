-- What is told of what was found.
use Rattle.std.specs.Prelude.{◌≡◌, ℕ, Some, None}
use Rattle.ports.specs.Flow.{SinkTold, Rose}
use Rattle.proof_form.specs.declared.found.Found.{Found}
use Rattle.proof_check.specs.declared.intake.Halt.{Halt}
use Rattle.proof_check.specs.declared.intake.Halt.TheVariants.{Memory, ReadFault, TooLong}
use Rattle.proof_check.specs.declared.checking.CheckEnded.{CheckEnded}
use Rattle.proof_check.specs.Lines.{status_of}
use Rattle.proof_check.specs.Checked.{IsWritten, IsTorn}

-- the status of a run that was cut off
abbrev pub statuses : Halt → ℕ
statuses ReadFault = 3
statuses Memory = 5
statuses TooLong = 6

-- its line is written with its status, or a front of it where the sink failed, or memory was wanting for it
pub data IsTold (found : Found) (sink now : SinkTold) (c : CheckEnded) : Type 0 where
  whole : c.found ≡ Some found → c.status ≡ status_of found → IsWritten (Some found) sink now → IsTold found sink now c
  torn : c.found ≡ Some found → c.status ≡ 4 → IsTorn (Some found) sink now → Rose sink.faults now.faults → IsTold found sink now c
  untold : c.found ≡ None → c.status ≡ 5 → now ≡ sink → IsTold found sink now c
