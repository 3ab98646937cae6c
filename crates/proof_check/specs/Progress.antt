-- How far a run has come.
use Rattle.std.specs.Prelude.{◌≡◌, ◌≤◌, ◌<◌, ◌+◌, ◌*◌, ◌^◌, ℕ, Bool, true, false, List, ◌++◌, length, Option, Some, None, Result, Ok, Err}
use Rattle.std.specs.Io.KnownBytes.{Consumes, IsAtEnd}
use Rattle.smt_meaning.specs.declared.tokens.Token.{Token}
use Rattle.smt_meaning.specs.Reading.{Answer, Unread, Lexes, IsSExpr, IsSettled, MayFollow}
use Rattle.smt_meaning.specs.State.{State, start}
use Rattle.smt_reader.specs.Reader.{Skips}
use Rattle.ports.specs.Flow.{SourceTold, Rose, RoseBy}
use Rattle.proof_form.specs.declared.found.Found.{Found}
use Rattle.proof_check.specs.declared.intake.Halt.{Halt}
use Rattle.proof_check.specs.declared.intake.Halt.TheVariants.{Memory, ReadFault, TooLong}
use Rattle.proof_check.specs.declared.intake.Intake.{Intake}
use Rattle.proof_check.specs.Folds.{Folds, IsOver, IsUnsettled, HasNoProof, IsOpen, get_proof, settings}
use Rattle.proof_check.specs.Checked.{Read, Whatever, Finds}

-- what is read of an input: commands that leave a state, and s-expressions behind them
pub data Phase : Type 0 where
  folded : State → Phase
  past : Phase → List Token → Phase

-- reading has come to these bytes of the input
abbrev pub Reached : Phase → List ℕ → List ℕ → Type 0
Reached (folded s) input left = Folds (start settings) input s left
Reached (past p tokens) input left = (before : List ℕ) × Reached p input before × Lexes before tokens left

-- and no s-expression comes
abbrev pub EndsAt : Phase → List ℕ → Type 0
EndsAt p input = (left : List ℕ) × Reached p input left × IsOver left

-- and what comes isn't settled
abbrev pub IsOpenAt : Phase → List ℕ → Type 0
IsOpenAt p input = (rest : List ℕ) × ((more : List ℕ) → Reached p (input ++ more) (rest ++ more)) × IsUnsettled rest

-- what isn't read settles nothing
abbrev pub NoneSettled : Unread → Type 0
NoneSettled u = (a : Answer) → IsSettled u a → ⊥

-- the places of all bytes to come are numbers of 64 bits
abbrev pub HasRoom : Intake → Type 0
HasRoom i = i.reader.place + length i.reader.bytes + 65536 * i.calls ≤ 65536 * 2 ^ 40

-- each s-expression that is read makes it less
abbrev pub weight : Intake → ℕ
weight i = 65537 * i.calls + length i.reader.bytes

-- a run that goes on: each call of the source gave a byte or more, unless one was the end, and reading has come to what isn't read, whatever follows, of which the reader may have let white space and comments go
pub record SoFar (budget : ℕ) (source now : SourceTold) (p : Phase) (i : Intake) : Type 0 where
  pub input : List ℕ
  pub given : ℕ
  pub bytes : Consumes source.left now.left input
  pub calls : RoseBy given source.given now.given
  pub faults : source.faults ≤ now.faults
  pub many : given ≤ length input
  pub each : i.reader.finished ≡ false → given + i.calls ≡ budget
  pub but_one : i.reader.finished ≡ true → given < budget
  pub ended : i.reader.finished ≡ true → IsAtEnd now.left
  pub left : Unread
  pub skips : Skips left i.reader
  pub reached : (more : List ℕ) → MayFollow i.reader.finished more → Reached p (input ++ more) (left.bytes ++ more)

-- why a run was cut off after so many calls, where this is so of its input
abbrev pub CauseOf : Halt → ℕ → SourceTold → SourceTold → ℕ → List ℕ → (List ℕ → Type 0) → Type 0
CauseOf Memory budget source now given input P = Unit {0}
CauseOf ReadFault budget source now given input P = Rose source.faults now.faults × (given < budget) × P input
CauseOf TooLong budget source now given input P = (given ≡ budget) × (budget ≤ length input) × P input

pub record CutOff (budget : ℕ) (source now : SourceTold) (P : List ℕ → Type 0) (halt : Halt) : Type 0 where
  pub read : Read budget source now
  pub cause : CauseOf halt budget source now read.given read.input P

-- the next s-expression is read, or none comes, or the run is cut off
abbrev pub IsNext : ℕ → SourceTold → SourceTold → Phase → Result (Option (List Token)) Halt → Intake → Type 0
IsNext budget source now p (Ok (Some tokens)) i = IsSExpr tokens × SoFar budget source now (past p tokens) i
IsNext budget source now p (Ok None) i = (r : Read budget source now) × Whatever r.ended r.input (EndsAt p)
IsNext budget source now p (Err halt) i = CutOff budget source now (IsOpenAt p) halt

-- the commands are folded and (get-proof) is read, or there is no proof, or the run is cut off
abbrev pub IsAsked : ℕ → SourceTold → SourceTold → Result Bool Halt → State → Intake → Type 0
IsAsked budget source now (Ok true) s i = SoFar budget source now (past (folded s) get_proof) i
IsAsked budget source now (Ok false) s i = (r : Read budget source now) × Whatever r.ended r.input HasNoProof
IsAsked budget source now (Err halt) s i = CutOff budget source now IsOpen halt

-- something is found, or the run is cut off
abbrev pub Comes : ℕ → SourceTold → SourceTold → Result Found Halt → Type 0
Comes budget source now (Ok found) = (r : Read budget source now) × Finds r.ended r.input found
Comes budget source now (Err halt) = CutOff budget source now IsOpen halt
