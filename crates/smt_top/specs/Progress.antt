-- How far a run has come.
use Rattle.std.specs.Prelude.{◌≡◌, ℕ, ◌+◌, ◌*◌, ◌≤◌, ◌<◌, ◌⊎◌, ◌↔◌, Bool, true, false, IsTrue, List, [], ◌∷◌, ◌++◌, length, take, sum_by, Any, ⊤, Option, IfSome, IfOk, IfErr, Result, Ok, Err}
use Rattle.std.specs.Io.KnownBytes.{Appends, Consumes, IsAtEnd}
use Rattle.smt_meaning.specs.Reading.{Unread, Answer, IsSettled, MayFollow}
use Rattle.smt_reader.specs.Reader.{Skips}
use Rattle.smt_meaning.specs.State.{State}
use Rattle.smt_meaning.specs.LegalJournal.{Moment, beginning, Runs, IsLegal, IsLegalSoFar, IsStopped, AnswersSettled, journal_text}
use Rattle.smt_meaning.specs.Text.{text}
use Rattle.smt_meaning.specs.declared.settings.Settings.{Settings}
use Rattle.smt_meaning.specs.declared.answers.Entry.{Entry}
use Rattle.smt_meaning.specs.declared.answers.Reply.{Reply}
use Rattle.smt_meaning.specs.declared.answers.Reply.TheVariants.{Error}
use Rattle.smt_top.specs.declared.serving.Server.{Server}
use Rattle.smt_top.specs.declared.serving.Stop.{Stop}
use Rattle.smt_top.specs.declared.serving.Stop.TheVariants.{Memory as StopMemory, WriteFault as StopWriteFault}
use Rattle.smt_top.specs.declared.top.Halt.{Halt}
use Rattle.smt_top.specs.declared.top.Halt.TheVariants.{Memory, ReadFault, WriteFault}
use Rattle.smt_top.specs.declared.serving.Stage.{Stage}
use Rattle.smt_top.specs.declared.serving.Stage.TheVariants.{Asks, Complete}
use Rattle.ports.specs.Flow.{SourceTold, SinkTold, Rose, RoseBy}
use Rattle.session.specs.Taken.{every_stack}
use Rattle.smt_top.specs.Ledgers.{Gains}

-- The journal

-- A run so far: what isn't read, the state, and what was answered.
pub record Run : Type 0 where
  pub reader : Unread
  pub session : State
  pub journal : List Entry

-- The run of a server that has given these entries.
abbrev pub run_of : Server → List Entry → Run
run_of server entries = record { reader = server.reader; session = server.session; journal = entries }

-- An error was replied.
abbrev pub IsError : Reply → Type 0
IsError (Error e) = ⊤
IsError _ = ⊥

abbrev pub IsFaulty : List Entry → Type 0
IsFaulty entries = Any (λ e. IsError e.reply) entries

-- The server has counted these entries, and knows whether an error is among their replies.
pub record Tallies (server : Server) (entries : List Entry) : Type 0 where
  pub count : server.count ≡ length entries
  pub faulty : IsTrue server.is_faulty ↔ IsFaulty entries

-- Where a run stands, if these bytes follow.
abbrev pub moment : Run → List ℕ → Moment
moment r more = record { place = r.reader.place; bytes = r.reader.bytes ++ more; state = r.session; number = length r.journal }

-- The run has answered the front of the input, and what isn't read is all that is left of it, whatever follows.
unfoldable pub HasLeft : Settings → List ℕ → Run → Type 0
HasLeft s input r = (more : List ℕ) → MayFollow r.reader.finished more → Runs every_stack (beginning s (input ++ more)) r.journal (moment r more)

-- The run has answered the front of the input, whatever follows. Of what is left of it the reader may have let white space and comments go.
unfoldable pub HasAnswered : Settings → List ℕ → Run → Type 0
HasAnswered s input r = (left : Unread) × Skips left r.reader × HasLeft s input (record r { reader = left })

-- The run has answered the input, whatever follows.
unfoldable pub IsComplete : Settings → List ℕ → Run → Type 0
IsComplete s input r = (more : List ℕ) → MayFollow r.reader.finished more → IsLegal every_stack s (input ++ more) r.journal

-- The journal is legal for the input as far as it goes, whatever follows.
unfoldable pub IsFront : Settings → List ℕ → Bool → List Entry → Type 0
IsFront s input finished journal = (more : List ℕ) → MayFollow finished more → IsLegalSoFar every_stack s (input ++ more) journal

-- What isn't read settles nothing.
abbrev pub NoneSettled : Unread → Type 0
NoneSettled u = (a : Answer) → IsSettled u a → ⊥

-- Why a run is over: its input is, or an exit or a fault was answered.
abbrev pub IsOver : Settings → List ℕ → Run → Type 0
IsOver s input r = (r.reader.finished ≡ true) ⊎ IsStopped every_stack s input r.journal

-- What is so where a run stops.
abbrev pub Comes : Settings → Stage → List ℕ → Run → Type 0
Comes s Asks input r = HasAnswered s input r × (r.reader.finished ≡ false) × NoneSettled r.reader
Comes s Complete input r = IsComplete s input r × IsOver s input r

-- What is written

-- How many calls of the sink a text takes: none where there is nothing to write.
abbrev pub calls_for : List ℕ → ℕ
calls_for [] = 0
calls_for (x ∷ xs) = 1

-- How many calls of the sink the replies take, one for each that has a text.
abbrev pub journal_calls : List Entry → ℕ
journal_calls entries = sum_by (λ e. calls_for (text e.reply)) entries

-- These bytes are written, by so many calls.
pub record Writes (old new : SinkTold) (bytes : List ℕ) (calls : ℕ) : Type 0 where
  pub appended : Appends old.written new.written bytes
  pub called : RoseBy calls old.calls new.calls

-- The whole journal is written, by one call for each reply that has a text.
abbrev pub IsWritten : SinkTold → SinkTold → List Entry → Type 0
IsWritten before now journal = Writes before now (journal_text journal) (journal_calls journal)

-- All entries but the last are written, and a front of the last one's text. There was no call after that for it.
pub record IsTorn (before now : SinkTold) (journal : List Entry) : Type 0 where
  pub front : List Entry
  pub last : Entry
  pub taken : ℕ
  pub entries : journal ≡ front ++ last ∷ []
  pub written : Writes before now (journal_text front ++ take taken (text last.reply)) (journal_calls journal)

-- What a put of a text comes to: all of it is written, or a front of it, by one call.
abbrev pub PutAfter : {T : Type 0} → Result T Stop → SinkTold → SinkTold → List ℕ → Type 0
PutAfter (Ok x) before now bytes = Writes before now bytes (calls_for bytes)
PutAfter (Err StopMemory) before now bytes = ⊥
PutAfter (Err StopWriteFault) before now bytes = (n : ℕ) × Writes before now (take n bytes) (calls_for bytes)

-- What a call that writes an entry's text gave the ledger: the entry, unless memory was wanting for it.
abbrev pub given : {T : Type 0} → Result T Stop → Entry → List Entry
given (Ok x) entry = entry ∷ []
given (Err StopMemory) entry = []
given (Err StopWriteFault) entry = entry ∷ []

abbrev pub WrittenAfter : {T : Type 0} → Result T Stop → SinkTold → SinkTold → List Entry → Type 0
WrittenAfter (Ok x) before now journal = IsWritten before now journal
WrittenAfter (Err StopMemory) before now journal = IsWritten before now journal
WrittenAfter (Err StopWriteFault) before now journal = IsTorn before now journal

-- The count never falls, and rose at a write fault.
abbrev pub WriteCause : {T : Type 0} → Result T Stop → ℕ → ℕ → Type 0
WriteCause (Ok x) before now = before ≤ now
WriteCause (Err StopMemory) before now = before ≤ now
WriteCause (Err StopWriteFault) before now = (before ≤ now) × Rose before now

-- What a call of the server did: it gave these entries to the ledger and their texts to the sink, and where the entries before had answered the front of the input, all of them now do. Where the call ended well, this holds after it.
pub record Served {T K : Type 0} (result : Result T Stop) (old new : Server) (sink sink_now : K) (told told_now : SinkTold)
    (kept kept_now : Option (List Entry)) (After : Settings → List ℕ → T → Run → Type 0) : Type 0 where
  pub added : List Entry
  pub gained : Gains kept added kept_now
  pub tally : (entries : List Entry) → Tallies old entries → Tallies new (entries ++ added)
  pub silent : journal_text added ≡ [] → sink_now ≡ sink
  pub written : (before : SinkTold) (entries : List Entry) → IsWritten before told entries → WrittenAfter result before told_now (entries ++ added)
  pub comes : (s : Settings) (input : List ℕ) (entries : List Entry) → Tallies old entries → HasAnswered s input (run_of old entries)
      → IfOk result (λ r. After s input r (run_of new (entries ++ added)))
  pub cut : (s : Settings) (input : List ℕ) (entries : List Entry) → Tallies old entries → HasAnswered s input (run_of old entries)
      → IfErr result (λ _. IsFront s input new.reader.finished (entries ++ added))

-- The two ends

-- The two ends of a run, at its start and now: what the source tells, and what the sink tells.
pub record Ends : Type 0 where
  pub source : SourceTold
  pub source_now : SourceTold
  pub sink : SinkTold
  pub sink_now : SinkTold

-- The ends of a run that began with this source and sink, and is at these now.
abbrev pub between : SourceTold → SinkTold → SourceTold → SinkTold → Ends
between source sink source_now sink_now = record {
  source = source;
  source_now = source_now;
  sink = sink;
  sink_now = sink_now;
}

-- The ends now, where the source or the sink is this.
abbrev pub at_source : Ends → SourceTold → Ends
at_source e now = record e { source_now = now }

abbrev pub at_sink : Ends → SinkTold → Ends
at_sink e now = record e { sink_now = now }

-- No count of faults fell.
pub record Later (e : Ends) : Type 0 where
  pub read : e.source.faults ≤ e.source_now.faults
  pub write : e.sink.faults ≤ e.sink_now.faults

-- What a run took from its source: these bytes, in so many calls that gave a byte or more.
pub record Took (e : Ends) (input : List ℕ) (given : ℕ) : Type 0 where
  pub bytes : Consumes e.source.left e.source_now.left input
  pub calls : RoseBy given e.source.given e.source_now.given

-- How a run stands

-- A run that goes on after so many calls of the source, with no more entries than bytes read: each gave a byte or more, at least one and at most 65536, unless one was the end; and what was ready of the bytes is answered and written.
pub record SoFar (s : Settings) (e : Ends) (count : ℕ) (r : Run) : Type 0 where
  pub input : List ℕ
  pub given : ℕ
  pub took : Took e input given
  pub many : given ≤ length input
  pub each : r.reader.finished ≡ false → given ≡ count
  pub but_one : r.reader.finished ≡ true → given < count
  pub few : r.reader.place + length r.reader.bytes ≤ 65536 * count
  pub ended : r.reader.finished ≡ true → IsAtEnd e.source_now.left
  pub answered : HasAnswered s input r
  pub numbered : length r.journal ≤ r.reader.place
  pub whole : IsWritten e.sink e.sink_now r.journal
  pub later : Later e

-- Why a run is over after at most so many calls of the source: one of them was at the end, or an exit or a fault was answered.
abbrev pub IsDone : Settings → Ends → ℕ → List ℕ → ℕ → List Entry → Type 0
IsDone s e count input given journal = (IsAtEnd e.source_now.left × (given < count)) ⊎ IsStopped every_stack s input journal

-- A run that is over: its journal is legal for the bytes that it took and for all that the source has, and is written.
pub record Over (s : Settings) (e : Ends) (count : ℕ) (r : Run) : Type 0 where
  pub input : List ℕ
  pub given : ℕ
  pub took : Took e input given
  pub within : given ≤ count
  pub legal : IsLegal every_stack s input r.journal
  pub legal_for_all : IfSome e.source.left (λ all. IsLegal every_stack s all r.journal)
  pub over : IsDone s e count input given r.journal
  pub whole : IsWritten e.sink e.sink_now r.journal
  pub later : Later e

abbrev pub WrittenAtHalt : Halt → SinkTold → SinkTold → List Entry → Type 0
WrittenAtHalt Memory before now journal = IsWritten before now journal
WrittenAtHalt ReadFault before now journal = IsWritten before now journal
WrittenAtHalt WriteFault before now journal = IsTorn before now journal

-- A run that was cut off after at most so many calls of the source, by a fault where its count rose: its journal is legal as far as it goes, and is written up to the entry whose text wasn't taken. Where the source failed it answers all that is settled.
pub record CutOff (s : Settings) (halt : Halt) (e : Ends) (count : ℕ) (r : Run) : Type 0 where
  pub input : List ℕ
  pub given : ℕ
  pub took : Took e input given
  pub within : given ≤ count
  pub legal : IsLegalSoFar every_stack s input r.journal
  pub legal_for_all : IfSome e.source.left (λ all. IsLegalSoFar every_stack s all r.journal)
  pub settled : halt ≡ ReadFault → AnswersSettled every_stack s input r.journal
  pub written : WrittenAtHalt halt e.sink e.sink_now r.journal
  pub later : Later e
  pub read : halt ≡ ReadFault → Rose e.source.faults e.source_now.faults × (given < count)
  pub write : halt ≡ WriteFault → Rose e.sink.faults e.sink_now.faults

-- How a run stands after a call.
abbrev pub Stands : Settings → Result Stage Halt → Ends → ℕ → Run → Type 0
Stands s (Ok Complete) e count r = Over s e count r
Stands s (Ok Asks) e count r = SoFar s e count r × (r.reader.finished ≡ false) × NoneSettled r.reader
Stands s (Err halt) e count r = CutOff s halt e count r

-- What is done with all that was ready.
pub record Advances {K : Type 0} (result : Result Stage Halt) (old new : Server) (sink sink_now : K) (told told_now : SinkTold)
    (kept kept_now : Option (List Entry)) : Type 0 where
  pub added : List Entry
  pub gained : Gains kept added kept_now
  pub tally : (entries : List Entry) → Tallies old entries → Tallies new (entries ++ added)
  pub silent : journal_text added ≡ [] → sink_now ≡ sink
  pub stands : (s : Settings) (e : Ends) (count : ℕ) (entries : List Entry) → Tallies old entries → SoFar s e count (run_of old entries)
      → e.sink_now ≡ told → Stands s result (at_sink e told_now) count (run_of new (entries ++ added))

-- How a run stands after at most so many calls of its source, and what its ledger gained.
pub record Driven {K : Type 0} (s : Settings) (result : Result Stage Halt) (e : Ends) (count : ℕ) (server : Server) (sink sink_now : K)
    (kept kept_now : Option (List Entry)) : Type 0 where
  pub journal : List Entry
  pub gained : Gains kept journal kept_now
  pub tally : Tallies server journal
  pub silent : journal_text journal ≡ [] → sink_now ≡ sink
  pub stands : Stands s result e count (run_of server journal)
