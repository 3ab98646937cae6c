-- How a run ends.
use Rattle.std.specs.Prelude.{◌≡◌, ℕ, ◌≤◌, ◌<◌, ◌+◌, ◌⊎◌, false, List, [], Option, Some, None, Result, Ok, Err, length, IfSome, ◌↔◌}
use Rattle.smt_meaning.specs.declared.answers.Entry.{Entry}
use Rattle.smt_top.specs.declared.serving.Stop.{Stop}
use Rattle.smt_top.specs.declared.serving.Stop.TheVariants.{Memory as StopMemory, WriteFault as StopWriteFault}
use Rattle.smt_top.specs.declared.serving.Stage.{Stage}
use Rattle.smt_top.specs.declared.serving.Stage.TheVariants.{Asks, Complete}
use Rattle.smt_top.specs.declared.top.Halt.{Halt}
use Rattle.smt_top.specs.declared.top.Halt.TheVariants.{Memory, ReadFault, WriteFault}
use Rattle.smt_top.specs.declared.top.Note.{Note}
use Rattle.smt_top.specs.declared.top.Note.TheVariants.{Fine, Words, ReadFault as ReadNote, WriteFault as WriteNote, NoMemory, TooLong as LongNote}
use Rattle.ports.specs.Flow.{Rose, SinkTold}
use Rattle.smt_meaning.specs.LegalJournal.{IsLegal, IsLegalSoFar, AnswersSettled, journal_text}
use Rattle.smt_words.specs.Words.{are_taken, generated_of, settings_of}
use Rattle.smt_words.specs.declared.Generated.{Generated}
use Rattle.script_gen.specs.Script.{script}
use Rattle.smt_words.specs.declared.error.WordsError.{WordsError}
use Rattle.smt_words.specs.declared.error.WordsError.TheVariants.{Refused, Memory as WordsMemory}
use Rattle.session.specs.Taken.{every_stack}
use Rattle.smt_top.specs.Ledgers.{Gains}
use Rattle.smt_top.specs.Progress.{Ends, Took, IsDone, IsWritten, IsTorn, IsFaulty, between}
use Rattle.smt_top.specs.declared.top.Ended.{Ended}
use Rattle.smt_top.specs.declared.top.Outcome.{Outcome}

abbrev pub HaltOf : Stop → Halt → Type 0
HaltOf StopMemory h = h ≡ Memory
HaltOf StopWriteFault h = h ≡ WriteFault

abbrev pub StatusOf : Result Stage Halt → ℕ → Type 0
StatusOf (Ok Complete) status = status < 2
StatusOf (Ok Asks) status = status ≡ 6
StatusOf (Err ReadFault) status = status ≡ 3
StatusOf (Err WriteFault) status = status ≡ 4
StatusOf (Err Memory) status = status ≡ 5

-- The status of a run whose words gave no settings.
abbrev pub IsUnbegun : WordsError → ℕ → Type 0
IsUnbegun Refused status = status ≡ 2
IsUnbegun WordsMemory status = status ≡ 5

-- The note says why, as the status does.
abbrev pub MatchesStatus : Note → ℕ → Type 0
MatchesStatus Fine status = status < 2
MatchesStatus Words status = status ≡ 2
MatchesStatus ReadNote status = status ≡ 3
MatchesStatus WriteNote status = status ≡ 4
MatchesStatus NoMemory status = status ≡ 5
MatchesStatus LongNote status = status ≡ 6

-- What a run comes to, between the ends of its source and its sink, where it took these words of the command line.
pub record Ran (budget : ℕ) (words : List (List ℕ)) (e : Ends) (ended : Ended) : Type 0 where
  -- The bytes that the source gave, in so many calls that gave a byte or more. There are no more of these calls than the budget.
  pub input : List ℕ
  pub given : ℕ
  pub took : Took e input given
  pub within : given ≤ budget
  -- At the statuses 0 and 1 the journal is legal for them, and for all that the source has. They are all, found so by a further call within the budget, unless an exit or a fault ended the run.
  pub legal : ended.status < 2 → IsLegal every_stack (settings_of words) input ended.journal
  pub legal_for_all : ended.status < 2 → IfSome e.source.left (λ all. IsLegal every_stack (settings_of words) all ended.journal)
  pub over : ended.status < 2 → IsDone (settings_of words) e budget input given ended.journal
  pub error : ended.status < 2 → ((ended.status ≡ 1) ↔ IsFaulty ended.journal)
  -- At each status the journal is legal as far as it goes.
  pub legal_so_far : IsLegalSoFar every_stack (settings_of words) input ended.journal
  pub legal_so_far_for_all : IfSome e.source.left (λ all. IsLegalSoFar every_stack (settings_of words) all ended.journal)
  -- At 3 and 6 it answers exactly what the bytes settle.
  pub settled : (ended.status ≡ 3) ⊎ (ended.status ≡ 6) → AnswersSettled every_stack (settings_of words) input ended.journal
  -- Its text is written, but for the last entry's at 4, of which a front is. At each status there was one call of the sink for each reply that has a text, and no other.
  pub whole : (ended.status ≡ 4 → ⊥) → IsWritten e.sink e.sink_now ended.journal
  pub torn : ended.status ≡ 4 → IsTorn e.sink e.sink_now ended.journal
  -- When each status comes.
  pub note : MatchesStatus ended.note ended.status
  pub words_refused : ended.status ≡ 2 → are_taken words ≡ false
  pub words_untaken : are_taken words ≡ false → (ended.status ≡ 2) ⊎ (ended.status ≡ 5)
  pub read : ended.status ≡ 3 → Rose e.source.faults e.source_now.faults × (given < budget)
  pub write : ended.status ≡ 4 → Rose e.sink.faults e.sink_now.faults
  -- Of the calls within the budget each gave a byte or more, and another would be made.
  pub long : ended.status ≡ 6 → (given ≡ budget) × (budget ≤ length input)

-- The ends of a run of a script that is made: its bytes come in the place of the source's, all of them and without a fault.
abbrev pub made_of : List ℕ → SinkTold → SinkTold → Ends
made_of bytes sink sink_now = between (record { left = Some bytes; given = None; faults = 0 }) sink (record { left = Some []; given = None; faults = 0 }) sink_now

-- What a run of a script that is made comes to. The source is as it was; and since no call asks for more, any budget will do.
pub record RanMade (words : List (List ℕ)) (bytes : List ℕ) (e : Ends) (ended : Ended) : Type 0 where
  pub unasked : e.source_now ≡ e.source
  pub ran : Ran (length bytes + 1) words (made_of bytes e.sink e.sink_now) ended
  pub unfailing : ended.status ≡ 3 → ⊥
  pub not_long : ended.status ≡ 6 → ⊥

-- The same by the numbers of `gen`, if there are any.
abbrev pub RanBy : Option Generated → ℕ → List (List ℕ) → Ends → Ended → Type 0
RanBy None budget words e ended = Ran budget words e ended
RanBy (Some g) budget words e ended = RanMade words (script g.seed g.size) e ended

-- What a run under these words comes to: a run of what the source gives or, with `gen`, of the script that is made.
abbrev pub RanUnder : ℕ → List (List ℕ) → Ends → Ended → Type 0
RanUnder budget words e ended = RanBy (generated_of words) budget words e ended

-- A run that ended so, with this journal.
abbrev pub ended_with : Outcome → List Entry → Ended
ended_with outcome journal = record { status = outcome.status; journal = journal; note = outcome.note }

-- What a run through a ledger comes to: there is a journal with which all of this holds, and the ledger gained its entries. It is none where the words are refused, and where it has no text the sink is as it was.
pub record RanThrough {K : Type 0} (budget : ℕ) (words : List (List ℕ)) (e : Ends) (outcome : Outcome) (sink sink_now : K)
    (kept kept_now : Option (List Entry)) : Type 0 where
  pub journal : List Entry
  pub ran : RanUnder budget words e (ended_with outcome journal)
  pub gained : Gains kept journal kept_now
  pub silent : journal_text journal ≡ [] → sink_now ≡ sink
  pub unread : are_taken words ≡ false → journal ≡ []
