-- What the program comes to: its run, and what it says of how that ended.
use Rattle.std.specs.Prelude.{◌≡◌, ◌⊎◌, ◌^◌, List, [], ℕ, Result, Ok, Err, codes, map, string_bytes, Vec, String}
use Rattle.ports.specs.Flow.{SinkTold, Rose}
use Rattle.smt_words.specs.declared.error.WordsError.{WordsError}
use Rattle.smt_top.specs.declared.top.Note.{Note}
use Rattle.smt_top.specs.declared.top.Note.TheVariants.{Fine, Words, ReadFault, WriteFault, NoMemory, TooLong}
use Rattle.smt_top.specs.declared.top.Ended.{Ended}
use Rattle.smt_top.specs.Progress.{Ends, Writes, calls_for}
use Rattle.smt_top.specs.Ended.{RanUnder, IsUnbegun, MatchesStatus}

-- The line on standard error that says why a run ended.
abbrev pub line_of : Note → List ℕ
line_of Fine = []
line_of Words = codes "usage: smt_cli [--workers 1..16] [--units U] [--share 0..64] [--seed K] [gen --seed K --size 1..2000]\n"
line_of ReadFault = codes "read failed\n"
line_of WriteFault = codes "write failed\n"
line_of NoMemory = codes "out of memory\n"
line_of TooLong = codes "input too long\n"

-- The text stands behind what was written, put there by one call where there is any, or the count of faults rose.
abbrev pub IsSaid : List ℕ → SinkTold → SinkTold → Type 0
IsSaid text old new = Writes old new text (calls_for text) ⊎ Rose old.faults new.faults

-- Where no words can be had, nothing is read, written or answered.
pub record IsIdle (error : WordsError) (e : Ends) (ended : Ended) : Type 0 where
  pub source : e.source_now ≡ e.source
  pub sink : e.sink_now ≡ e.sink
  pub journal : ended.journal ≡ []
  pub status : IsUnbegun error ended.status
  pub note : MatchesStatus ended.note ended.status

-- A run under these words, or none where they can't be had.
abbrev pub IsServed : {A B : Type 0} → Result (Vec (String A) B) WordsError → Ends → Ended → Type 0
IsServed (Ok words) e ended = RanUnder (2 ^ 40) (map string_bytes words.items) e ended
IsServed (Err error) e ended = IsIdle error e ended
