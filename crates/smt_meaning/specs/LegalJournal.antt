-- Which journals are legal (SMT-LIB 2.6, section 4.1).
use Rattle.std.specs.Prelude.{◌≡◌, ℕ, ◌+◌, ◌⊎◌, false, List, [], ◌∷◌, ◌++◌, length, Ok}
use Rattle.std.specs.List.{flat_map}
use Rattle.smt_meaning.specs.Reading.{Lexes, IsSExpr, First, fault, end, Answer, IsSettled}
use Rattle.smt_meaning.specs.declared.tokens.Token.{Token}
use Rattle.smt_meaning.specs.declared.settings.Settings.{Settings}
use Rattle.smt_meaning.specs.declared.tokens.FaultKind.{FaultKind}
use Rattle.smt_meaning.specs.declared.errors.Error.TheVariants.{Fault}
use Rattle.smt_meaning.specs.declared.commands.Command.TheVariants.{Exit}
use Rattle.smt_meaning.specs.declared.answers.Reply.TheVariants.{Error}
use Rattle.smt_meaning.specs.declared.answers.Entry.{Entry}
use Rattle.smt_meaning.specs.declared.replies.Kept.TheVariants.{Nothing}
use Rattle.smt_meaning.specs.Sexp.{sexp}
use Rattle.smt_meaning.specs.Command.{command}
use Rattle.smt_meaning.specs.State.{State, start}
use Rattle.smt_meaning.specs.MayReply.{Decided, Replies}
use Rattle.smt_meaning.specs.Text.{text}

-- A moment of a run: the input that is left, from a place on, the state, and the number of the next entry.
pub record Moment : Type 0 where
  pub place : ℕ
  pub bytes : List ℕ
  pub state : State
  pub number : ℕ

abbrev pub beginning : Settings → List ℕ → Moment
beginning settings input = record { place = 0; bytes = input; state = start settings; number = 0 }

-- The first s-expression of what is left is ts, and what is left then is new's.
pub record Reads (old : Moment) (ts : List Token) (new : Moment) : Type 0 where
  pub sexpr : IsSExpr ts
  pub lexes : Lexes old.bytes ts new.bytes
  pub place : new.place + length new.bytes ≡ old.place + length old.bytes

-- The entry answers the first s-expression of what is left.
pub record Answers (decided : Decided) (old : Moment) (entry : Entry) (ts : List Token) (new : Moment) : Type 0 where
  pub reads : Reads old ts new
  pub number : (entry.number ≡ old.number) × (new.number ≡ old.number + 1)
  pub reply : Replies decided old.state ts entry.reply entry.kept new.state

abbrev pub IsExit : List Token → Type 0
IsExit ts = command (sexp ts) ≡ Ok Exit

-- The entry is the last: it answers an exit, or the fault that comes first.
abbrev pub IsLast : Decided → Moment → Entry → Type 0
IsLast decided m entry =
    ((ts : List Token) × (new : Moment) × IsExit ts × Answers decided m entry ts new)
    ⊎ ((kind : FaultKind) × (at : ℕ) × First m.place m.bytes (fault kind at)
    × (entry.number ≡ m.number) × (entry.reply ≡ Error (Fault kind at)) × (entry.kept ≡ Nothing))

-- The entry answers an s-expression that is no exit.
abbrev pub GoesOn : Decided → Moment → Entry → Moment → Type 0
GoesOn decided old entry new = (ts : List Token) × (IsExit ts → ⊥) × Answers decided old entry ts new

-- The entries answer what is left, to its end, to an exit or to a fault.
abbrev pub Answered : Decided → Moment → List Entry → Type 0
Answered decided m [] = First m.place m.bytes end
Answered decided m (entry ∷ entries) =
    (IsLast decided m entry × (entries ≡ [])) ⊎ ((new : Moment) × GoesOn decided m entry new × Answered decided new entries)

-- The journal is legal for the input, under these settings.
unfoldable pub IsLegal : Decided → Settings → List ℕ → List Entry → Type 0
IsLegal decided settings input entries = Answered decided (beginning settings input) entries

-- The entries answer what is left, one after another, from old to new, and none of them is the last.
abbrev pub Runs : Decided → Moment → List Entry → Moment → Type 0
Runs decided old [] new = old ≡ new
Runs decided old (entry ∷ entries) new = (mid : Moment) × GoesOn decided old entry mid × Runs decided mid entries new

-- The journal is legal for the input as far as it goes.
unfoldable pub IsLegalSoFar : Decided → Settings → List ℕ → List Entry → Type 0
IsLegalSoFar decided settings input entries =
    ((m : Moment) × Runs decided (beginning settings input) entries m) ⊎ IsLegal decided settings input entries

-- The last entry answers an exit or a fault.
unfoldable pub IsStopped : Decided → Settings → List ℕ → List Entry → Type 0
IsStopped decided settings input entries = (front : List Entry) × (last : Entry) × (m : Moment)
    × (entries ≡ front ++ last ∷ []) × Runs decided (beginning settings input) front m × IsLast decided m last

-- The entries answer exactly the s-expressions that the input settles, whatever bytes may follow it.
pub record AnswersSettled (decided : Decided) (settings : Settings) (input : List ℕ) (entries : List Entry) : Type 0 where
  pub place : ℕ
  pub rest : List ℕ
  pub state : State
  pub runs : (more : List ℕ) → Runs decided (beginning settings (input ++ more)) entries (record { place = place; bytes = rest ++ more; state = state; number = length entries })
  pub none_settled : (a : Answer) → IsSettled (record { place = place; bytes = rest; finished = false }) a → ⊥

-- The text of a journal.
abbrev pub journal_text : List Entry → List ℕ
journal_text entries = flat_map (λ e. text e.reply) entries
