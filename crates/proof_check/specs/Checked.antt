-- What a run of the checker comes to.
use Rattle.std.specs.Prelude.{◌≡◌, ◌⊎◌, ◌↔◌, ◌≤◌, ◌<◌, ℕ, Bool, true, List, [], ◌++◌, length, take, Option, Some, None, IfSome}
use Rattle.std.specs.Io.KnownBytes.{Appends, Consumes, IsAtEnd}
use Rattle.smt_meaning.specs.declared.tokens.Token.{Token}
use Rattle.proof_meaning.specs.declared.proof.Proof.{Proof}
use Rattle.smt_meaning.specs.Reading.{MayFollow}
use Rattle.smt_meaning.specs.Sexp.{Sexp, sexp}
use Rattle.smt_meaning.specs.Stack.{Frame, HasNoModel, signature_of}
use Rattle.smt_meaning.specs.State.{State, checked_frames}
use Rattle.smt_meaning.specs.Term.{Interpretation}
use Rattle.smt_meaning.specs.Interpretation.{Interprets}
use Rattle.proof_meaning.specs.Reading.{proof_read}
use Rattle.proof_meaning.specs.Rules.{IsGood}
use Rattle.proof_meaning.specs.Laws.{MakesNamedTrue}
use Rattle.ports.specs.Flow.{SourceTold, SinkTold, Rose, RoseBy}
use Rattle.proof_form.specs.declared.found.Found.{Found}
use Rattle.proof_form.specs.declared.found.Found.TheVariants.{Yes, NoProof}
use Rattle.proof_form.specs.Found.{IsFound}
use Rattle.proof_check.specs.Folds.{HasProof, HasNoProof, IsOpen}
use Rattle.proof_check.specs.Lines.{line_of, IsStatus}
use Rattle.proof_check.specs.declared.checking.CheckEnded.{CheckEnded}

-- ---- the input

-- what a run took from its source: these bytes, in so many calls that gave a byte or more, at most as many as the budget; and whether they are all, found so by a further call within the budget
pub record Read (budget : ℕ) (source now : SourceTold) : Type 0 where
  pub input : List ℕ
  pub given : ℕ
  pub bytes : Consumes source.left now.left input
  pub calls : RoseBy given source.given now.given
  pub within : given ≤ budget
  pub ended : Bool
  pub at_end : ended ≡ true → IsAtEnd now.left × (given < budget)
  -- all that the source has is these bytes and some that may follow
  pub whole : IfSome source.left (λ all. (more : List ℕ) × MayFollow ended more × (all ≡ input ++ more))

-- so it is of the input, whatever bytes follow
abbrev pub Whatever : Bool → List ℕ → (List ℕ → Type 0) → Type 0
Whatever ended input P = (more : List ℕ) → MayFollow ended more → P (input ++ more)

-- ---- what is found

-- there is no proof; or an s-expression stands in its place, and this is found of it, as a proof that the levels of the last check have no model
pub data Finds (ended : Bool) (input : List ℕ) : Found → Type 0 where
  without : Whatever ended input HasNoProof → Finds ended input NoProof
  judged : {found : Found} → (state : State) (tokens : List Token) → Whatever ended input (λ all. HasProof all state tokens)
      → IsFound (checked_frames state) (sexp tokens) found → Finds ended input found

-- it is a good proof: no interpretation makes the assertions true that its steps name, and so none all of them
pub record Refutes (frames : List Frame) (x : Sexp) : Type 0 where
  pub proof : Proof
  pub read : proof_read (signature_of frames) x ≡ Some proof
  pub good : IsGood frames proof
  pub named : (I : Interpretation) → Interprets (signature_of frames) I → MakesNamedTrue I frames proof → ⊥
  pub none : HasNoModel frames

-- the input has a good proof that the assertions of its last check have no model
pub record IsRefuted (ended : Bool) (input : List ℕ) : Type 0 where
  pub state : State
  pub tokens : List Token
  pub has : Whatever ended input (λ all. HasProof all state tokens)
  pub refutes : Refutes (checked_frames state) (sexp tokens)

-- ---- what is written

-- these bytes are written, by so many calls
pub record Writes (sink now : SinkTold) (bytes : List ℕ) (calls : ℕ) : Type 0 where
  pub appended : Appends sink.written now.written bytes
  pub called : RoseBy calls sink.calls now.calls

abbrev pub IsWritten : Option Found → SinkTold → SinkTold → Type 0
IsWritten None sink now = Writes sink now [] 0
IsWritten (Some f) sink now = Writes sink now (line_of f) 1

-- a front of the line is written
abbrev pub IsTorn : Option Found → SinkTold → SinkTold → Type 0
IsTorn None sink now = ⊥
IsTorn (Some f) sink now = (n : ℕ) × Writes sink now (take n (line_of f)) 1

-- ---- a run

-- what a run comes to, of a line of so many words, between its source and its sink
pub record IsChecked (budget words : ℕ) (source source_now : SourceTold) (sink sink_now : SinkTold) (c : CheckEnded) : Type 0 where
  pub read : Read budget source source_now
  pub finds : IfSome c.found (Finds read.ended read.input)
  pub refuted : c.found ≡ Some Yes → IsRefuted read.ended read.input
  -- at 3 and 6 nothing is found yet
  pub still_open : (c.status ≡ 3) ⊎ (c.status ≡ 6) → IsOpen read.input
  pub written : (c.status ≡ 4 → ⊥) → IsWritten c.found sink sink_now
  pub torn : c.status ≡ 4 → IsTorn c.found sink sink_now
  -- when each status comes
  pub status : IsStatus c.found c.status
  pub words_refused : (c.status ≡ 2) ↔ (1 < words)
  pub read_fault : c.status ≡ 3 → Rose source.faults source_now.faults × (read.given < budget)
  pub write_fault : c.status ≡ 4 → Rose sink.faults sink_now.faults
  -- each of the calls within the budget gave a byte or more, and another would be made
  pub long : c.status ≡ 6 → (read.given ≡ budget) × (budget ≤ length read.input)
