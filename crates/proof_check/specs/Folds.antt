-- What an input is to the checker of proofs: commands that are folded up to (get-proof), however their checks are answered, and then an s-expression in the place of a proof (SMT-LIB 2.6, section 4.2.7).
use Rattle.std.specs.Prelude.{◌≡◌, ◌⊎◌, ℕ, true, false, pos, List, [], ◌∷◌, ◌++◌, codes}
use Rattle.smt_meaning.specs.declared.settings.Settings.{Settings}
use Rattle.smt_meaning.specs.declared.tokens.Token.{Token}
use Rattle.smt_meaning.specs.declared.tokens.Token.TheVariants.{Enter, Leave, Symbol}
use Rattle.smt_meaning.specs.declared.tokens.FaultKind.{FaultKind}
use Rattle.smt_meaning.specs.declared.answers.Reply.{Reply}
use Rattle.smt_meaning.specs.declared.replies.Kept.{Kept}
use Rattle.smt_meaning.specs.Reading.{lexeme, nothing, Lexes, IsSExpr, HasFault, Answer, IsSettled}
use Rattle.smt_meaning.specs.State.{State, start}
use Rattle.smt_meaning.specs.MayReply.{Replies}
use Rattle.smt_meaning.specs.LegalJournal.{IsExit}
use Rattle.session.specs.LastCheck.{is_after_check}
use Rattle.session.specs.Taken.{every_stack}

-- those of no words, but for one worker
abbrev pub settings : Settings
settings = record { workers = 1; units = pos 0; share = 8; seed = 0 }

abbrev pub get_proof : List Token
get_proof = Enter ∷ Symbol (codes "get-proof") ∷ Leave ∷ []

-- ---- the fold

-- the first s-expression of these bytes, no exit and not (get-proof), may be answered and leaves this state and these bytes
pub record IsFolded (s : State) (bytes : List ℕ) (new : State) (left : List ℕ) : Type 0 where
  pub tokens : List Token
  pub sexpr : IsSExpr tokens
  pub lexes : Lexes bytes tokens left
  pub no_exit : IsExit tokens → ⊥
  pub no_question : tokens ≡ get_proof → ⊥
  pub reply : Reply
  pub kept : Kept
  pub replies : Replies every_stack s tokens reply kept new

-- so are s-expressions, one after another
pub data Folds (s : State) (bytes : List ℕ) : State → List ℕ → Type 0 where
  no_command : Folds s bytes s bytes
  next_command : {mid new : State} {rest left : List ℕ} → Folds s bytes mid rest → IsFolded mid rest new left → Folds s bytes new left

-- the commands up to the first (get-proof) leave this state, and these bytes stand behind it
abbrev pub Asks : List ℕ → State → List ℕ → Type 0
Asks input state left = (before : List ℕ) × Folds (start settings) input state before × Lexes before get_proof left

-- no s-expression comes: a lexical fault, or the end
abbrev pub IsOver : List ℕ → Type 0
IsOver bytes = ((kind : FaultKind) × (from : List ℕ) × HasFault kind bytes from) ⊎ (lexeme bytes ≡ nothing)

-- ---- what stands where a proof is to be

-- (get-proof) comes after a check, and then this s-expression
pub record HasProof (input : List ℕ) (state : State) (tokens : List Token) : Type 0 where
  pub left : List ℕ
  pub asks : Asks input state left
  pub after_check : is_after_check state.mode ≡ true
  pub rest : List ℕ
  pub sexpr : IsSExpr tokens
  pub lexes : Lexes left tokens rest

pub data HasNoProof (input : List ℕ) : Type 0 where
  -- a fault or the end comes before (get-proof)
  unasked : (state : State) (left : List ℕ) → Folds (start settings) input state left → IsOver left → HasNoProof input
  -- an exit does
  exits : (state : State) (before left : List ℕ) (tokens : List Token) → Folds (start settings) input state before → IsSExpr tokens → Lexes before tokens left → IsExit tokens → HasNoProof input
  -- there was no check before it, or a command in between gives the mode of the start or of assertions
  unchecked : (state : State) (left : List ℕ) → Asks input state left → is_after_check state.mode ≡ false → HasNoProof input
  -- a fault or the end comes after it
  unproved : (state : State) (left : List ℕ) → Asks input state left → is_after_check state.mode ≡ true → IsOver left → HasNoProof input

-- ---- where more bytes are needed

-- whatever comes first in these bytes, other bytes that follow may change it
abbrev pub IsUnsettled : List ℕ → Type 0
IsUnsettled bytes = (place : ℕ) × ((a : Answer) → IsSettled (record { place = place; bytes = bytes; finished = false }) a → ⊥)

-- all that the input settles is read, whatever bytes follow it, and neither that there is no proof nor what stands in its place is settled
pub data IsOpen (input : List ℕ) : Type 0 where
  before_question : (state : State) (rest : List ℕ) → ((more : List ℕ) → Folds (start settings) (input ++ more) state (rest ++ more)) → IsUnsettled rest → IsOpen input
  before_proof : (state : State) (rest : List ℕ) → ((more : List ℕ) → Asks (input ++ more) state (rest ++ more)) → is_after_check state.mode ≡ true → IsUnsettled rest → IsOpen input
