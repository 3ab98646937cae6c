-- Scripts as they are written, and the bytes that answer them, for the examples.
use Prim.Native.String.{String}
use Rattle.std.specs.Prelude.{ℕ, ℤ, pos, List, [], ◌∷◌, ◌++◌, Result, Ok, Err, bytes_eq, codes, if◌then◌else◌}
use Rattle.smt_meaning.specs.declared.tokens.Token.{Token}
use Rattle.smt_meaning.specs.declared.values.Table.{Table}
use Rattle.smt_meaning.specs.declared.settings.Settings.{Settings}
use Rattle.smt_meaning.specs.declared.errors.Error.{Error}
use Rattle.smt_meaning.specs.declared.commands.Command.{Command}
use Rattle.smt_meaning.specs.declared.answers.Mode.TheVariants as In
use Rattle.smt_meaning.specs.declared.answers.Reply.{Reply}
use Rattle.smt_meaning.specs.declared.answers.Reply.TheVariants as Given
use Rattle.smt_meaning.specs.declared.reports.Report.{Report}
use Rattle.smt_meaning.specs.declared.replies.Held.{Held}
use Rattle.smt_meaning.specs.Reading.{Lexeme, token, lexeme}
use Rattle.smt_meaning.specs.Sexp.{Sexps, end, ◌▸◌, open_lists_of}
use Rattle.smt_meaning.specs.Command.{command}
use Rattle.smt_meaning.specs.State.{State, Candidates, Effect, denied, left_out, accepted, answered, checked, minimizes, reduces, effect, start}
use Rattle.smt_meaning.specs.Core.{core_reply}
use Rattle.smt_meaning.specs.Report.{reason_of}
use Rattle.smt_meaning.specs.MayReply.{success}
use Rattle.smt_meaning.specs.Text.{text}

abbrev pub cons_token : Lexeme → List Token → List Token
cons_token (token from t rest) ts = t ∷ ts
cons_token _ ts = []

abbrev pub after_token : Lexeme → List ℕ
after_token (token from t rest) = rest
after_token _ = []

-- the tokens of bytes, no more of them than a list is long
abbrev pub tokens_within : List ℕ → List ℕ → List Token
tokens_within [] bytes = []
tokens_within (b ∷ bs) bytes = cons_token (lexeme bytes) (tokens_within bs (after_token (lexeme bytes)))

abbrev pub first_list : List Sexps → Sexps
first_list [] = end
first_list (ss ∷ rest) = ss

-- the s-expressions of a script
abbrev pub script : List ℕ → Sexps
script bytes = first_list (open_lists_of (tokens_within bytes bytes))

-- what a check found
pub data Found : Type 0 where
  a_model : (i : List Table) → Found
  no_model : Found
  no_answer : (rs : List Report) → Found
  a_minimum : (v : ℤ) (i : List Table) → Found
  a_core : (held : List Held) → Found

-- the state that a script has come to, what its next checks find, and the bytes of the replies so far
pub record Run : Type 0 where
  pub state : State
  pub found : List Found
  pub written : List ℕ

abbrev pub effect_of : State → Result Command Error → Effect
effect_of s (Ok c) = effect s c
effect_of s (Err e) = denied e

abbrev pub says : Run → Reply → State → Run
says r reply s = record r { state = s; written = r.written ++ text reply }

abbrev pub decides : Run → State → List Found → Run
decides r s (a_minimum v i ∷ rest) = r
decides r s (a_core hs ∷ rest) = r
decides r s [] = r
decides r s (a_model i ∷ rest) = record { state = record s { mode = In.Sat i }; found = rest; written = r.written ++ text Given.Sat }
decides r s (no_answer rs ∷ rest) = record { state = record s { mode = In.Unknown (reason_of rs) }; found = rest; written = r.written ++ text Given.Unknown }
decides r s (no_model ∷ rest) = record { state = record s { mode = In.Unsat }; found = rest; written = r.written ++ text Given.Unsat }

abbrev pub minimum_of : Run → State → List Found → Run
minimum_of r s (a_minimum v i ∷ rest) = record { state = record s { mode = In.Sat i }; found = rest; written = r.written ++ text (Given.Minimum v) }
minimum_of r s found = decides r s found

abbrev pub core_of : Run → Candidates → List Found → Run
core_of r among (a_core hs ∷ rest) = record { state = r.state; found = rest; written = r.written ++ text (core_reply among r.state hs) }
core_of r among found = r

abbrev pub comes : Run → Effect → Run
comes r (denied e) = says r (Given.Error e) r.state
comes r left_out = says r Given.Unsupported r.state
comes r (accepted s) = says r (success s) s
comes r (answered reply s) = says r reply s
comes r (checked s) = decides r s r.found
comes r (minimizes text t s) = minimum_of r s r.found
comes r (reduces among) = core_of r among r.found

abbrev pub runs : Run → Sexps → Run
runs r end = r
runs r (x ▸ xs) = runs (comes r (effect_of r.state (command x))) xs

abbrev pub settings : Settings
settings = record { workers = 4; units = pos 0; share = 8; seed = 0 }

-- the bytes that answer a script, whose checks find this
abbrev pub replies : List Found → List ℕ → List ℕ
replies found bytes = (runs (record { state = start settings; found = found; written = [] }) (script bytes)).written

-- a script whose checks find this, and the bytes that answer it
pub record Answered : Type 0 where
  pub found : List Found
  pub asked : List ℕ
  pub answer : List ℕ

abbrev pub with_answer : Answered → List (List ℕ) → List (List ℕ)
with_answer a rest = if bytes_eq (replies a.found a.asked) a.answer then rest else replies a.found a.asked ∷ rest

-- the replies that are others than those expected
abbrev pub wrong_replies : List Answered → List (List ℕ)
wrong_replies [] = []
wrong_replies (a ∷ rest) = with_answer a (wrong_replies rest)

-- a script and its replies, without a check and with checks
abbrev pub says_so : String → String → Answered
says_so asked answer = record { found = []; asked = codes asked; answer = codes answer }

abbrev pub finds : List Found → String → String → Answered
finds found asked answer = record { found = found; asked = codes asked; answer = codes answer }

-- without the replies of success
abbrev pub quiet : String → String → Answered
quiet asked answer = record { found = []; asked = codes "(set-option :print-success false)" ++ codes asked; answer = codes answer }

abbrev pub quiet_finds : List Found → String → String → Answered
quiet_finds found asked answer = record { found = found; asked = codes "(set-option :print-success false)(set-option :produce-models true)" ++ codes asked; answer = codes answer }
