-- Which replies have a text that never varies, and the text of an error.
use Rattle.std.specs.Prelude.{⊤, ℕ, ℤ, List, [], ◌∷◌, codes}
use Rattle.smt_meaning.specs.declared.answers.Reply.{Reply}
use Rattle.smt_meaning.specs.declared.answers.Reply.TheVariants.{Success, Silent, Unsupported, Sat, Unsat, Unknown, Echo, Option, Info, Values, Model, Assertions, Assignment, UnsatCore, UnsatAssumptions, Minimum, Error as Failed}
use Rattle.smt_meaning.specs.declared.errors.Error.{Error}
use Rattle.smt_meaning.specs.Text.{listed, literal, error_text, integer_text}

-- Its text is always the same.
abbrev pub HasFixedText : Reply → Type 0
HasFixedText Success = ⊤
HasFixedText Silent = ⊤
HasFixedText Unsupported = ⊤
HasFixedText Sat = ⊤
HasFixedText Unsat = ⊤
HasFixedText Unknown = ⊤
HasFixedText (Echo text) = ⊥
HasFixedText (Option value) = ⊥
HasFixedText (Info info) = ⊥
HasFixedText (Values values) = ⊥
HasFixedText (Model functions) = ⊥
HasFixedText (Assertions terms) = ⊥
HasFixedText (Assignment truths) = ⊥
HasFixedText (UnsatCore names) = ⊥
HasFixedText (UnsatAssumptions terms) = ⊥
HasFixedText (Minimum value) = ⊥
HasFixedText (Failed error) = ⊥

-- (error "..")
abbrev pub error_reply_text : Error → List ℕ
error_reply_text e = listed (codes "error" ∷ literal (error_text e) ∷ [])

-- (minimum n)
abbrev pub minimum_text : ℤ → List ℕ
minimum_text n = listed (codes "minimum" ∷ integer_text n ∷ [])
