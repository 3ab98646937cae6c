-- Which assertions a core consists of, and why each of them stays (SMT-LIB 2.6, section 4.2.7).
use Rattle.std.specs.Prelude.{◌≡◌, ℕ, ◌+◌, ℤ, List, [], ◌∷◌, map, flat_map, filter, length, slice_index_or, All, Option, Some, None, bytes_eq, codes, if◌then◌else◌}
use Rattle.std.specs.List.{range_with_len}
use Rattle.smt_meaning.specs.declared.tokens.Token.{Token}
use Rattle.smt_meaning.specs.declared.tokens.Token.TheVariants.{Symbol, Reserved, Keyword}
use Rattle.smt_meaning.specs.declared.tokens.Word.TheVariants.{Exclamation}
use Rattle.smt_meaning.specs.declared.replies.Reason.{Reason}
use Rattle.smt_meaning.specs.declared.replies.Reason.TheVariants.{Model, Reports}
use Rattle.smt_meaning.specs.declared.replies.Held.{Held}
use Rattle.smt_meaning.specs.declared.answers.Reply.{Reply}
use Rattle.smt_meaning.specs.declared.answers.Reply.TheVariants.{UnsatCore, UnsatAssumptions}
use Rattle.smt_meaning.specs.Term.{Tree}
use Rattle.smt_meaning.specs.Sexp.{Sexp, Sexps, word, group, end, ◌▸◌, sexp}
use Rattle.smt_meaning.specs.Signature.{is_some}
use Rattle.smt_meaning.specs.Stack.{Frame, HasNoModel, assertions_of}
use Rattle.smt_meaning.specs.Sorts.{with_all}
use Rattle.smt_meaning.specs.Report.{AreReports}
use Rattle.smt_meaning.specs.State.{State, Candidates, named, assumed, checked_frames, texts_of}
use Rattle.smt_meaning.specs.Model.{IsModel}
use Rattle.smt_meaning.specs.Keeping.{keeping, is_in, core_keeps, trial_keeps}

-- ---- the trials

-- the levels have this model, or each worker shows why it found none
abbrev pub IsReason : ℕ → List Tree → List Frame → ℤ → Reason → Type 0
IsReason workers ts frames limit (Model i) = IsModel frames i
IsReason workers ts frames limit (Reports rs) = AreReports workers ts frames limit rs

abbrev pub places : List Held → List ℕ
places hs = map (λ (h : Held). h.place) hs

-- Of the candidates, by their places, these are held, in their order: with them alone the levels have no model, and each has a reason of the levels without it and without
-- the candidates before it that aren't held.
pub record IsReduced (workers : ℕ) (ts : List Tree) (frames : List Frame) (limit : ℤ) (candidates : List ℕ) (hs : List Held) : Type 0 where
  pub listed : filter (is_in (places hs)) candidates ≡ places hs
  pub enough : HasNoModel (keeping (core_keeps candidates (places hs)) frames)
  pub reasons : All (λ (h : Held). IsReason workers ts (keeping (trial_keeps candidates (places hs) h.place) frames) limit h.why) hs

-- ---- names of assertions

-- the name that the first `:named` among these attributes gives
abbrev pub first_named : Sexps → Option (List ℕ)
first_named (word (Keyword k) ▸ word (Symbol n) ▸ rest) = if bytes_eq k (codes "named") then Some n else first_named rest
first_named (s ▸ rest) = first_named rest
first_named end = None

abbrev pub or_else : Option (List ℕ) → Option (List ℕ) → Option (List ℕ)
or_else (Some n) other = Some n
or_else None other = other

-- the first name that is given to the whole of a term, the innermost first
abbrev pub name_of : Sexp → Option (List ℕ)
name_of (group (word (Reserved Exclamation) ▸ t ▸ rest)) = or_else (name_of t) (first_named rest)
name_of _ = None

abbrev pub name_or_none : Option (List ℕ) → List ℕ
name_or_none (Some n) = n
name_or_none None = []

-- the places of those that have a name, where the first has this place
abbrev pub named_places : ℕ → List (List Token) → List ℕ
named_places k [] = []
named_places k (t ∷ ts) = if is_some (name_of (sexp t)) then k ∷ named_places (k + 1) ts else named_places (k + 1) ts

-- ---- the cores of a check

abbrev pub stack_texts : State → List (List Token)
stack_texts s = flat_map texts_of s.stack.frames

abbrev pub checked_texts : State → List (List Token)
checked_texts s = flat_map texts_of (checked_frames s)

-- the terms that reports of the check speak of: those of what stands above the stack come last
abbrev pub checked_trees : State → List Tree
checked_trees s = with_all s.stack.trees (assertions_of s.above)

-- the places of the candidates among the assertions of the check
abbrev pub places_of : Candidates → State → List ℕ
places_of named s = named_places 0 (stack_texts s)
places_of assumed s = range_with_len (length (stack_texts s)) (length (flat_map texts_of s.above))

abbrev pub text_at : List (List Token) → ℕ → List Token
text_at ts k = slice_index_or ts k []

-- names, or the assumptions themselves
abbrev pub core_reply : Candidates → State → List Held → Reply
core_reply named s hs = UnsatCore (map (λ (h : Held). name_or_none (name_of (sexp (text_at (checked_texts s) h.place)))) hs)
core_reply assumed s hs = UnsatAssumptions (map (λ (h : Held). text_at (checked_texts s) h.place) hs)

-- these candidates are held
abbrev pub IsCore : Candidates → State → List Held → Type 0
IsCore among s hs = IsReduced s.settings.workers (checked_trees s) (checked_frames s) s.options.reproducible_resource_limit (places_of among s) hs
