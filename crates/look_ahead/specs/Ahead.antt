-- What is ahead of a place among the tokens of a term.
use Rattle.std.specs.Prelude.{◌≡◌, ℕ, ◌+◌, ◌<◌, ◌≤◌, Bool, true, false, List, ◌∷◌, drop, length, slice_index, Option, Some, None}
use Rattle.smt_meaning.specs.declared.tokens.Token.{Token}
use Rattle.smt_meaning.specs.declared.tokens.Token.TheVariants.{Enter}
use Rattle.smt_meaning.specs.declared.refusals.Refusal.TheVariants.{WrongArguments}
use Rattle.smt_meaning.specs.Sexp.{Sexp, Sexps, word, group, end, ◌▸◌, open_lists_of}
use Rattle.smt_meaning.specs.Seen.{seen}
use Rattle.smt_meaning.specs.Sorts.{Scope, Outcome, done, refused, are_attributes_from}
use Rattle.smt_laws.specs.Walk.{first_list, check_let}
use Rattle.look_ahead.specs.declared.parts.Part.{Part}
use Rattle.look_ahead.specs.declared.parts.Part.TheVariants.{End, Word, List as ListUpTo}
use Rattle.look_ahead.specs.declared.parts.Attributes.{Attributes}
use Rattle.look_ahead.specs.declared.parts.Attributes.TheVariants.{Read, Before}
use Rattle.look_ahead.specs.declared.LookError.{LookError}
use Rattle.look_ahead.specs.declared.LookError.TheVariants.{Refused, Memory}

-- what is left of the innermost list that is open at a place
abbrev pub ahead : List Token → ℕ → Sexps
ahead ts i = first_list (open_lists_of (drop i ts))

-- the list that begins at a place ends at another
pub record IsList (ts : List Token) (i close : ℕ) : Type 0 where
  pub order : i < close
  pub within : close < length ts
  pub is : ahead ts i ≡ group (ahead ts (i + 1)) ▸ ahead ts (close + 1)

-- some list is open wherever one stands
abbrev pub IsInside : List Token → ℕ → Type 0
IsInside ts i = (inner : Sexps) × (outer : List Sexps) × (open_lists_of (drop i ts) ≡ inner ∷ outer)

-- for each `(` where its list ends
pub record AreEnds (ts : List Token) (ends : List ℕ) : Type 0 where
  pub count : length ends ≡ length ts
  pub inside : (i : ℕ) → IsInside ts i
  pub lists : (i : ℕ) (rest : List Token) → drop i ts ≡ Enter ∷ rest → IsList ts i (slice_index ends i)

-- what stands at a place
abbrev pub IsPart : List Token → ℕ → Part → Type 0
IsPart ts i End = ahead ts i ≡ end
IsPart ts i (Word t) = (i < length ts) × (ahead ts i ≡ word (seen t) ▸ ahead ts (i + 1))
IsPart ts i (ListUpTo close) = IsList ts i close

-- the place after an s-expression, where one stands
pub record IsNext (ts : List Token) (i j : ℕ) : Type 0 where
  pub order : i < j
  pub within : j ≤ length ts
  pub part : Sexp
  pub is : ahead ts i ≡ part ▸ ahead ts j

abbrev pub Skips : List Token → ℕ → Option ℕ → Type 0
Skips ts i None = ahead ts i ≡ end
Skips ts i (Some j) = IsNext ts i j

-- ---- answers

abbrev pub checked : Bool → Scope → Outcome (Unit {0})
checked true s = done tt s
checked false s = refused WrongArguments

-- why the form of a `let` is refused
abbrev pub IsWhyNoLet : Sexps → LookError → Type 0
IsWhyNoLet l (Refused why) = (s : Scope) → check_let l s ≡ refused why
IsWhyNoLet l Memory = Unit {0}

-- ---- attributes

abbrev pub GoesOn : List Token → Bool → ℕ → Attributes → Type 0
GoesOn ts may i (Read right) = are_attributes_from may (ahead ts i) ≡ right
GoesOn ts may i (Before m j) = ((i < j) × (j ≤ length ts)) × (are_attributes_from may (ahead ts i) ≡ are_attributes_from m (ahead ts j))
