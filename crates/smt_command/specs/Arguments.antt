-- The s-expressions that are left to read of a list.
use Rattle.std.specs.Prelude.{ℕ, ◌+◌, ◌-◌, ◌≤◌, List, [], ◌∷◌, drop, length, Bool, true, false, Option, Some, None}
use Rattle.smt_meaning.specs.declared.tokens.Token.{Token}
use Rattle.smt_meaning.specs.declared.tokens.Token.TheVariants.{Enter, Leave, Numeral, Text, Keyword}
use Rattle.smt_meaning.specs.Sexp.{Sexp, Sexps, word, group, end, ◌▸◌, open_lists_of, tokens}
use Rattle.smt_meaning.specs.Command.{symbol}
use Rattle.smt_command.specs.declared.arguments.Arguments.{Arguments}
use Rattle.smt_command.specs.declared.arguments.Kind.{Kind}
use Rattle.smt_command.specs.declared.arguments.Kind.TheVariants as Of

-- the lists that are open at the place, the innermost first
unfoldable pub open_lists : Arguments → List Sexps
open_lists a = open_lists_of (drop a.place a.sexpr.now)

-- a list is open at the place, and not the whole alone
abbrev pub IsInList : Arguments → Type 0
IsInList a = 2 ≤ length (open_lists a)

abbrev pub innermost : List Sexps → Sexps
innermost [] = end
innermost (ss ∷ rest) = ss

-- what is left of the innermost one
unfoldable pub left : Arguments → Sexps
left a = innermost (open_lists_of (drop a.place a.sexpr.now))

abbrev pub is_end : Sexps → Bool
is_end end = true
is_end (s ▸ ss) = false

abbrev pub rest_of : Sexps → Sexps
rest_of end = end
rest_of (s ▸ ss) = ss

-- the first s-expression, read in one way
abbrev pub first_by : {A : Type 0} → (Sexp → Option A) → Sexps → Option A
first_by f end = None
first_by f (s ▸ ss) = f s

-- how many lists are open behind a token, where so many are open before it
abbrev pub depth_behind : Token → ℕ → ℕ
depth_behind Enter d = d + 1
depth_behind Leave d = d - 1
depth_behind _ d = d

-- ---- ways to read an s-expression

abbrev pub token_in : Sexp → Option Token
token_in (word t) = Some t
token_in (group ss) = None

abbrev pub keyword : Sexp → Option (List ℕ)
keyword (word (Keyword k)) = Some k
keyword _ = None

abbrev pub numeral : Sexp → Option (List ℕ)
numeral (word (Numeral cs)) = Some cs
numeral _ = None

abbrev pub text : Sexp → Option (List ℕ)
text (word (Text t)) = Some t
text _ = None

-- the bytes of a token of this kind
abbrev pub bytes_as : Kind → Sexp → Option (List ℕ)
bytes_as Of.Symbol = symbol
bytes_as Of.Keyword = keyword
bytes_as Of.Numeral = numeral
bytes_as Of.Text = text

-- the same of a token, where there is one
abbrev pub bytes_in : Kind → Option Token → Option (List ℕ)
bytes_in k None = None
bytes_in k (Some t) = bytes_as k (word t)

abbrev pub parts : Sexp → Option Sexps
parts (word t) = None
parts (group ss) = Some ss

abbrev pub term : Sexp → Option (List Token)
term s = Some (tokens s)
