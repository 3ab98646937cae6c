-- Terms as they are written, for the examples.
use Rattle.std.specs.Prelude.{ℕ, List, [], ◌∷◌, codes}
use Rattle.smt_meaning.specs.declared.tokens.Token.TheVariants.{Numeral, Text, Symbol, Reserved, Keyword}
use Rattle.smt_meaning.specs.declared.tokens.Word.TheVariants.{Exclamation, Let}
use Rattle.smt_meaning.specs.Sexp.{Sexp, Sexps, word, group, end, ◌▸◌}

abbrev pub parts : List Sexp → Sexps
parts [] = end
parts (s ∷ ss) = s ▸ parts ss

-- a list in parentheses
abbrev pub list : List Sexp → Sexp
list ss = group (parts ss)

abbrev pub symbol : List ℕ → Sexp
symbol n = word (Symbol n)

abbrev pub numeral : List ℕ → Sexp
numeral cs = word (Numeral cs)

abbrev pub keyword : List ℕ → Sexp
keyword k = word (Keyword k)

abbrev pub text : List ℕ → Sexp
text cs = word (Text cs)

-- a symbol applied
abbrev pub call : List ℕ → List Sexp → Sexp
call n ss = list (symbol n ∷ ss)

-- a pair of a `let`
abbrev pub binding : List ℕ → Sexp → Sexp
binding n s = list (symbol n ∷ s ∷ [])

abbrev pub letting : List Sexp → Sexp → Sexp
letting bs s = list (word (Reserved Let) ∷ list bs ∷ s ∷ [])

abbrev pub annotated : Sexp → List Sexp → Sexp
annotated s ss = list (word (Reserved Exclamation) ∷ s ∷ ss)

abbrev pub zero : Sexp
zero = numeral (codes "0")

abbrev pub one : Sexp
one = numeral (codes "1")

abbrev pub two : Sexp
two = numeral (codes "2")

abbrev pub three : Sexp
three = numeral (codes "3")

abbrev pub x : Sexp
x = symbol (codes "x")

abbrev pub y : Sexp
y = symbol (codes "y")

abbrev pub z : Sexp
z = symbol (codes "z")

abbrev pub p : Sexp
p = symbol (codes "p")

abbrev pub q : Sexp
q = symbol (codes "q")

abbrev pub a : Sexp
a = symbol (codes "a")

abbrev pub int : Sexp
int = symbol (codes "Int")

abbrev pub bool : Sexp
bool = symbol (codes "Bool")
