-- A list of tokens whose bytes stand one after another: the kind of each, and where its bytes end.
use Rattle.std.specs.Prelude.{◌≡◌, ◌≤◌, ℕ, zero, suc, List, [], ◌∷◌, slice_range, slice_index_or}
use Rattle.smt_meaning.specs.declared.tokens.Token.{Token}
use Rattle.smt_meaning.specs.declared.tokens.Token.TheVariants.{Enter, Leave, Numeral, Decimal, Hex, Binary, Text, Symbol, Reserved, Keyword}
use Rattle.smt_meaning.specs.declared.kinds.Kind.{Kind}
use Rattle.smt_meaning.specs.declared.kinds.Kind.TheVariants.{Enter as IsEnter, Leave as IsLeave, Numeral as IsNumeral, Decimal as IsDecimal, Hex as IsHex, Binary as IsBinary, Text as IsText, Symbol as IsSymbol, Reserved as IsReserved, Keyword as IsKeyword}

-- the token of this kind that has these bytes
abbrev pub token_of : Kind → List ℕ → Token
token_of IsEnter bytes = Enter
token_of IsLeave bytes = Leave
token_of IsNumeral bytes = Numeral bytes
token_of IsDecimal bytes = Decimal bytes
token_of IsHex bytes = Hex bytes
token_of IsBinary bytes = Binary bytes
token_of IsText bytes = Text bytes
token_of IsSymbol bytes = Symbol bytes
token_of (IsReserved word) bytes = Reserved word
token_of IsKeyword bytes = Keyword bytes

-- the tokens of which the first begins at this place in the bytes
abbrev pub tokens_from : ℕ → List Kind → List ℕ → List ℕ → List Token
tokens_from start [] ends bytes = []
tokens_from start (k ∷ ks) [] bytes = []
tokens_from start (k ∷ ks) (e ∷ es) bytes = token_of k (slice_range bytes start e) ∷ tokens_from e ks es bytes

-- the token at this place begins here
abbrev pub start_from : ℕ → List ℕ → ℕ → ℕ
start_from start ends zero = start
start_from start ends (suc place) = slice_index_or ends place 0

-- there are as many ends as kinds; each is at least the one before, and the last is the end of all
abbrev pub AreEnds : ℕ → List Kind → List ℕ → ℕ → Type 0
AreEnds start [] [] end = start ≡ end
AreEnds start [] (e ∷ es) end = ⊥
AreEnds start (k ∷ ks) [] end = ⊥
AreEnds start (k ∷ ks) (e ∷ es) end = (start ≤ e) × AreEnds e ks es end
