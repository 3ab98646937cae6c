-- How bytes read as s-expressions.
use Rattle.std.specs.Prelude.{◌≡◌, ℕ, ◌+◌, ◌<◌, Bool, true, false, ◌||◌, ◌&&◌, ◌==◌, nat_le, not, ◌-◌, ◌⊎◌, List, [], ◌∷◌, ◌++◌, length, drop, map, ⊤, Option, Some, None, codes, if◌then◌else◌}
use Rattle.std.specs.List.{take_while, prefix_len, list_all}
use Rattle.std.specs.Str.{bytes_eq}
use Rattle.smt_meaning.specs.declared.tokens.Token.{Token}
use Rattle.smt_meaning.specs.declared.tokens.Token.TheVariants.{Enter, Leave, Numeral, Decimal, Hex, Binary, Text, Symbol, Reserved, Keyword}
use Rattle.smt_meaning.specs.declared.tokens.Word.{Word}
use Rattle.smt_meaning.specs.declared.tokens.Word.TheVariants.{Exclamation, Underscore, As, Let, Exists, Forall, Match, Par}
use Rattle.smt_meaning.specs.declared.tokens.FaultKind.{FaultKind}
use Rattle.smt_meaning.specs.declared.tokens.FaultKind.TheVariants.{Character, Closing, Unfinished, Nesting}

-- Bytes

-- tab, line feed, carriage return, space
abbrev pub is_blank : ℕ → Bool
is_blank b = (b == 9) || (b == 10) || (b == 13) || (b == 32)

abbrev pub is_digit : ℕ → Bool
is_digit b = nat_le 48 b && nat_le b 57

abbrev pub is_letter : ℕ → Bool
is_letter b = (nat_le 65 b && nat_le b 90) || (nat_le 97 b && nat_le b 122)

-- ~ ! @ $ % ^ & * _ - + = < > . ? /
abbrev pub is_sign : ℕ → Bool
is_sign b = (b == 126) || (b == 33) || (b == 64) || (b == 36) || (b == 37) || (b == 94) || (b == 38) || (b == 42) || (b == 95) || (b == 45) || (b == 43) || (b == 61) || (b == 60) || (b == 62) || (b == 46) || (b == 63) || (b == 47)

-- letters, digits and signs
unfoldable pub is_symbol_byte : ℕ → Bool
is_symbol_byte b = is_letter b || is_digit b || is_sign b

-- the same, : and #
unfoldable pub is_word_byte : ℕ → Bool
is_word_byte b = is_symbol_byte b || (b == 58) || (b == 35)

abbrev pub is_hex_digit : ℕ → Bool
is_hex_digit b = is_digit b || (nat_le 65 b && nat_le b 70) || (nat_le 97 b && nat_le b 102)

abbrev pub is_binary_digit : ℕ → Bool
is_binary_digit b = (b == 48) || (b == 49)

-- blanks, 32 to 126, and 128 on
unfoldable pub is_printable : ℕ → Bool
is_printable b = is_blank b || (nat_le 32 b && nat_le b 126) || nat_le 128 b

-- Words

-- one or more bytes of a kind
abbrev pub some_of : (ℕ → Bool) → List ℕ → Bool
some_of is [] = false
some_of is (b ∷ bs) = is b && list_all is bs

-- 0, or digits of which the first isn't 0
abbrev pub is_numeral : List ℕ → Bool
is_numeral [] = false
is_numeral (b ∷ bs) = if b == 48 then (length bs == 0) else (is_digit b && list_all is_digit bs)

-- a point and one or more digits
abbrev pub is_fraction : List ℕ → Bool
is_fraction [] = false
is_fraction (b ∷ bs) = (b == 46) && some_of is_digit bs

-- a numeral and a fraction
abbrev pub is_decimal : List ℕ → Bool
is_decimal w = is_numeral (take_while is_digit w) && is_fraction (drop (prefix_len is_digit w) w)

-- # and a letter, and then one or more digits
abbrev pub is_based : ℕ → (ℕ → Bool) → List ℕ → Bool
is_based letter is [] = false
is_based letter is (b ∷ []) = false
is_based letter is (b ∷ c ∷ bs) = (b == 35) && (c == letter) && some_of is bs

-- : and one or more symbol bytes
abbrev pub is_keyword : List ℕ → Bool
is_keyword [] = false
is_keyword (b ∷ bs) = (b == 58) && some_of is_symbol_byte bs

-- symbol bytes of which the first is no digit
abbrev pub is_simple_symbol : List ℕ → Bool
is_simple_symbol [] = false
is_simple_symbol (b ∷ bs) = not (is_digit b) && some_of is_symbol_byte (b ∷ bs)

abbrev pub spelling : Word → List ℕ
spelling Exclamation = codes "!"
spelling Underscore = codes "_"
spelling As = codes "as"
spelling Let = codes "let"
spelling Exists = codes "exists"
spelling Forall = codes "forall"
spelling Match = codes "match"
spelling Par = codes "par"

-- the first of these words that is spelled so
abbrev pub spelled_in : List Word → List ℕ → Option Word
spelled_in [] w = None
spelled_in (r ∷ rs) w = if bytes_eq w (spelling r) then Some r else spelled_in rs w

abbrev pub reserved_word : List ℕ → Option Word
reserved_word w = spelled_in (Exclamation ∷ Underscore ∷ As ∷ Let ∷ Exists ∷ Forall ∷ Match ∷ Par ∷ []) w

-- a reserved word or a symbol
abbrev pub symbol_token : Option Word → List ℕ → Token
symbol_token (Some r) w = Reserved r
symbol_token None w = Symbol w

-- The token that a word is, where it has the form of one.
unfoldable pub word_token : List ℕ → Option Token
word_token w =
    if is_numeral w then Some (Numeral w)
    else if is_decimal w then Some (Decimal w)
    else if is_based 120 is_hex_digit w then Some (Hex w)
    else if is_based 98 is_binary_digit w then Some (Binary w)
    else if is_keyword w then Some (Keyword (drop 1 w))
    else if is_simple_symbol w then Some (symbol_token (reserved_word w) w)
    else None

-- Texts and quoted symbols

-- What stands behind the mark that opens a text or a quoted symbol: its bytes and then the bytes after it; or a byte that may not stand in it, from this byte on; or it isn't closed.
pub data Quotation : Type 0 where
  closed : List ℕ → List ℕ → Quotation
  broken : List ℕ → Quotation
  unclosed : Quotation

abbrev pub with_byte : ℕ → Quotation → Quotation
with_byte b (closed content after) = closed (b ∷ content) after
with_byte b (broken from) = broken from
with_byte b unclosed = unclosed

unfoldable mutual
  -- In a text the mark " ends it, and two of them stand for one.
  pub text_rest : List ℕ → Quotation
  text_rest [] = unclosed
  text_rest (b ∷ bs) =
      if b == 34 then mark_rest bs
      else if is_printable b then with_byte b (text_rest bs)
      else broken (b ∷ bs)

  -- behind a mark " in a text
  pub mark_rest : List ℕ → Quotation
  mark_rest [] = closed [] []
  mark_rest (b ∷ bs) = if b == 34 then with_byte 34 (text_rest bs) else closed [] (b ∷ bs)

-- In a quoted symbol the mark | ends it, and there is no backslash.
unfoldable pub quoted_rest : List ℕ → Quotation
quoted_rest [] = unclosed
quoted_rest (b ∷ bs) =
    if b == 124 then closed [] bs
    else if is_printable b && not (b == 92) then with_byte b (quoted_rest bs)
    else broken (b ∷ bs)

-- Tokens

-- What stands first in bytes, behind blanks and comments: a token, from these bytes on, with the bytes after it; or a byte that can't stand there, from these bytes on; or a text or quoted symbol that isn't closed, from these bytes on; or nothing.
pub data Lexeme : Type 0 where
  token : List ℕ → Token → List ℕ → Lexeme
  wrong : List ℕ → Lexeme
  unended : List ℕ → Lexeme
  nothing : Lexeme

abbrev pub text_lexeme : List ℕ → Quotation → Lexeme
text_lexeme start (closed content after) = token start (Text content) after
text_lexeme start (broken from) = wrong from
text_lexeme start unclosed = unended start

abbrev pub quoted_lexeme : List ℕ → Quotation → Lexeme
quoted_lexeme start (closed content after) = token start (Symbol content) after
quoted_lexeme start (broken from) = wrong from
quoted_lexeme start unclosed = unended start

abbrev pub word_lexeme : List ℕ → Option Token → List ℕ → Lexeme
word_lexeme start (Some t) after = token start t after
word_lexeme start None after = wrong start

unfoldable mutual
  -- A word is as long as it can be.
  pub lexeme : List ℕ → Lexeme
  lexeme [] = nothing
  lexeme (b ∷ bs) =
      if is_blank b then lexeme bs
      else if b == 59 then comment_rest bs
      else if b == 40 then token (b ∷ bs) Enter bs
      else if b == 41 then token (b ∷ bs) Leave bs
      else if b == 34 then text_lexeme (b ∷ bs) (text_rest bs)
      else if b == 124 then quoted_lexeme (b ∷ bs) (quoted_rest bs)
      else if is_word_byte b then word_lexeme (b ∷ bs) (word_token (take_while is_word_byte (b ∷ bs))) (drop (prefix_len is_word_byte (b ∷ bs)) (b ∷ bs))
      else wrong (b ∷ bs)

  -- A comment goes to a line feed or a carriage return, or to the end.
  pub comment_rest : List ℕ → Lexeme
  comment_rest [] = nothing
  comment_rest (b ∷ bs) = if (b == 10) || (b == 13) then lexeme bs else comment_rest bs

-- The bytes are these tokens, and then the rest.
abbrev pub Lexes : List ℕ → List Token → List ℕ → Type 0
Lexes bytes [] rest = bytes ≡ rest
Lexes bytes (t ∷ ts) rest = (start : List ℕ) × (after : List ℕ) × (lexeme bytes ≡ token start t after) × Lexes after ts rest

-- S-expressions

-- What a token does to the lists that are open: it opens one, closes one, or does neither.
pub data Shape : Type 0 where
  opening : Shape
  closing : Shape
  single : Shape

abbrev pub shape : Token → Shape
shape Enter = opening
shape Leave = closing
shape (Numeral digits) = single
shape (Decimal digits) = single
shape (Hex digits) = single
shape (Binary digits) = single
shape (Text bytes) = single
shape (Symbol name) = single
shape (Reserved word) = single
shape (Keyword name) = single

abbrev pub shapes : List Token → List Shape
shapes ts = map shape ts

-- The most lists that are open at a time.
abbrev pub most_open : ℕ
most_open = 10000

-- Inside m open lists the shapes come to n open lists, and never close them all on the way, nor open too many.
abbrev pub Opens : ℕ → List Shape → ℕ → Type 0
Opens m [] n = m ≡ n
Opens m (opening ∷ ss) n = (m < most_open) × Opens (m + 1) ss n
Opens m (closing ∷ ss) n = (1 < m) × Opens (m - 1) ss n
Opens m (single ∷ ss) n = (0 < m) × Opens m ss n

-- The last shape of an s-expression, inside n lists.
abbrev pub Completes : ℕ → Shape → Type 0
Completes n opening = ⊥
Completes n closing = n ≡ 1
Completes n single = n ≡ 0

-- A token that is no parenthesis, or a list in parentheses.
abbrev pub IsSExpr : List Token → Type 0
IsSExpr tokens = (front : List Shape) × (n : ℕ) × (last : Shape) × (shapes tokens ≡ front ++ last ∷ []) × Opens 0 front n × Completes n last

-- Inside a list the tokens are an s-expression too.
abbrev pub IsInner : List Token → Type 0
IsInner tokens = IsSExpr (Enter ∷ (tokens ++ Leave ∷ []))

-- Reading

-- What comes first in an input: an s-expression, a fault at a place, or its end.
pub data Answer : Type 0 where
  ready : List Token → Answer
  fault : FaultKind → ℕ → Answer
  end : Answer

-- Before any s-expression ends, a byte or word that is no part of a token is at the front of from.
pub record HasCharacter (bytes from : List ℕ) : Type 0 where
  pub read : List Token
  pub depth : ℕ
  pub rest : List ℕ
  pub opens : Opens 0 (shapes read) depth
  pub lexes : Lexes bytes read rest
  pub is_wrong : lexeme rest ≡ wrong from

-- The first token is a closing parenthesis, at the front of from.
pub record HasClosing (bytes from : List ℕ) : Type 0 where
  pub after : List ℕ
  pub leave : lexeme bytes ≡ token from Leave after

-- Before any s-expression ends, a parenthesis opens one list too many, at the front of from.
pub record HasNesting (bytes from : List ℕ) : Type 0 where
  pub read : List Token
  pub rest : List ℕ
  pub after : List ℕ
  pub opens : Opens 0 (shapes read) most_open
  pub lexes : Lexes bytes read rest
  pub enter : lexeme rest ≡ token from Enter after

-- Nothing whole is left.
abbrev pub IsCut : Lexeme → Type 0
IsCut (token start t after) = ⊥
IsCut (wrong from) = ⊥
IsCut (unended start) = ⊤
IsCut nothing = ⊤

-- The bytes end inside a list that begins at the front of from.
pub record HasOpenList (bytes from : List ℕ) : Type 0 where
  pub first : Token
  pub after : List ℕ
  pub begins : lexeme bytes ≡ token from first after
  pub read : List Token
  pub depth : ℕ
  pub rest : List ℕ
  pub opens : Opens 0 (shapes (first ∷ read)) depth
  pub lexes : Lexes after read rest
  pub is_cut : IsCut (lexeme rest)

-- The bytes end inside an s-expression that begins at the front of from: a list, a text or a quoted symbol.
abbrev pub HasUnfinished : List ℕ → List ℕ → Type 0
HasUnfinished bytes from = HasOpenList bytes from ⊎ (lexeme bytes ≡ unended from)

-- The first fault in bytes, before any s-expression ends, stands at the front of from.
abbrev pub HasFault : FaultKind → List ℕ → List ℕ → Type 0
HasFault Character bytes from = HasCharacter bytes from
HasFault Closing bytes from = HasClosing bytes from
HasFault Unfinished bytes from = HasUnfinished bytes from
HasFault Nesting bytes from = HasNesting bytes from

-- This comes first in the bytes to the end of the input, of which the first stands at this place.
abbrev pub First : ℕ → List ℕ → Answer → Type 0
First place bytes (ready ts) = IsSExpr ts × (rest : List ℕ) × Lexes bytes ts rest
First place bytes (fault kind at) = (from : List ℕ) × HasFault kind bytes from × (at + length from ≡ place + length bytes)
First place bytes end = lexeme bytes ≡ nothing

-- What a reader knows of its input: the place of the first byte that it hasn't read, the bytes from there on, and whether they are all.
pub record Unread : Type 0 where
  pub place : ℕ
  pub bytes : List ℕ
  pub finished : Bool

-- These bytes may still follow.
abbrev pub MayFollow : Bool → List ℕ → Type 0
MayFollow true more = more ≡ []
MayFollow false more = ⊤

-- The answer is the same whatever bytes follow.
abbrev pub IsSettled : Unread → Answer → Type 0
IsSettled u answer = (more : List ℕ) → MayFollow u.finished more → First u.place (u.bytes ++ more) answer

-- The s-expression is taken from the front, whatever bytes follow.
pub record Takes (old : Unread) (tokens : List Token) (new : Unread) : Type 0 where
  pub lexes : (more : List ℕ) → MayFollow old.finished more → Lexes (old.bytes ++ more) tokens (new.bytes ++ more)
  pub place : new.place + length new.bytes ≡ old.place + length old.bytes
  pub finished : new.finished ≡ old.finished
  pub some : length new.bytes < length old.bytes
