-- What the bytes of a token that were read so far, and the bytes after them, come to.
use Rattle.std.specs.Prelude.{◌≡◌, ◌≤◌, ℕ, List, [], ◌∷◌, ◌++◌, length, take, drop, Option, Some, None, ⊤}
use Rattle.std.specs.List.{take_while, prefix_len}
use Rattle.smt_meaning.specs.Reading.{Lexeme, token, wrong, unended, nothing, lexeme, comment_rest, word_lexeme, word_token, is_word_byte, Quotation, closed, broken, unclosed, text_lexeme, quoted_lexeme, text_rest, mark_rest, quoted_rest, symbol_token, reserved_word}
use Rattle.smt_meaning.specs.declared.tokens.Token.{Token}
use Rattle.smt_meaning.specs.declared.tokens.Token.TheVariants.{Enter, Leave, Numeral, Decimal, Hex, Binary, Text, Symbol, Keyword}
use Rattle.smt_reader.specs.declared.form.Form.{Form}
use Rattle.smt_reader.specs.declared.form.Form.TheVariants.{Simple, Zero, Digits, Point, Places, Hash, HexMark, HexDigits, BinaryMark, BinaryDigits, Colon, Named}
use Rattle.smt_reader.specs.Forms.{IsForm}
use Rattle.smt_reader.specs.declared.part.Part.{Part}
use Rattle.smt_reader.specs.declared.part.Part.TheVariants.{Blank, Comment, Word, Text as InText, Mark, Quoted}
use Rattle.smt_reader.specs.declared.part.Turn.{Turn}
use Rattle.smt_reader.specs.declared.part.Turn.TheVariants.{Enters, Leaves, Begins, Adds, Ends, Closes, Wrong, Malformed}
use Rattle.smt_reader.specs.declared.part.Step.{Step}
use Rattle.smt_reader.specs.declared.part.Step.TheVariants.{Stays, Turns as Takes}
use Rattle.smt_reader.specs.declared.part.Ending.{Ending}
use Rattle.smt_reader.specs.declared.part.Ending.TheVariants.{Bare, Whole, Halted, Formless}

-- The token that a word of this form is, where it is one.
abbrev pub form_token : Form → List ℕ → Option Token
form_token Simple w = Some (symbol_token (reserved_word w) w)
form_token Zero w = Some (Numeral w)
form_token Digits w = Some (Numeral w)
form_token Point w = None
form_token Places w = Some (Decimal w)
form_token Hash w = None
form_token HexMark w = None
form_token HexDigits w = Some (Hex w)
form_token BinaryMark w = None
form_token BinaryDigits w = Some (Binary w)
form_token Colon w = None
form_token Named w = Some (Keyword (drop 1 w))

-- The token that these bytes are where it ends in this part. In texts and quoted symbols the content is what was read of it.
abbrev pub part_token : Part → List ℕ → List ℕ → Option Token
part_token Blank start content = None
part_token Comment start content = None
part_token (Word form) start content = form_token form start
part_token InText start content = None
part_token Mark start content = Some (Text content)
part_token Quoted start content = Some (Symbol content)

abbrev pub with_bytes : List ℕ → Quotation → Quotation
with_bytes content (closed more after) = closed (content ++ more) after
with_bytes content (broken from) = broken from
with_bytes content unclosed = unclosed

-- The lexeme of bytes of which the start, from the token's first byte on, was read up to this part, and the rest wasn't.
unfoldable pub goes_on : Part → List ℕ → List ℕ → List ℕ → Lexeme
goes_on Blank start content rest = lexeme rest
goes_on Comment start content rest = comment_rest rest
goes_on (Word form) start content rest =
    word_lexeme (start ++ rest) (word_token (start ++ take_while is_word_byte rest)) (drop (prefix_len is_word_byte rest) rest)
goes_on InText start content rest = text_lexeme (start ++ rest) (with_bytes content (text_rest rest))
goes_on Mark start content rest = text_lexeme (start ++ rest) (with_bytes content (mark_rest rest))
goes_on Quoted start content rest = quoted_lexeme (start ++ rest) (with_bytes content (quoted_rest rest))

-- The start is read up to this part: a word has its form.
abbrev pub IsPart : Part → List ℕ → Type 0
IsPart Blank start = ⊤
IsPart Comment start = ⊤
IsPart (Word form) start = IsForm form start
IsPart InText start = ⊤
IsPart Mark start = ⊤
IsPart Quoted start = ⊤

-- What the byte at the front does in this part.
abbrev pub Turns : Part → ℕ → Turn → Type 0
Turns part b Enters = (start content rest : List ℕ) → goes_on part start content (b ∷ rest) ≡ token (b ∷ rest) Enter rest
Turns part b Leaves = (start content rest : List ℕ) → goes_on part start content (b ∷ rest) ≡ token (b ∷ rest) Leave rest
Turns part b (Begins next) = IsPart next (b ∷ [])
    × ((start content rest : List ℕ) → goes_on part start content (b ∷ rest) ≡ goes_on next (b ∷ []) [] rest)
Turns part b (Adds next) = ((start : List ℕ) → IsPart part start → IsPart next (start ++ b ∷ []))
    × ((start content rest : List ℕ) → goes_on part start content (b ∷ rest) ≡ goes_on next (start ++ b ∷ []) (content ++ b ∷ []) rest)
Turns part b Ends = (start content rest : List ℕ) → IsPart part start
    → (t : Token) × (part_token part start content ≡ Some t) × (goes_on part start content (b ∷ rest) ≡ token (start ++ b ∷ rest) t (b ∷ rest))
Turns part b Closes = (start content rest : List ℕ)
    → (t : Token) × (part_token part start content ≡ Some t) × (goes_on part start content (b ∷ rest) ≡ token (start ++ b ∷ rest) t rest)
Turns part b Wrong = (start content rest : List ℕ) → goes_on part start content (b ∷ rest) ≡ wrong (b ∷ rest)
Turns part b Malformed = (start content rest : List ℕ) → IsPart part start → goes_on part start content (b ∷ rest) ≡ wrong (start ++ b ∷ rest)

-- The byte at the front goes on in the same token, comment or white space, which has then been read up to the next part.
pub record GoesOnTo (part : Part) (b : ℕ) (next : Part) : Type 0 where
  pub is_part : (start : List ℕ) → IsPart part start → IsPart next (start ++ b ∷ [])
  pub rest : (start content rest : List ℕ) → goes_on part start content (b ∷ rest) ≡ goes_on next (start ++ b ∷ []) content rest

-- What the byte at the front does in this part, be it a turn or not.
abbrev pub StepsSo : Part → ℕ → Step → Type 0
StepsSo part b (Stays next) = GoesOnTo part b next
StepsSo part b (Takes turn) = Turns part b turn

-- What the end of the input does in this part.
abbrev pub EndsSo : Part → Ending → Type 0
EndsSo part Bare = (start content : List ℕ) → goes_on part start content [] ≡ nothing
EndsSo part Whole = (start content : List ℕ) → IsPart part start
    → (t : Token) × (part_token part start content ≡ Some t) × (goes_on part start content [] ≡ token start t [])
EndsSo part Halted = (start content : List ℕ) → goes_on part start content [] ≡ unended start
EndsSo part Formless = (start content : List ℕ) → IsPart part start → goes_on part start content [] ≡ wrong start

-- What was read at the front of the bytes, from one part on to another, where the content of a text or a quoted symbol becomes this by the bytes that were read.
pub record Reads (grown : List ℕ → List ℕ → List ℕ) (old next : Part) (bytes : List ℕ) (count : ℕ) : Type 0 where
  pub within : count ≤ length bytes
  pub part : (start : List ℕ) → IsPart old start → IsPart next (start ++ take count bytes)
  pub rest : (start content more : List ℕ)
      → goes_on old start content (bytes ++ more) ≡ goes_on next (start ++ take count bytes) (grown content (take count bytes)) (drop count bytes ++ more)

-- They were passed over: the content stays.
abbrev pub Passes : Part → Part → List ℕ → ℕ → Type 0
Passes old next bytes passed = Reads (λ content front. content) old next bytes passed

-- They were added to the content.
abbrev pub Extends : Part → Part → List ℕ → ℕ → Type 0
Extends old next bytes added = Reads (λ content front. content ++ front) old next bytes added

-- The byte after those that were passed over does something.
abbrev pub StopsAt : Part → List ℕ → ℕ → Option Turn → Type 0
StopsAt part bytes passed None = passed ≡ length bytes
StopsAt part bytes passed (Some turn) = (b : ℕ) × (rest : List ℕ) × (drop passed bytes ≡ b ∷ rest) × Turns part b turn
