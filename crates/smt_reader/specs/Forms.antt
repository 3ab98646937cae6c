-- The forms that a word may have so far.
use Rattle.std.specs.Prelude.{◌≡◌, ℕ, Bool, true, false, List, [], ◌∷◌, ◌++◌, Option, Some, None}
use Rattle.smt_meaning.specs.Reading.{is_digit, is_hex_digit, is_binary_digit, is_symbol_byte, some_of, is_numeral, is_simple_symbol, is_word_byte, word_token}
use Rattle.smt_reader.specs.declared.form.Form.{Form}
use Rattle.smt_reader.specs.declared.form.Form.TheVariants.{Simple, Zero, Digits, Point, Places, Hash, HexMark, HexDigits, BinaryMark, BinaryDigits, Colon, Named}

-- A front, and then one or more bytes of a kind.
abbrev pub IsMarked : List ℕ → (ℕ → Bool) → List ℕ → Type 0
IsMarked front is w = (bs : List ℕ) × (w ≡ front ++ bs) × (some_of is bs ≡ true)

-- The word has this form so far.
unfoldable pub IsForm : Form → List ℕ → Type 0
IsForm Simple w = is_simple_symbol w ≡ true
IsForm Zero w = w ≡ 48 ∷ []
IsForm Digits w = (is_numeral w ≡ true) × (w ≡ 48 ∷ [] → ⊥)
IsForm Point w = (n : List ℕ) × (is_numeral n ≡ true) × (w ≡ n ++ 46 ∷ [])
IsForm Places w = (n : List ℕ) × (is_numeral n ≡ true) × IsMarked (n ++ 46 ∷ []) is_digit w
IsForm Hash w = w ≡ 35 ∷ []
IsForm HexMark w = w ≡ 35 ∷ 120 ∷ []
IsForm HexDigits w = IsMarked (35 ∷ 120 ∷ []) is_hex_digit w
IsForm BinaryMark w = w ≡ 35 ∷ 98 ∷ []
IsForm BinaryDigits w = IsMarked (35 ∷ 98 ∷ []) is_binary_digit w
IsForm Colon w = w ≡ 58 ∷ []
IsForm Named w = IsMarked (58 ∷ []) is_symbol_byte w

-- A word that begins with this byte is of this form so far; no word begins with it.
abbrev pub BeginsAs : ℕ → Option Form → Type 0
BeginsAs b (Some form) = (is_word_byte b ≡ true) × IsForm form (b ∷ [])
BeginsAs b None = is_word_byte b ≡ false

-- One more byte makes a word of this form one of the next form; or it is then no token, whatever follows.
abbrev pub GoesTo : Form → ℕ → Option Form → Type 0
GoesTo form b (Some next) = (is_word_byte b ≡ true) × ((w : List ℕ) → IsForm form w → IsForm next (w ++ b ∷ []))
GoesTo form b None = (w v : List ℕ) → IsForm form w → word_token (w ++ b ∷ v) ≡ None
