-- How an open part may go on.
use Rattle.std.proofs.Common.{◌≡◌, ℕ, List, [], ◌∷◌, ◌++◌, drop, arith, refl, ◌∙◌, append_assoc}
use Rattle.std.specs.Prelude.{Option, Some, None}
use Rattle.std.specs.List.{prefix_len}
use Rattle.std.proofs.lemmas.List.{append-nil}
use Rattle.smt_meaning.specs.Reading.{is_symbol_byte, is_word_byte, is_printable, Lexeme, token, wrong, unended, nothing, lexeme, comment_rest, word_lexeme, word_token, text_rest, mark_rest, quoted_rest, shape, single, reserved_word, symbol_token}
use Rattle.smt_meaning.specs.declared.tokens.Token.{Token}
use Rattle.smt_meaning.specs.declared.tokens.Token.TheVariants.{Numeral, Decimal, Hex, Binary, Keyword}
use Rattle.smt_meaning.specs.declared.tokens.Word.{Word as ReservedWord}
use Rattle.smt_reader.specs.declared.form.Form.{Form}
use Rattle.smt_reader.specs.declared.form.Form.TheVariants.{Simple, Zero, Digits, Point, Places, Hash, HexMark, HexDigits, BinaryMark, BinaryDigits, Colon, Named}
use Rattle.smt_reader.specs.declared.part.Part.{Part}
use Rattle.smt_reader.specs.declared.part.Part.TheVariants.{Blank, Comment, Word, Text, Mark, Quoted}
use Rattle.smt_reader.specs.Forms.{IsForm, GoesTo}
use Rattle.smt_reader.specs.Parts.{form_token, goes_on, IsPart}
use Rattle.smt_reader.proofs.WordForms.{word_is, simple_off, zero_off, digits_off, point_on, point_off, places_off, hash_binary, hash_off, mark_on, mark_off, behind_off, hex, binary, keyword}
use Rattle.smt_reader.proofs.PartSteps.{word_on, word_breaks}

-- the byte 1 at the end is wrong, or is what stands behind a token that is no parenthesis
abbrev pub IsBroken : Lexeme → Type 0
IsBroken (token start t after) = (shape t ≡ single) × (after ≡ 1 ∷ [])
IsBroken (wrong from) = from ≡ 1 ∷ []
IsBroken (unended start) = ⊥
IsBroken nothing = ⊥

pub one_is_wrong : lexeme (1 ∷ []) ≡ wrong (1 ∷ [])
unfolding lexeme is_word_byte is_symbol_byte
one_is_wrong = refl

-- A word that ends

-- with some more bytes the word is a token, behind which these stand
abbrev MayEndBefore : List ℕ → Form → Type 0
MayEndBefore after form = (start content : List ℕ) → IsForm form start
    → (more : List ℕ) × (t : Token) × (shape t ≡ single) × (goes_on (Word form) start content (more ++ after) ≡ token (start ++ (more ++ after)) t after)

symbol_is_single : (r : Option ReservedWord) (w : List ℕ) → shape (symbol_token r w) ≡ single
symbol_is_single None w = refl
symbol_is_single (Some r) w = refl

module _ (after : List ℕ) (apart : prefix_len is_word_byte after ≡ 0) where
  word_apart : (form : Form) (start content : List ℕ) → goes_on (Word form) start content after ≡ word_lexeme (start ++ after) (word_token start) after
  unfolding goes_on
  word_apart form start content = rw (apart, append-nil start) refl

  ends_here : (form : Form) → ((start : List ℕ) → (t : Token) × (form_token form start ≡ Some t) × (shape t ≡ single)) → MayEndBefore after form
  ends_here form some start content is =
      let (t, e, s) = some start in
      ([], t, s, word_apart form start content ∙ rw (word_is form start is, e) refl)

  ends_later : (form next : Form) (b : ℕ) → GoesTo form b (Some next) → MayEndBefore after next → MayEndBefore after form
  ends_later form next b goes ends start content is =
      let (more, t, s, e) = ends (start ++ b ∷ []) content (goes.1 start is) in
      (b ∷ more, t, s, (word_on form b next goes).rest start content (more ++ after) ∙ e ∙ rw (append_assoc start (b ∷ []) (more ++ after)) refl)

  simple_ends : MayEndBefore after Simple
  simple_ends = ends_here Simple (λ w. (symbol_token (reserved_word w) w, refl, symbol_is_single (reserved_word w) w))

  places_end : MayEndBefore after Places
  places_end = ends_here Places (λ w. (Decimal w, refl, refl))

  hex_ends : MayEndBefore after HexDigits
  hex_ends = ends_here HexDigits (λ w. (Hex w, refl, refl))

  binary_ends : MayEndBefore after BinaryDigits
  binary_ends = ends_here BinaryDigits (λ w. (Binary w, refl, refl))

  binary_mark_ends : MayEndBefore after BinaryMark
  binary_mark_ends = ends_later BinaryMark BinaryDigits 48 (mark_on binary 48 refl) binary_ends

  named_ends : MayEndBefore after Named
  named_ends = ends_here Named (λ w. (Keyword (drop 1 w), refl, refl))

  colon_ends : MayEndBefore after Colon
  unfolding is_symbol_byte
  colon_ends = ends_later Colon Named 97 (mark_on keyword 97 refl) named_ends

  may_end_before : (form : Form) → MayEndBefore after form
  may_end_before Simple = simple_ends
  may_end_before Zero = ends_here Zero (λ w. (Numeral w, refl, refl))
  may_end_before Digits = ends_here Digits (λ w. (Numeral w, refl, refl))
  may_end_before Point = ends_later Point Places 48 (point_on 48 refl) places_end
  may_end_before Places = places_end
  may_end_before Hash = ends_later Hash BinaryMark 98 (hash_binary 98 refl) binary_mark_ends
  may_end_before HexMark = ends_later HexMark HexDigits 48 (mark_on hex 48 refl) hex_ends
  may_end_before HexDigits = hex_ends
  may_end_before BinaryMark = binary_mark_ends
  may_end_before BinaryDigits = binary_ends
  may_end_before Colon = colon_ends
  may_end_before Named = named_ends

-- a word may go on to be a token
pub word_may_end : (form : Form) (start content : List ℕ) → IsForm form start
    → (more : List ℕ) × (t : Token) × (shape t ≡ single) × (goes_on (Word form) start content more ≡ token (start ++ more) t [])
word_may_end form start content is =
    let (more, t, s, e) = may_end_before [] refl form start content is in
    (more ++ [], t, s, e)

-- any part may be followed by a wrong byte
pub breaks : (part : Part) (start content : List ℕ) → IsPart part start → (more : List ℕ) × IsBroken (goes_on part start content more)
unfolding goes_on comment_rest text_rest mark_rest quoted_rest is_printable is_word_byte is_symbol_byte
breaks Blank start content is = (1 ∷ [], refl)
breaks Comment start content is = (10 ∷ 1 ∷ [], refl)
breaks (Word form) start content is =
    let (more, t, s, e) = may_end_before (1 ∷ []) refl form start content is in
    (more ++ 1 ∷ [], rw e (s, refl))
breaks Text start content is = (1 ∷ [], refl)
breaks Mark start content is = (1 ∷ [], (refl, refl))
breaks Quoted start content is = (1 ∷ [], refl)

-- A word that is none

colon_breaks : (form : Form) → GoesTo form 58 None
unfolding is_symbol_byte
colon_breaks Simple = simple_off 58 refl
colon_breaks Zero = zero_off 58 refl
colon_breaks Digits = digits_off 58 refl refl
colon_breaks Point = point_off 58 refl
colon_breaks Places = places_off 58 refl
colon_breaks Hash = hash_off 58 (λ e. omega arith) refl
colon_breaks HexMark = mark_off hex 58 refl
colon_breaks HexDigits = behind_off hex 58 refl
colon_breaks BinaryMark = mark_off binary 58 refl
colon_breaks BinaryDigits = behind_off binary 58 refl
colon_breaks Colon = mark_off keyword 58 refl
colon_breaks Named = behind_off keyword 58 refl

-- a word may go on to be none
pub word_may_break : (form : Form) (start content : List ℕ) → IsForm form start → (more : List ℕ) × (goes_on (Word form) start content more ≡ wrong (start ++ more))
unfolding is_word_byte is_symbol_byte
word_may_break form start content is = (58 ∷ [], word_breaks form 58 refl (colon_breaks form) start content [] is)

-- a text may go on behind a mark
pub mark_may_open : (start content : List ℕ) → goes_on Mark start content (34 ∷ []) ≡ unended (start ++ 34 ∷ [])
unfolding goes_on mark_rest text_rest
mark_may_open start content = refl
