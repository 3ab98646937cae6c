-- What the kinds of bytes rule out.
use Rattle.std.proofs.Common.{◌≡◌, ℕ, Bool, true, false, ◌||◌, arith, refl, eqb}
use Rattle.std.proofs.lemmas.Grind.{common_steps}
use Rattle.smt_meaning.specs.Reading.{is_blank, is_digit, is_letter, is_sign, is_symbol_byte, is_word_byte, is_hex_digit, is_binary_digit}

-- bytes of which one is of a kind and the other isn't are two
pub differ : (is : ℕ → Bool) (b c : ℕ) → is b ≡ true → is c ≡ false → eqb b c ≡ false
differ is b c h k = by_test (eqb b c) refl where
  by_test : (t : Bool) → eqb b c ≡ t → t ≡ false
  by_test false e = refl
  by_test true e = let same : b ≡ c = grind (arith, common_steps) in cc

pub or_left : (x y : Bool) → x ≡ true → x || y ≡ true
or_left x y h = rw h refl

pub or_right : (x y : Bool) → y ≡ true → x || y ≡ true
or_right true y h = refl
or_right false y h = h

pub digit_is_symbol : (b : ℕ) → is_digit b ≡ true → is_symbol_byte b ≡ true
unfolding is_symbol_byte
digit_is_symbol b h = rw h (or_left (is_letter b || true) (is_sign b) (or_right (is_letter b) true refl))

pub symbol_is_word : (b : ℕ) → is_symbol_byte b ≡ true → is_word_byte b ≡ true
unfolding is_word_byte
symbol_is_word b h = rw h refl

pub digit_is_word : (b : ℕ) → is_digit b ≡ true → is_word_byte b ≡ true
digit_is_word b h = symbol_is_word b (digit_is_symbol b h)

pub hex_is_word : (b : ℕ) → is_hex_digit b ≡ true → is_word_byte b ≡ true
unfolding is_word_byte is_symbol_byte
hex_is_word b h = grind (arith, common_steps)

pub binary_is_word : (b : ℕ) → is_binary_digit b ≡ true → is_word_byte b ≡ true
unfolding is_word_byte is_symbol_byte
binary_is_word b h = grind (arith, common_steps)

pub word_is_not_blank : (b : ℕ) → is_word_byte b ≡ true → is_blank b ≡ false
unfolding is_word_byte is_symbol_byte
word_is_not_blank b h = grind (arith, common_steps)

pub symbol_is_no_hash : (b : ℕ) → is_symbol_byte b ≡ true → eqb b 35 ≡ false
unfolding is_symbol_byte
symbol_is_no_hash b h = differ is_symbol_byte b 35 h refl

pub symbol_is_no_colon : (b : ℕ) → is_symbol_byte b ≡ true → eqb b 58 ≡ false
unfolding is_symbol_byte
symbol_is_no_colon b h = differ is_symbol_byte b 58 h refl

pub colon_is_no_symbol : is_symbol_byte 58 ≡ false
unfolding is_symbol_byte
colon_is_no_symbol = refl

pub digit_is_no_zero : (b : ℕ) → is_digit b ≡ false → eqb b 48 ≡ false
digit_is_no_zero b h = grind (arith, common_steps)

pub point_is_word : is_word_byte 46 ≡ true
unfolding is_word_byte is_symbol_byte
point_is_word = refl

pub letter_is_word : (is_word_byte 120 ≡ true) × (is_word_byte 98 ≡ true)
unfolding is_word_byte is_symbol_byte
letter_is_word = (refl, refl)

-- a byte of a word is no semicolon, no parenthesis and no mark
pub record IsInner (b : ℕ) : Type 0 where
  pub blank : is_blank b ≡ false
  pub semicolon : eqb b 59 ≡ false
  pub enter : eqb b 40 ≡ false
  pub leave : eqb b 41 ≡ false
  pub quote : eqb b 34 ≡ false
  pub bar : eqb b 124 ≡ false

pub word_is_inner : (b : ℕ) → is_word_byte b ≡ true → IsInner b
unfolding is_word_byte is_symbol_byte
word_is_inner b h = record {
  blank = word_is_not_blank b h;
  semicolon = differ is_word_byte b 59 h refl;
  enter = differ is_word_byte b 40 h refl;
  leave = differ is_word_byte b 41 h refl;
  quote = differ is_word_byte b 34 h refl;
  bar = differ is_word_byte b 124 h refl;
}
