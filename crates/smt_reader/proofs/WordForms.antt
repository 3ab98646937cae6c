-- What a word of each form is, and what it becomes with more bytes.
use Rattle.std.proofs.Common.{◌≡◌, ℕ, Bool, true, false, ◌&&◌, not, List, [], ◌∷◌, ◌++◌, length, take, drop, arith, suc, refl, sym, ◌∙◌, ap, subst, eqb, append_assoc, cond}
use Rattle.std.specs.Prelude.{Option, Some, None}
use Rattle.std.specs.List.{take_while, prefix_len, list_all}
use Rattle.std.proofs.lemmas.Grind.{common_steps}
use Rattle.std.proofs.lemmas.List.Folds.{list_all-append}
use Rattle.std.proofs.lemmas.List.Sums.{take_while-cons}
use Rattle.smt_meaning.specs.Reading.{is_word_byte, is_digit, is_symbol_byte, is_hex_digit, is_binary_digit, some_of, is_numeral, is_fraction, is_decimal, is_based, is_simple_symbol, reserved_word, symbol_token, word_token}
use Rattle.smt_meaning.specs.declared.tokens.Token.TheVariants.{Numeral, Decimal, Hex, Binary, Keyword}
use Rattle.smt_reader.specs.declared.form.Form.{Form}
use Rattle.smt_reader.specs.declared.form.Form.TheVariants.{Simple, Zero, Digits, Point, Places, Hash, HexMark, HexDigits, BinaryMark, BinaryDigits, Colon, Named}
use Rattle.smt_reader.specs.Forms.{IsForm, IsMarked, BeginsAs, GoesTo}
use Rattle.smt_reader.specs.Parts.{form_token}
use Rattle.smt_reader.proofs.WordBytes.{differ, letter_is_word, point_is_word, digit_is_no_zero, symbol_is_no_hash, symbol_is_no_colon, colon_is_no_symbol, symbol_is_word, digit_is_word, hex_is_word, binary_is_word}

-- Bytes of a kind

and_false : (x : Bool) → x && false ≡ false
and_false true = refl
and_false false = refl

both_left : (x y : Bool) → x && y ≡ true → x ≡ true
both_left true y e = refl
both_left false y e = e

both_right : (x y : Bool) → x && y ≡ true → y ≡ true
both_right true y e = e
both_right false y e = cc

not_true : (x : Bool) → not x ≡ true → x ≡ false
not_true false e = refl
not_true true e = cc

module _ (is : ℕ → Bool) (b : ℕ) where
  all_more : (bs : List ℕ) → list_all is bs ≡ true → is b ≡ true → list_all is (bs ++ b ∷ []) ≡ true
  all_more bs h k = list_all-append is bs (b ∷ []) ∙ rw (h, k) refl

  all_broken : (bs v : List ℕ) → is b ≡ false → list_all is (bs ++ b ∷ v) ≡ false
  all_broken bs v k = list_all-append is bs (b ∷ v) ∙ rw k (and_false (list_all is bs))

  some_more : (bs : List ℕ) → some_of is bs ≡ true → is b ≡ true → some_of is (bs ++ b ∷ []) ≡ true
  some_more [] h k = cc
  some_more (c ∷ bs) h k = rw (both_left (is c) (list_all is bs) h) (all_more bs (both_right (is c) (list_all is bs) h) k)

  some_broken : (bs v : List ℕ) → is b ≡ false → some_of is (bs ++ b ∷ v) ≡ false
  some_broken [] v k = rw k refl
  some_broken (c ∷ bs) v k = rw (all_broken bs v k) (and_false (is c))

  -- the front of bytes of a kind ends at one that isn't of it
  front_len : (bs v : List ℕ) → list_all is bs ≡ true → is b ≡ false → prefix_len is (bs ++ b ∷ v) ≡ length bs
  front_len [] v h k = rw k refl
  front_len (c ∷ bs) v h k =
      let first = both_left (is c) (list_all is bs) h in
      let again = front_len bs v (both_right (is c) (list_all is bs) h) k in
      rw (first, again) (omega arith)

  abbrev marked_on : (front w : List ℕ) → IsMarked front is w → is b ≡ true → IsMarked front is (w ++ b ∷ [])
  marked_on front w (bs, e, s) k = (bs ++ b ∷ [], rw e (append_assoc front bs (b ∷ [])), some_more bs s k)

  abbrev mark_begins : (front w : List ℕ) → w ≡ front → is b ≡ true → IsMarked front is (w ++ b ∷ [])
  mark_begins front w e k = (b ∷ [], rw e refl, rw k refl)

take_front : (xs ys : List ℕ) → take (length xs) (xs ++ ys) ≡ xs
take_front [] ys = refl
take_front (x ∷ xs) ys = ap (λ t. x ∷ t) (take_front xs ys)

drop_front : (xs ys : List ℕ) → drop (length xs) (xs ++ ys) ≡ ys
drop_front [] ys = refl
drop_front (x ∷ xs) ys = drop_front xs ys

-- What the first byte decides

no_base : (letter : ℕ) (is : ℕ → Bool) (c : ℕ) (bs : List ℕ) → eqb c 35 ≡ false → is_based letter is (c ∷ bs) ≡ false
no_base letter is c [] h = refl
no_base letter is c (d ∷ bs) h = rw h refl

by_digit : (c : ℕ) (bs : List ℕ) → is_digit c ≡ true
    → word_token (c ∷ bs) ≡ cond (is_numeral (c ∷ bs)) (Some (Numeral (c ∷ bs))) (cond (is_decimal (c ∷ bs)) (Some (Decimal (c ∷ bs))) None)
unfolding word_token
by_digit c bs h =
    let hash = differ is_digit c 35 h refl in
    let colon = differ is_digit c 58 h refl in
    rw (no_base 120 is_hex_digit c bs hash, no_base 98 is_binary_digit c bs hash, colon, h) refl

by_symbol : (c : ℕ) (bs : List ℕ) → is_symbol_byte c ≡ true → is_digit c ≡ false
    → word_token (c ∷ bs) ≡ cond (list_all is_symbol_byte bs) (Some (symbol_token (reserved_word (c ∷ bs)) (c ∷ bs))) None
unfolding word_token
by_symbol c bs s h =
    let hash = symbol_is_no_hash c s in
    let colon = symbol_is_no_colon c s in
    let zero = digit_is_no_zero c h in
    rw (h, zero, no_base 120 is_hex_digit c bs hash, no_base 98 is_binary_digit c bs hash, colon, s) refl

by_hash : (bs : List ℕ) → word_token (35 ∷ bs) ≡ cond (is_based 120 is_hex_digit (35 ∷ bs)) (Some (Hex (35 ∷ bs))) (cond (is_based 98 is_binary_digit (35 ∷ bs)) (Some (Binary (35 ∷ bs))) None)
unfolding word_token is_symbol_byte
by_hash bs = refl

by_colon : (bs : List ℕ) → word_token (58 ∷ bs) ≡ cond (some_of is_symbol_byte bs) (Some (Keyword bs)) None
unfolding word_token
by_colon bs = rw (no_base 120 is_hex_digit 58 bs refl, colon_is_no_symbol) refl

-- Simple symbols

simple_token : (w : List ℕ) → IsForm Simple w → word_token w ≡ form_token Simple w
unfolding IsForm
simple_token [] is = cc
simple_token (c ∷ bs) is =
    let symbol = both_right (not (is_digit c)) (is_symbol_byte c && list_all is_symbol_byte bs) is in
    let digit = not_true (is_digit c) (both_left (not (is_digit c)) (is_symbol_byte c && list_all is_symbol_byte bs) is) in
    by_symbol c bs (both_left (is_symbol_byte c) (list_all is_symbol_byte bs) symbol) digit
    ∙ rw (both_right (is_symbol_byte c) (list_all is_symbol_byte bs) symbol) refl

pub simple_on : (b : ℕ) → is_symbol_byte b ≡ true → GoesTo Simple b (Some Simple)
unfolding IsForm
simple_on b s = (symbol_is_word b s, more) where
  more : (w : List ℕ) → is_simple_symbol w ≡ true → is_simple_symbol (w ++ b ∷ []) ≡ true
  more [] is = cc
  more (c ∷ bs) is =
      let symbol = both_right (not (is_digit c)) (is_symbol_byte c && list_all is_symbol_byte bs) is in
      rw (both_left (not (is_digit c)) (is_symbol_byte c && list_all is_symbol_byte bs) is) (some_more is_symbol_byte b (c ∷ bs) symbol s)

pub simple_off : (b : ℕ) → is_symbol_byte b ≡ false → GoesTo Simple b None
unfolding IsForm
simple_off b s [] v is = cc
simple_off b s (c ∷ bs) v is =
    let symbol = both_right (not (is_digit c)) (is_symbol_byte c && list_all is_symbol_byte bs) is in
    let digit = not_true (is_digit c) (both_left (not (is_digit c)) (is_symbol_byte c && list_all is_symbol_byte bs) is) in
    by_symbol c (bs ++ b ∷ v) (both_left (is_symbol_byte c) (list_all is_symbol_byte bs) symbol) digit
    ∙ rw (all_broken is_symbol_byte b bs v s) refl

-- Numerals and decimals

same : (m n : ℕ) → eqb m n ≡ true → m ≡ n
same m n e = grind (arith, common_steps)

other : (m n : ℕ) → (m ≡ n → ⊥) → eqb m n ≡ false
other m n e = grind (arith, common_steps)

no_suc : (n : ℕ) → eqb (suc n) 0 ≡ false
no_suc n = grind (arith, common_steps)

zero_alone : (c : ℕ) (bs : List ℕ) → is_numeral (c ∷ bs) ≡ true → eqb c 48 ≡ true → c ∷ bs ≡ 48 ∷ []
zero_alone c [] is e = ap (λ d. d ∷ []) (same c 48 e)
zero_alone c (d ∷ bs) is e = let long = rw e at is in let no = no_suc (length bs) in cc

other_digits : (c : ℕ) (bs : List ℕ) → is_numeral (c ∷ bs) ≡ true → eqb c 48 ≡ false → is_digit c && list_all is_digit bs ≡ true
other_digits c bs is e = rw e at is

all_digits : (w : List ℕ) → is_numeral w ≡ true → list_all is_digit w ≡ true
all_digits [] is = cc
all_digits (c ∷ bs) is = by_first (eqb c 48) refl where
  by_first : (t : Bool) → eqb c 48 ≡ t → list_all is_digit (c ∷ bs) ≡ true
  by_first true e = subst (λ (xs : List ℕ). list_all is_digit xs ≡ true) (sym (zero_alone c bs is e)) refl
  by_first false e = other_digits c bs is e

longer : (c b : ℕ) (bs v : List ℕ) → is_digit b ≡ false → is_numeral (c ∷ (bs ++ b ∷ v)) ≡ false
longer c b bs v h = by_first (eqb c 48) refl where
  some : (xs : List ℕ) → eqb (length (xs ++ b ∷ v)) 0 ≡ false
  some [] = no_suc (length v)
  some (x ∷ xs) = no_suc (length (xs ++ b ∷ v))

  by_first : (t : Bool) → eqb c 48 ≡ t → is_numeral (c ∷ (bs ++ b ∷ v)) ≡ false
  by_first true e = rw e (some bs)
  by_first false e = rw (e, all_broken is_digit b bs v h) (and_false (is_digit c))

decimal_is : (n v : List ℕ) (b : ℕ) → is_numeral n ≡ true → is_digit b ≡ false → is_decimal (n ++ b ∷ v) ≡ is_fraction (b ∷ v)
decimal_is n v b is h =
    ap (λ k. is_numeral (take k (n ++ b ∷ v)) && is_fraction (drop k (n ++ b ∷ v))) (front_len is_digit b n v (all_digits n is) h)
    ∙ rw (take_front n (b ∷ v), drop_front n (b ∷ v), is) refl

-- a numeral, and then a byte that is no digit
number_token : (n v : List ℕ) (b : ℕ) → is_numeral n ≡ true → is_digit b ≡ false → word_token (n ++ b ∷ v) ≡ cond (is_fraction (b ∷ v)) (Some (Decimal (n ++ b ∷ v))) None
number_token [] v b is h = cc
number_token (c ∷ bs) v b is h =
    by_digit c (bs ++ b ∷ v) (both_left (is_digit c) (list_all is_digit bs) (all_digits (c ∷ bs) is))
    ∙ rw (longer c b bs v h, decimal_is (c ∷ bs) v b is h) refl

-- a numeral and a point, and then more
point_token : (n v : List ℕ) → is_numeral n ≡ true → word_token ((n ++ 46 ∷ []) ++ v) ≡ cond (some_of is_digit v) (Some (Decimal ((n ++ 46 ∷ []) ++ v))) None
point_token n v is = rw (append_assoc n (46 ∷ []) v) (number_token n v 46 is refl)

numeral_token : (w : List ℕ) → is_numeral w ≡ true → word_token w ≡ Some (Numeral w)
unfolding word_token
numeral_token w is = rw is refl

pub zero_point : (b : ℕ) → eqb b 46 ≡ true → GoesTo Zero b (Some Point)
unfolding IsForm
zero_point b h = rw (same b 46 h) (point_is_word, λ w e. (48 ∷ [], refl, rw e refl))

zero_digit : (b : ℕ) (v : List ℕ) → is_digit b ≡ true → word_token (48 ∷ b ∷ v) ≡ None
zero_digit b v h = by_digit 48 (b ∷ v) refl ∙ rw (none, no_suc (length v)) refl where
  second : take_while is_digit (b ∷ v) ≡ b ∷ take_while is_digit v
  second = take_while-cons is_digit b v ∙ rw h refl

  none : is_decimal (48 ∷ b ∷ v) ≡ false
  none =
      ap (λ t. is_numeral t && is_fraction (drop (prefix_len is_digit (48 ∷ b ∷ v)) (48 ∷ b ∷ v))) (take_while-cons is_digit 48 (b ∷ v) ∙ ap (λ t. 48 ∷ t) second)
      ∙ rw (no_suc (length (take_while is_digit v))) refl

zero_then : (b : ℕ) (v : List ℕ) (t : Bool) → is_digit b ≡ t → eqb b 46 ≡ false → word_token (48 ∷ b ∷ v) ≡ None
zero_then b v true h e = zero_digit b v h
zero_then b v false h e = number_token (48 ∷ []) v b refl h ∙ rw e refl

pub zero_off : (b : ℕ) → eqb b 46 ≡ false → GoesTo Zero b None
unfolding IsForm
zero_off b e w v is = rw is (zero_then b v (is_digit b) refl e)

pub digits_on : (b : ℕ) → is_digit b ≡ true → GoesTo Digits b (Some Digits)
unfolding IsForm
digits_on b h = (digit_is_word b h, more) where
  by_first : (c : ℕ) (bs : List ℕ) (t : Bool) → eqb c 48 ≡ t → is_numeral (c ∷ bs) ≡ true → (c ∷ bs ≡ 48 ∷ [] → ⊥)
      → (is_numeral (c ∷ (bs ++ b ∷ [])) ≡ true) × (c ∷ (bs ++ b ∷ []) ≡ 48 ∷ [] → ⊥)
  by_first c bs true e is other = absurd (other (zero_alone c bs is e))
  by_first c bs false e is other =
      let digits = other_digits c bs is e in
      let all = all_more is_digit b bs (both_right (is_digit c) (list_all is_digit bs) digits) h in
      (rw (e, both_left (is_digit c) (list_all is_digit bs) digits, all) refl, λ alone. let zero : c ≡ 48 = cc in let never = rw zero at e in cc)

  more : (w : List ℕ) → (is_numeral w ≡ true) × (w ≡ 48 ∷ [] → ⊥) → (is_numeral (w ++ b ∷ []) ≡ true) × (w ++ b ∷ [] ≡ 48 ∷ [] → ⊥)
  more [] (is, other) = cc
  more (c ∷ bs) (is, other) = by_first c bs (eqb c 48) refl is other

pub digits_point : (b : ℕ) → eqb b 46 ≡ true → GoesTo Digits b (Some Point)
unfolding IsForm
digits_point b h = rw (same b 46 h) (point_is_word, λ w is. (w, is.0, refl))

pub digits_off : (b : ℕ) → is_digit b ≡ false → eqb b 46 ≡ false → GoesTo Digits b None
unfolding IsForm
digits_off b h e w v is = number_token w v b is.0 h ∙ rw e refl

pub point_on : (b : ℕ) → is_digit b ≡ true → GoesTo Point b (Some Places)
unfolding IsForm
point_on b h = (digit_is_word b h, λ w (n, is, e). (n, is, mark_begins is_digit b (n ++ 46 ∷ []) w e h))

pub point_off : (b : ℕ) → is_digit b ≡ false → GoesTo Point b None
unfolding IsForm
point_off b h w v (n, is, e) = rw e (point_token n (b ∷ v) is ∙ rw h refl)

pub places_on : (b : ℕ) → is_digit b ≡ true → GoesTo Places b (Some Places)
unfolding IsForm
places_on b h = (digit_is_word b h, λ w (n, is, marked). (n, is, marked_on is_digit b (n ++ 46 ∷ []) w marked h))

pub places_off : (b : ℕ) → is_digit b ≡ false → GoesTo Places b None
unfolding IsForm
places_off b h w v (n, is, (bs, e, s)) = rw (e, append_assoc (n ++ 46 ∷ []) bs (b ∷ v)) (point_token n (bs ++ b ∷ v) is ∙ rw (some_broken is_digit b bs v h) refl)

-- The mark of a hexadecimal or a binary

pub hash_hex : (b : ℕ) → b ≡ 120 → GoesTo Hash b (Some HexMark)
unfolding IsForm
hash_hex b h = rw h (letter_is_word.0, λ w e. rw e refl)

pub hash_binary : (b : ℕ) → eqb b 98 ≡ true → GoesTo Hash b (Some BinaryMark)
unfolding IsForm
hash_binary b h = rw (same b 98 h) (letter_is_word.1, λ w e. rw e refl)

pub hash_off : (b : ℕ) → (b ≡ 120 → ⊥) → eqb b 98 ≡ false → GoesTo Hash b None
unfolding IsForm
hash_off b h k w v e = rw e (by_hash (b ∷ v) ∙ rw (other b 120 h, k) refl)

-- Bytes of a kind behind a mark

-- a form of the mark alone, and one with bytes of the kind behind it
pub record IsMark (mark marked : Form) (front : List ℕ) (is : ℕ → Bool) : Type 0 where
  alone : (w : List ℕ) → IsForm mark w → w ≡ front
  begins : (w : List ℕ) → IsMarked front is w → IsForm marked w
  has : (w : List ℕ) → IsForm marked w → IsMarked front is w
  in_word : (b : ℕ) → is b ≡ true → is_word_byte b ≡ true
  no_token : (bs : List ℕ) → some_of is bs ≡ false → word_token (front ++ bs) ≡ None

module _ {mark marked : Form} {front : List ℕ} {is : ℕ → Bool} (m : IsMark mark marked front is) where
  pub mark_on : (b : ℕ) → is b ≡ true → GoesTo mark b (Some marked)
  mark_on b h = (m.in_word b h, λ w e. m.begins (w ++ b ∷ []) (mark_begins is b front w (m.alone w e) h))

  pub mark_off : (b : ℕ) → is b ≡ false → GoesTo mark b None
  mark_off b h w v e = rw (m.alone w e) (m.no_token (b ∷ v) (some_broken is b [] v h))

  pub behind_on : (b : ℕ) → is b ≡ true → GoesTo marked b (Some marked)
  behind_on b h = (m.in_word b h, λ w k. m.begins (w ++ b ∷ []) (marked_on is b front w (m.has w k) h))

  pub behind_off : (b : ℕ) → is b ≡ false → GoesTo marked b None
  behind_off b h w v k =
      let (bs, e, s) = m.has w k in
      rw (e, append_assoc front bs (b ∷ v)) (m.no_token (bs ++ b ∷ v) (some_broken is b bs v h))

pub hex : IsMark HexMark HexDigits (35 ∷ 120 ∷ []) is_hex_digit
unfolding IsForm
hex = record { alone = λ w e. e; begins = λ w k. k; has = λ w k. k; in_word = hex_is_word; no_token = λ bs h. by_hash (120 ∷ bs) ∙ rw h refl }

pub binary : IsMark BinaryMark BinaryDigits (35 ∷ 98 ∷ []) is_binary_digit
unfolding IsForm
binary = record { alone = λ w e. e; begins = λ w k. k; has = λ w k. k; in_word = binary_is_word; no_token = λ bs h. by_hash (98 ∷ bs) ∙ rw h refl }

pub keyword : IsMark Colon Named (58 ∷ []) is_symbol_byte
unfolding IsForm
keyword = record { alone = λ w e. e; begins = λ w k. k; has = λ w k. k; in_word = symbol_is_word; no_token = λ bs h. by_colon bs ∙ rw h refl }

-- A word's token is that of its form.
pub word_is : (form : Form) (w : List ℕ) → IsForm form w → word_token w ≡ form_token form w
unfolding IsForm
word_is Simple w is = simple_token w is
word_is Zero w is = rw is (numeral_token (48 ∷ []) refl)
word_is Digits w is = numeral_token w is.0
word_is Point w (n, is, e) = rw e (number_token n [] 46 is refl)
word_is Places w (n, is, (bs, e, s)) = rw e (point_token n bs is ∙ rw s refl)
word_is Hash w is = rw is (by_hash [])
word_is HexMark w is = rw is (by_hash (120 ∷ []))
word_is HexDigits w (bs, e, s) = rw e (by_hash (120 ∷ bs) ∙ rw s refl)
word_is BinaryMark w is = rw is (by_hash (98 ∷ []))
word_is BinaryDigits w (bs, e, s) = rw e (by_hash (98 ∷ bs) ∙ rw s refl)
word_is Colon w is = rw is (by_colon [])
word_is Named w (bs, e, s) = rw e (by_colon bs ∙ rw s refl)

-- What the code chooses

-- the next form, chosen by a test
pub chosen_goes : (self form next : Form) (b : ℕ) (test is : Bool) (r : Option Form) → r ≡ cond test (Some next) None → test ≡ is → self ≡ form
    → (is ≡ true → GoesTo form b (Some next)) → (is ≡ false → GoesTo form b None) → GoesTo self b r
chosen_goes self form next b test true r e f g on off = rw (g, e, f) (on refl)
chosen_goes self form next b test false r e f g on off = rw (g, e, f) (off refl)

-- The first byte

pub begins_zero : (b : ℕ) → b ≡ 48 → BeginsAs b (Some Zero)
unfolding IsForm
begins_zero b e = rw e (digit_is_word 48 refl, refl)

pub begins_digits : (b : ℕ) → (b ≡ 48 → ⊥) → is_digit b ≡ true → BeginsAs b (Some Digits)
unfolding IsForm
begins_digits b e h = (digit_is_word b h, (rw (other b 48 e, h) refl, λ alone. let zero : b ≡ 48 = cc in e zero))

pub begins_simple : (b : ℕ) → is_digit b ≡ false → is_symbol_byte b ≡ true → BeginsAs b (Some Simple)
unfolding IsForm
begins_simple b h s = (symbol_is_word b s, rw (h, s) refl)

pub begins_hash : (b : ℕ) → b ≡ 35 → BeginsAs b (Some Hash)
unfolding IsForm is_word_byte is_symbol_byte
begins_hash b e = rw e (refl, refl)

pub begins_colon : (b : ℕ) → b ≡ 58 → BeginsAs b (Some Colon)
unfolding IsForm is_word_byte is_symbol_byte
begins_colon b e = rw e (refl, refl)

pub begins_none : (b : ℕ) → is_symbol_byte b ≡ false → (b ≡ 35 → ⊥) → (b ≡ 58 → ⊥) → BeginsAs b None
unfolding is_word_byte
begins_none b s e f = rw (s, other b 35 e, other b 58 f) refl
