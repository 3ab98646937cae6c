-- What one byte, or the end, does in each part.
use Rattle.std.proofs.Common.{◌≡◌, ℕ, ◌+◌, true, false, List, [], ◌∷◌, ◌++◌, take, drop, suc, arith, refl, sym, ◌∙◌, ap, eqb, append_assoc, ◌⊎◌, inl, inr}
use Rattle.std.specs.Prelude.{Option, Some, None}
use Rattle.std.specs.Option.{is_some}
use Rattle.std.specs.List.{take_while, prefix_len}
use Rattle.std.proofs.lemmas.Grind.{common_steps}
use Rattle.std.proofs.lemmas.List.{append-nil}
use Rattle.smt_meaning.specs.Reading.{is_blank, is_printable, is_word_byte, token, wrong, lexeme, comment_rest, word_lexeme, word_token, Quotation, closed, broken, unclosed, with_byte, text_rest, mark_rest, quoted_rest}
use Rattle.smt_meaning.specs.declared.tokens.Token.{Token}
use Rattle.smt_meaning.specs.declared.tokens.Token.TheVariants.{Text, Symbol}
use Rattle.smt_reader.specs.declared.form.Form.{Form}
use Rattle.smt_reader.specs.Forms.{BeginsAs, GoesTo}
use Rattle.smt_reader.specs.declared.part.Part.TheVariants.{Blank, Comment, Word, Text as InText, Mark, Quoted}
use Rattle.smt_reader.specs.declared.part.Turn.TheVariants.{Enters, Leaves, Begins, Adds, Ends, Closes, Wrong, Malformed}
use Rattle.smt_reader.specs.declared.part.Ending.TheVariants.{Bare, Whole, Halted, Formless}
use Rattle.smt_reader.specs.Parts.{form_token, goes_on, with_bytes, GoesOnTo, Turns, EndsSo}
use Rattle.smt_reader.proofs.WordBytes.{word_is_inner}
use Rattle.smt_reader.proofs.WordForms.{word_is}

other : (m n : ℕ) → (m ≡ n → ⊥) → eqb m n ≡ false
other m n e = grind (arith, common_steps)

-- Between tokens

pub blank_on : (b : ℕ) → is_blank b ≡ true → GoesOnTo Blank b Blank
unfolding goes_on lexeme
blank_on b h = record { is_part = λ start is. tt; rest = λ start content rest. rw h refl }

pub comment_begins : (b : ℕ) → b ≡ 59 → GoesOnTo Blank b Comment
unfolding goes_on lexeme
comment_begins b e = record { is_part = λ start is. tt; rest = λ start content rest. rw e refl }

pub enters : (b : ℕ) → b ≡ 40 → Turns Blank b Enters
unfolding goes_on lexeme
enters b e start content rest = rw e refl

pub leaves : (b : ℕ) → b ≡ 41 → Turns Blank b Leaves
unfolding goes_on lexeme
leaves b e start content rest = rw e refl

no_bytes : (q : Quotation) → with_bytes [] q ≡ q
no_bytes (closed more after) = refl
no_bytes (broken from) = refl
no_bytes unclosed = refl

pub text_begins : (b : ℕ) → b ≡ 34 → Turns Blank b (Begins InText)
unfolding goes_on lexeme
text_begins b e = (tt, λ start content rest. rw (e, no_bytes (text_rest rest)) refl)

pub quoted_begins : (b : ℕ) → b ≡ 124 → Turns Blank b (Begins Quoted)
unfolding goes_on lexeme
quoted_begins b e = (tt, λ start content rest. rw (e, no_bytes (quoted_rest rest)) refl)

module _ (b : ℕ) (rest : List ℕ) (h : is_word_byte b ≡ true) where
  one_more : 1 + prefix_len is_word_byte rest ≡ suc (prefix_len is_word_byte rest)
  one_more = omega arith

  word_taken : take (1 + prefix_len is_word_byte rest) (b ∷ rest) ≡ b ∷ take_while is_word_byte rest
  word_taken = rw one_more refl

  word_dropped : drop (1 + prefix_len is_word_byte rest) (b ∷ rest) ≡ drop (prefix_len is_word_byte rest) rest
  word_dropped = rw one_more refl

  word_front : take_while is_word_byte (b ∷ rest) ≡ b ∷ take_while is_word_byte rest
  word_front = rw h word_taken

  word_after : drop (prefix_len is_word_byte (b ∷ rest)) (b ∷ rest) ≡ drop (prefix_len is_word_byte rest) rest
  word_after = rw h word_dropped

  word_lexeme_is : lexeme (b ∷ rest) ≡ word_lexeme (b ∷ rest) (word_token (b ∷ take_while is_word_byte rest)) (drop (prefix_len is_word_byte rest) rest)
  unfolding lexeme
  word_lexeme_is =
      let inner = word_is_inner b h in
      rw (inner.blank, inner.semicolon, inner.enter, inner.leave, inner.quote, inner.bar, h)
      (ap (λ w. word_lexeme (b ∷ rest) (word_token w) (drop (1 + prefix_len is_word_byte rest) (b ∷ rest))) word_taken
      ∙ ap (λ a. word_lexeme (b ∷ rest) (word_token (b ∷ take_while is_word_byte rest)) a) word_dropped)

pub word_begins : (b : ℕ) (form : Form) → BeginsAs b (Some form) → Turns Blank b (Begins (Word form))
unfolding goes_on
word_begins b form is = (is.1, λ start content rest. word_lexeme_is b rest is.0)

pub blank_wrong : (b : ℕ) → is_blank b ≡ false → (b ≡ 59 → ⊥) → (b ≡ 40 → ⊥) → (b ≡ 41 → ⊥) → (b ≡ 34 → ⊥) → (b ≡ 124 → ⊥) → is_word_byte b ≡ false → Turns Blank b Wrong
unfolding goes_on lexeme
blank_wrong b h n59 n40 n41 n34 n124 w start content rest = rw (h, other b 59 n59, other b 40 n40, other b 41 n41, other b 34 n34, other b 124 n124, w) refl

-- Comments

pub comment_ends : (b : ℕ) → (b ≡ 10) ⊎ ((b ≡ 10 → ⊥) × (b ≡ 13)) → GoesOnTo Comment b Blank
unfolding goes_on comment_rest
comment_ends b (inl e) = record { is_part = λ start is. tt; rest = λ start content rest. rw e refl }
comment_ends b (inr (n, e)) = record { is_part = λ start is. tt; rest = λ start content rest. rw e refl }

pub comment_on : (b : ℕ) → (b ≡ 10 → ⊥) × (b ≡ 13 → ⊥) → GoesOnTo Comment b Comment
unfolding goes_on comment_rest
comment_on b (n, k) = record { is_part = λ start is. tt; rest = λ start content rest. rw (other b 10 n, other b 13 k) refl }

-- Words

module _ (form : Form) (b : ℕ) where
  word_cons : (start content rest : List ℕ) → is_word_byte b ≡ true
      → goes_on (Word form) start content (b ∷ rest)
      ≡ word_lexeme (start ++ b ∷ rest) (word_token (start ++ b ∷ take_while is_word_byte rest)) (drop (prefix_len is_word_byte rest) rest)
  unfolding goes_on
  word_cons start content rest h =
      ap (λ w. word_lexeme (start ++ b ∷ rest) (word_token (start ++ w)) (drop (prefix_len is_word_byte (b ∷ rest)) (b ∷ rest))) (word_front b rest h)
      ∙ ap (λ a. word_lexeme (start ++ b ∷ rest) (word_token (start ++ b ∷ take_while is_word_byte rest)) a) (word_after b rest h)

  word_stop : (start content rest : List ℕ) → is_word_byte b ≡ false → goes_on (Word form) start content (b ∷ rest) ≡ word_lexeme (start ++ b ∷ rest) (word_token start) (b ∷ rest)
  unfolding goes_on
  word_stop start content rest h = rw (h, append-nil start) refl

  pub word_on : (next : Form) → GoesTo form b (Some next) → GoesOnTo (Word form) b (Word next)
  unfolding goes_on
  word_on next goes = record {
    is_part = goes.1;
    rest = λ start content rest.
        word_cons start content rest goes.0
        ∙ rw (append_assoc start (b ∷ []) rest, append_assoc start (b ∷ []) (take_while is_word_byte rest)) refl;
  }

  pub word_breaks : is_word_byte b ≡ true → GoesTo form b None → Turns (Word form) b Malformed
  word_breaks h none start content rest is = word_cons start content rest h ∙ rw (none start (take_while is_word_byte rest) is) refl

  pub word_ends : is_word_byte b ≡ false → ((w : List ℕ) → true ≡ is_some (form_token form w)) → Turns (Word form) b Ends
  word_ends h some start content rest is = by_token (form_token form start) refl (some start) where
    by_token : (o : Option Token) → form_token form start ≡ o → true ≡ is_some o
        → (t : Token) × (form_token form start ≡ Some t) × (goes_on (Word form) start content (b ∷ rest) ≡ token (start ++ b ∷ rest) t (b ∷ rest))
    by_token None e no_token = cc
    by_token (Some t) e is_token = (t, e, word_stop start content rest h ∙ rw (word_is form start is, e) refl)

  pub word_is_none : is_word_byte b ≡ false → ((w : List ℕ) → false ≡ is_some (form_token form w)) → Turns (Word form) b Malformed
  word_is_none h none start content rest is = word_stop start content rest h ∙ rw (word_is form start is) (by_token (form_token form start) (none start)) where
    by_token : (o : Option Token) → false ≡ is_some o → word_lexeme (start ++ b ∷ rest) o (b ∷ rest) ≡ wrong (start ++ b ∷ rest)
    by_token None no_token = refl
    by_token (Some t) is_token = cc

-- Texts

with_one : (b : ℕ) (content : List ℕ) (q : Quotation) → with_bytes content (with_byte b q) ≡ with_bytes (content ++ b ∷ []) q
with_one b content (closed more after) = ap (λ c. closed c after) (sym (append_assoc content (b ∷ []) more))
with_one b content (broken from) = refl
with_one b content unclosed = refl

pub mark_begins : (b : ℕ) → b ≡ 34 → GoesOnTo InText b Mark
unfolding goes_on text_rest
mark_begins b e = record { is_part = λ start is. tt; rest = λ start content rest. rw (e, append_assoc start (34 ∷ []) rest) refl }

pub text_adds : (b : ℕ) → (b ≡ 34 → ⊥) → is_printable b ≡ true → Turns InText b (Adds InText)
unfolding goes_on text_rest
text_adds b n h = ((λ start is. tt), λ start content rest. rw (other b 34 n, h, with_one b content (text_rest rest), append_assoc start (b ∷ []) rest) refl)

pub text_wrong : (b : ℕ) → (b ≡ 34 → ⊥) → is_printable b ≡ false → Turns InText b Wrong
unfolding goes_on text_rest
text_wrong b n h start content rest = rw (other b 34 n, h) refl

pub mark_adds : (b : ℕ) → b ≡ 34 → Turns Mark b (Adds InText)
unfolding goes_on mark_rest
mark_adds b e = ((λ start is. tt), λ start content rest. rw (e, with_one 34 content (text_rest rest), append_assoc start (34 ∷ []) rest) refl)

pub mark_ends : (b : ℕ) → (b ≡ 34 → ⊥) → Turns Mark b Ends
unfolding goes_on mark_rest
mark_ends b n start content rest is = (Text content, refl, rw (other b 34 n, append-nil content) refl)

-- Quoted symbols

pub quoted_closes : (b : ℕ) → b ≡ 124 → Turns Quoted b Closes
unfolding goes_on quoted_rest
quoted_closes b e start content rest = (Symbol content, refl, rw (e, append-nil content) refl)

pub quoted_adds : (b : ℕ) → (b ≡ 124 → ⊥) → (b ≡ 92 → ⊥) → is_printable b ≡ true → Turns Quoted b (Adds Quoted)
unfolding goes_on quoted_rest
quoted_adds b n k h = ((λ start is. tt), λ start content rest. rw (other b 124 n, other b 92 k, h, with_one b content (quoted_rest rest), append_assoc start (b ∷ []) rest) refl)

pub quoted_backslash : (b : ℕ) → b ≡ 92 → Turns Quoted b Wrong
unfolding goes_on quoted_rest is_printable
quoted_backslash b e start content rest = rw e refl

pub quoted_wrong : (b : ℕ) → (b ≡ 124 → ⊥) → is_printable b ≡ false → Turns Quoted b Wrong
unfolding goes_on quoted_rest
quoted_wrong b n h start content rest = rw (other b 124 n, h) refl

-- The end of the input

pub blank_end : EndsSo Blank Bare
unfolding goes_on lexeme
blank_end start content = refl

pub comment_end : EndsSo Comment Bare
unfolding goes_on comment_rest
comment_end start content = refl

word_end : (form : Form) (start content : List ℕ) → goes_on (Word form) start content [] ≡ word_lexeme start (word_token start) []
unfolding goes_on
word_end form start content = rw (append-nil start) refl

pub word_end_token : (form : Form) → ((w : List ℕ) → true ≡ is_some (form_token form w)) → EndsSo (Word form) Whole
word_end_token form some start content is = by_token (form_token form start) refl (some start) where
  by_token : (o : Option Token) → form_token form start ≡ o → true ≡ is_some o
      → (t : Token) × (form_token form start ≡ Some t) × (goes_on (Word form) start content [] ≡ token start t [])
  by_token None e no_token = cc
  by_token (Some t) e is_token = (t, e, word_end form start content ∙ rw (word_is form start is, e) refl)

pub word_end_none : (form : Form) → ((w : List ℕ) → false ≡ is_some (form_token form w)) → EndsSo (Word form) Formless
word_end_none form none start content is = word_end form start content ∙ rw (word_is form start is) (by_token (form_token form start) (none start)) where
  by_token : (o : Option Token) → false ≡ is_some o → word_lexeme start o [] ≡ wrong start
  by_token None no_token = refl
  by_token (Some t) is_token = cc

pub text_end : EndsSo InText Halted
unfolding goes_on text_rest
text_end start content = rw (append-nil start) refl

pub mark_end : EndsSo Mark Whole
unfolding goes_on mark_rest
mark_end start content is = (Text content, refl, rw (append-nil start, append-nil content) refl)

pub quoted_end : EndsSo Quoted Halted
unfolding goes_on quoted_rest
quoted_end start content = rw (append-nil start) refl
