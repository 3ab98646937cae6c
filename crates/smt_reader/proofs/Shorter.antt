-- A token takes bytes.
use Rattle.std.proofs.Common.{◌≡◌, ◌<◌, ◌≤◌, ℕ, Bool, true, false, cond, not, ◌&&◌, ◌||◌, List, [], ◌∷◌, length, drop, suc, arith, refl, subst, eqb, Option, Some, None, length-drop}
use Rattle.std.specs.Prelude.{⊤}
use Rattle.std.specs.List.{prefix_len}
use Rattle.smt_meaning.specs.Reading.{Lexeme, token, wrong, unended, nothing, lexeme, comment_rest, word_lexeme, Quotation, closed, broken, unclosed, with_byte, text_rest, mark_rest, quoted_rest, text_lexeme, quoted_lexeme, is_blank, is_printable, is_word_byte}
use Rattle.smt_meaning.specs.declared.tokens.Token.{Token}

-- what comes after the token is shorter, and a wrong byte stands within so many bytes
abbrev pub IsShorter : ℕ → Lexeme → Type 0
IsShorter n (token start t after) = length after < n
IsShorter n (wrong from) = length from ≤ n
IsShorter n (unended start) = ⊤
IsShorter n nothing = ⊤

abbrev IsWithin : ℕ → Quotation → Type 0
IsWithin n (closed content after) = length after ≤ n
IsWithin n (broken from) = length from ≤ n
IsWithin n unclosed = ⊤

IsShorter-suc : (n : ℕ) (l : Lexeme) → IsShorter n l → IsShorter (suc n) l
IsShorter-suc n (token start t after) h = omega arith
IsShorter-suc n (wrong from) h = omega arith
IsShorter-suc n (unended start) h = tt
IsShorter-suc n nothing h = tt

IsWithin-suc : (n b : ℕ) (q : Quotation) → IsWithin n q → IsWithin (suc n) (with_byte b q)
IsWithin-suc n b (closed content after) h = omega arith
IsWithin-suc n b (broken from) h = omega arith
IsWithin-suc n b unclosed h = tt

IsWithin-more : (n : ℕ) (q : Quotation) → IsWithin n q → IsWithin (suc n) q
IsWithin-more n (closed content after) h = omega arith
IsWithin-more n (broken from) h = omega arith
IsWithin-more n unclosed h = tt

by_test : {A : Type 0} (P : A → Type 0) (b : Bool) (x y : A) → (b ≡ true → P x) → (b ≡ false → P y) → P (cond b x y)
by_test P true x y f g = f refl
by_test P false x y f g = g refl

text_within : (bs : List ℕ) → IsWithin (length bs) (text_rest bs) × IsWithin (length bs) (mark_rest bs)
unfolding text_rest mark_rest
text_within [] = (tt, omega arith)
text_within (b ∷ bs) =
    let again = text_within bs in (
      by_test (IsWithin (suc (length bs))) (eqb b 34) _ _ (λ e. IsWithin-more (length bs) (mark_rest bs) again.1)
          (λ e. by_test (IsWithin (suc (length bs))) (is_printable b) _ _ (λ f. IsWithin-suc (length bs) b (text_rest bs) again.0) (λ f. omega arith)),
      by_test (IsWithin (suc (length bs))) (eqb b 34) _ _ (λ e. IsWithin-suc (length bs) 34 (text_rest bs) again.0) (λ e. omega arith),
    )

quoted_within : (bs : List ℕ) → IsWithin (length bs) (quoted_rest bs)
unfolding quoted_rest
quoted_within [] = tt
quoted_within (b ∷ bs) =
    by_test (IsWithin (suc (length bs))) (eqb b 124) _ _ (λ e. omega arith)
    (λ e. by_test (IsWithin (suc (length bs))) (is_printable b && not (eqb b 92)) (with_byte b (quoted_rest bs)) (broken (b ∷ bs)) (λ f. IsWithin-suc (length bs) b (quoted_rest bs) (quoted_within bs)) (λ f. omega arith))

text_shorter : (n : ℕ) (start : List ℕ) (q : Quotation) → IsWithin n q → IsShorter (suc n) (text_lexeme start q)
text_shorter n start (closed content after) h = omega arith
text_shorter n start (broken from) h = omega arith
text_shorter n start unclosed h = tt

quoted_shorter : (n : ℕ) (start : List ℕ) (q : Quotation) → IsWithin n q → IsShorter (suc n) (quoted_lexeme start q)
quoted_shorter n start (closed content after) h = omega arith
quoted_shorter n start (broken from) h = omega arith
quoted_shorter n start unclosed h = tt

word_shorter : (n : ℕ) (start after : List ℕ) (t : Option Token) → length after < n → length start ≤ n → IsShorter n (word_lexeme start t after)
word_shorter n start after (Some t) h k = h
word_shorter n start after None h k = k

word_takes : (p : ℕ → Bool) (b : ℕ) (bs : List ℕ) → p b ≡ true → length (drop (prefix_len p (b ∷ bs)) (b ∷ bs)) < suc (length bs)
word_takes p b bs e = grind (arith, e, length-drop (prefix_len p (b ∷ bs)) (b ∷ bs))

lexeme_and_comment : (bytes : List ℕ) → IsShorter (length bytes) (lexeme bytes) × IsShorter (length bytes) (comment_rest bytes)
unfolding lexeme comment_rest
lexeme_and_comment [] = (tt, tt)
lexeme_and_comment (b ∷ bs) =
    let again = lexeme_and_comment bs in
    let n = length bs in
    let P = λ (l : Lexeme). IsShorter (suc n) l in (
      by_test P (is_blank b) _ _ (λ e. IsShorter-suc n (lexeme bs) again.0)
          (λ e. by_test P (eqb b 59) _ _ (λ e. IsShorter-suc n (comment_rest bs) again.1)
          (λ e. by_test P (eqb b 40) _ _ (λ e. omega arith)
          (λ e. by_test P (eqb b 41) _ _ (λ e. omega arith)
          (λ e. by_test P (eqb b 34) _ _ (λ e. text_shorter n (b ∷ bs) (text_rest bs) (text_within bs).0)
          (λ e. by_test P (eqb b 124) _ _ (λ e. quoted_shorter n (b ∷ bs) (quoted_rest bs) (quoted_within bs))
          (λ e. by_test P (is_word_byte b) _ _ (λ e. word_shorter (suc n) (b ∷ bs) _ _ (word_takes is_word_byte b bs e) (omega arith)) (λ e. omega arith))))))),
      by_test P (eqb b 10 || eqb b 13) (lexeme bs) (comment_rest bs) (λ e. IsShorter-suc n (lexeme bs) again.0) (λ e. IsShorter-suc n (comment_rest bs) again.1),
    )

pub token_shorter : (bytes start after : List ℕ) (t : Token) → lexeme bytes ≡ token start t after → length after < length bytes
token_shorter bytes start after t e = subst (IsShorter (length bytes)) e (lexeme_and_comment bytes).0

pub wrong_within : (bytes from : List ℕ) → lexeme bytes ≡ wrong from → length from ≤ length bytes
wrong_within bytes from e = subst (IsShorter (length bytes)) e (lexeme_and_comment bytes).0
