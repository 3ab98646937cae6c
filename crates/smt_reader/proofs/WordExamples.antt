-- Lexemes of written-out bytes, as the standard has them (SMT-LIB 2.6, section 3.1).
use Rattle.std.proofs.Common.{◌≡◌, ℕ, List, [], ◌∷◌, ◌++◌, refl, codes}
use Rattle.smt_meaning.specs.Reading.{is_symbol_byte, is_word_byte, is_printable, token, wrong, unended, nothing, lexeme, word_token, text_rest, quoted_rest}
use Rattle.smt_meaning.specs.declared.tokens.Token.{Token}
use Rattle.smt_meaning.specs.declared.tokens.Token.TheVariants.{Enter, Leave, Numeral, Decimal, Hex, Binary, Text, Symbol, Reserved, Keyword}
use Rattle.smt_meaning.specs.declared.tokens.Word.TheVariants.{Let}

-- the bytes are this token, and then these
abbrev IsToken : List ℕ → Token → List ℕ → Type 0
IsToken bytes t after = lexeme bytes ≡ token bytes t after

-- the bytes can't be read, from the first on
abbrev IsWrong : List ℕ → Type 0
IsWrong bytes = lexeme bytes ≡ wrong bytes

numbers : IsToken (codes "0") (Numeral (codes "0")) []
    × IsToken (codes "42)") (Numeral (codes "42")) (codes ")")
    × IsToken (codes "0.010 ") (Decimal (codes "0.010")) (codes " ")
    × IsToken (codes "#xA04f(") (Hex (codes "#xA04f")) (codes "(")
    × IsToken (codes "#b01;") (Binary (codes "#b01")) (codes ";")
unfolding lexeme word_token is_word_byte is_symbol_byte
numbers = (refl, refl, refl, refl, refl)

symbols : IsToken (codes "*$s&6 ") (Symbol (codes "*$s&6")) (codes " ")
    × IsToken (codes ".8") (Symbol (codes ".8")) []
    × IsToken (codes "-32") (Symbol (codes "-32")) []
    × IsToken (codes "let ") (Reserved Let) (codes " ")
    × IsToken (codes "lets") (Symbol (codes "lets")) []
    × IsToken (codes "|let|") (Symbol (codes "let")) []
    × IsToken (codes "||a") (Symbol []) (codes "a")
    × IsToken (codes "|a ;(|)") (Symbol (codes "a ;(")) (codes ")")
unfolding lexeme word_token is_word_byte is_symbol_byte quoted_rest is_printable
symbols = (refl, refl, refl, refl, refl, refl, refl, refl)

keywords : IsToken (codes ":foo-bar)") (Keyword (codes "foo-bar")) (codes ")")
    × IsToken (codes ":<=") (Keyword (codes "<=")) []
    × IsToken (codes ":42") (Keyword (codes "42")) []
unfolding lexeme word_token is_word_byte is_symbol_byte
keywords = (refl, refl, refl)

-- 34 is the quotation mark
texts : IsToken (34 ∷ 34 ∷ []) (Text []) []
    × IsToken (34 ∷ codes "a" ++ 34 ∷ 34 ∷ codes "b" ++ 34 ∷ codes ")") (Text (codes "a" ++ 34 ∷ codes "b")) (codes ")")
    × (lexeme (34 ∷ codes "a" ++ 34 ∷ 34 ∷ []) ≡ unended (34 ∷ codes "a" ++ 34 ∷ 34 ∷ []))
    × (lexeme (34 ∷ codes "a" ++ 7 ∷ 34 ∷ []) ≡ wrong (7 ∷ 34 ∷ []))
unfolding lexeme text_rest is_printable
texts = (refl, refl, refl, refl)

blanks : (lexeme (32 ∷ 9 ∷ 13 ∷ 10 ∷ codes "(a") ≡ token (codes "(a") Enter (codes "a"))
    × (lexeme (codes " )") ≡ token (codes ")") Leave [])
    × (lexeme (codes "; x" ++ 10 ∷ codes "0") ≡ token (codes "0") (Numeral (codes "0")) [])
    × (lexeme (codes " ; x") ≡ nothing)
unfolding lexeme word_token is_word_byte is_symbol_byte
blanks = (refl, refl, refl, refl)

-- 92 is the backslash
wrongs : IsWrong (codes "00")
    × IsWrong (codes "1a")
    × IsWrong (codes "1.")
    × IsWrong (codes "1.5.2")
    × IsWrong (codes "#")
    × IsWrong (codes "#xg")
    × IsWrong (codes "#b2")
    × IsWrong (codes ":")
    × IsWrong (codes "a:b")
    × IsWrong (codes "'")
    × (lexeme (codes "|a" ++ 92 ∷ codes "|") ≡ wrong (92 ∷ codes "|"))
    × (lexeme (codes "|a") ≡ unended (codes "|a"))
unfolding lexeme word_token is_word_byte is_symbol_byte quoted_rest is_printable
wrongs = (refl, refl, refl, refl, refl, refl, refl, refl, refl, refl, refl, refl)
