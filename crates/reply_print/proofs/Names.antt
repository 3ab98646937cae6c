-- Names that may stand without bars.
use Rattle.std.proofs.Common.{◌≡◌, ℕ, ◌<◌, ◌&&◌, ◌||◌, true, false, Bool, not, List, [], ◌∷◌, ◌++◌, map, refl, ap, ◌∙◌, arith, get_or, length, if◌then◌else◌, Some}
use Rattle.std.specs.List.{list_all}
use Rattle.std.specs.Str.{bytes_eq}
use Rattle.smt_meaning.specs.declared.tokens.Word.{Word}
use Rattle.smt_meaning.specs.declared.tokens.Word.TheVariants.{Exclamation, Underscore, As, Let, Exists, Forall, Match, Par}
use Rattle.smt_meaning.specs.Reading.{is_digit, is_symbol_byte, is_simple_symbol, spelling, spelled_in, reserved_word}
use Rattle.smt_meaning.specs.Signature.{is_one_of, is_some}
use Rattle.smt_meaning.specs.Text.{is_plain, further_reserved_words}
use Rattle.reply_print.specs.Pieces.{term_words, constant_words, solver_words, stack_words, left_out_words}

-- a name is a simple symbol where it begins with no digit and has symbol bytes alone
pub simple_is : (name : List ℕ) → 0 < length name
    → is_simple_symbol name ≡ not (is_digit (get_or name 0 0)) && list_all is_symbol_byte name
simple_is [] h = absurd (omega arith)
simple_is (b ∷ bs) h = refl

spelled : (rs : List Word) (w : List ℕ) → is_some (spelled_in rs w) ≡ is_one_of w (map spelling rs)
spelled [] w = refl
spelled (r ∷ rs) w =
    elim (bytes_eq w (spelling r)) as (λ b. is_some (if b then Some r else spelled_in rs w) ≡ (if b then true else is_one_of w (map spelling rs)))
    [ true ↦ refl | false ↦ spelled rs w ]

-- a word is reserved for terms where it is one of these
pub reserved_is : (w : List ℕ) → is_some (reserved_word w) ≡ is_one_of w term_words
reserved_is w = spelled (Exclamation ∷ Underscore ∷ As ∷ Let ∷ Exists ∷ Forall ∷ Match ∷ Par ∷ []) w

both : (a b c : Bool) → a && not (b || c) ≡ a && not b && not c
both true true c = refl
both true false c = refl
both false b c = refl

-- a name is plain where it is a simple symbol and no reserved word
pub plain_is : (n : List ℕ)
    → is_plain n ≡ is_simple_symbol n && not (is_one_of n term_words) && not (is_one_of n further_reserved_words)
plain_is n = ap (λ b. is_simple_symbol n && not b && not (is_one_of n further_reserved_words)) (reserved_is n)

among_append : (n : List ℕ) (xs ys : List (List ℕ)) → is_one_of n (xs ++ ys) ≡ (is_one_of n xs || is_one_of n ys)
among_append n [] ys = refl
among_append n (x ∷ xs) ys =
    elim (bytes_eq n x) as (λ b. (if b then true else is_one_of n (xs ++ ys)) ≡ ((if b then true else is_one_of n xs) || is_one_of n ys))
    [ true ↦ refl | false ↦ among_append n xs ys ]

-- the further reserved words, by groups
pub further_is : (n : List ℕ)
    → is_one_of n further_reserved_words
    ≡ (is_one_of n constant_words || (is_one_of n solver_words || (is_one_of n stack_words || is_one_of n left_out_words)))
further_is n =
    among_append n constant_words (solver_words ++ (stack_words ++ left_out_words))
    ∙ ap (λ b. is_one_of n constant_words || b) (among_append n solver_words (stack_words ++ left_out_words)
    ∙ ap (λ b. is_one_of n solver_words || b) (among_append n stack_words left_out_words))
