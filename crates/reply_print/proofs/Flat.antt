-- The text of an s-expression is that of its tokens, one after another.
use Rattle.std.proofs.Common.{◌≡◌, ℕ, true, false, Bool, not, List, [], ◌∷◌, ◌++◌, refl, sym, ap, ◌∙◌, append_assoc, append-nil, subst, ◌&&◌, if◌then◌else◌, length, drop, ◌≤◌, map}
use Rattle.std.proofs.lemmas.List.{drop_all}
use Rattle.smt_meaning.specs.declared.tokens.Token.{Token}
use Rattle.smt_meaning.specs.declared.tokens.Token.TheVariants.{Enter, Leave, Numeral, Decimal, Hex, Binary, Text, Symbol, Reserved, Keyword}
use Rattle.smt_meaning.specs.Sexp.{Sexp, Sexps, word, group, end, ◌▸◌, before, open_lists_of, sexp, IsSexp}
use Rattle.smt_meaning.specs.Text.{token_text, tokens_text, sexp_text, texts, spaced}
use Rattle.reply_print.specs.Pieces.{is_enter, flat_text, space_before, space_unless, rest_of_list}

-- a list's parts with a space between neighbours
pub spaced_is : (t : List ℕ) (ts : List (List ℕ)) → t ++ rest_of_list false ts ≡ spaced (t ∷ ts)
spaced_is t [] = append-nil t
spaced_is t (u ∷ us) = ap (λ x. t ++ 32 ∷ x) (spaced_is u us)

pub all_spaced : (ts : List (List ℕ)) → rest_of_list true ts ≡ spaced ts
all_spaced [] = refl
all_spaced (t ∷ ts) = spaced_is t ts

-- the text of what stands behind a place in open lists, the innermost list first
abbrev open_text : Bool → List Sexps → List ℕ
open_text first [] = []
open_text first (x ∷ []) = rest_of_list first (texts x)
open_text first (x ∷ y ∷ rest) = rest_of_list first (texts x) ++ 41 ∷ open_text false (y ∷ rest)

-- some list is open
abbrev IsOpen : List Sexps → Type 0
IsOpen [] = ⊥
IsOpen (x ∷ rest) = Unit {0}

open_before : (t : Token) (lists : List Sexps) → IsOpen (before t lists) → IsOpen lists
open_before t [] h = h
open_before t (x ∷ rest) h = tt

-- one more part at the front of the innermost list
one_more : (first : Bool) (s : Sexp) (x : Sexps) (rest : List Sexps)
    → open_text first ((s ▸ x) ∷ rest) ≡ space_unless first ++ (sexp_text s ++ open_text false (x ∷ rest))
one_more first s x [] = append_assoc (space_unless first) (sexp_text s) (rest_of_list false (texts x))
one_more first s x (y ∷ rest) =
    append_assoc (space_unless first ++ sexp_text s) (rest_of_list false (texts x)) (41 ∷ open_text false (y ∷ rest))
    ∙ append_assoc (space_unless first) (sexp_text s) (rest_of_list false (texts x) ++ 41 ∷ open_text false (y ∷ rest))

spaces : (first : Bool) → (if not first && true then 32 ∷ [] else []) ≡ space_unless first
spaces true = refl
spaces false = refl

no_space : (gap : Bool) → space_before gap Leave ≡ []
no_space true = refl
no_space false = refl

word_step : (first : Bool) (t : Token) (x : Sexps) (rest : List Sexps) → space_before (not first) t ≡ space_unless first
    → space_before (not first) t ++ token_text t ++ open_text false (x ∷ rest) ≡ open_text first ((word t ▸ x) ∷ rest)
word_step first t x rest e =
    ap (λ s. s ++ token_text t ++ open_text false (x ∷ rest)) e
    ∙ append_assoc (space_unless first) (token_text t) (open_text false (x ∷ rest))
    ∙ sym (one_more first (word t) x rest)

leave_step : (first : Bool) (x : Sexps) (rest : List Sexps)
    → space_before (not first) Leave ++ 41 ∷ [] ++ open_text false (x ∷ rest) ≡ open_text first (end ∷ x ∷ rest)
leave_step first x rest = ap (λ s. s ++ 41 ∷ [] ++ open_text false (x ∷ rest)) (no_space (not first))

group_text : (x : Sexps) (after : List ℕ) → 40 ∷ (rest_of_list true (texts x) ++ 41 ∷ after) ≡ sexp_text (group x) ++ after
group_text x after =
    ap (λ s. 40 ∷ (s ++ 41 ∷ after)) (all_spaced (texts x)) ∙ ap (λ s. 40 ∷ s) (sym (append_assoc (spaced (texts x)) (41 ∷ []) after))

enter_step : (first : Bool) (x y : Sexps) (rest : List Sexps)
    → space_before (not first) Enter ++ 40 ∷ [] ++ open_text true (x ∷ y ∷ rest) ≡ open_text first ((group x ▸ y) ∷ rest)
enter_step first x y rest =
    ap (λ s. s ++ 40 ∷ [] ++ open_text true (x ∷ y ∷ rest)) (spaces first)
    ∙ append_assoc (space_unless first) (40 ∷ []) (open_text true (x ∷ y ∷ rest))
    ∙ ap (λ s. space_unless first ++ s) (group_text x (open_text false (y ∷ rest)))
    ∙ sym (one_more first (group x) y rest)

-- one token before the others
token_step : (first : Bool) (t : Token) (lists : List Sexps) → IsOpen (before t lists)
    → space_before (not first) t ++ token_text t ++ open_text (is_enter t) lists ≡ open_text first (before t lists)
token_step first t [] h = absurd h
token_step first Leave (x ∷ rest) h = leave_step first x rest
token_step first Enter (x ∷ []) h = absurd h
token_step first Enter (x ∷ y ∷ rest) h = enter_step first x y rest
token_step first (Numeral cs) (x ∷ rest) h = word_step first (Numeral cs) x rest (spaces first)
token_step first (Decimal cs) (x ∷ rest) h = word_step first (Decimal cs) x rest (spaces first)
token_step first (Hex cs) (x ∷ rest) h = word_step first (Hex cs) x rest (spaces first)
token_step first (Binary cs) (x ∷ rest) h = word_step first (Binary cs) x rest (spaces first)
token_step first (Text cs) (x ∷ rest) h = word_step first (Text cs) x rest (spaces first)
token_step first (Symbol n) (x ∷ rest) h = word_step first (Symbol n) x rest (spaces first)
token_step first (Reserved w) (x ∷ rest) h = word_step first (Reserved w) x rest (spaces first)
token_step first (Keyword k) (x ∷ rest) h = word_step first (Keyword k) x rest (spaces first)

-- the text of tokens is that of the lists that they leave open
flat_open : (first : Bool) (ts : List Token) → IsOpen (open_lists_of ts) → flat_text (not first) ts ≡ open_text first (open_lists_of ts)
flat_open true [] h = refl
flat_open false [] h = refl
flat_open first (t ∷ ts) h =
    ap (λ s. space_before (not first) t ++ token_text t ++ s) (flat_open (is_enter t) ts (open_before t (open_lists_of ts) h))
    ∙ token_step first t (open_lists_of ts) h

pub flat_is : (ts : List Token) → IsSexp ts → flat_text false ts ≡ tokens_text ts
flat_is ts h =
    flat_open true ts (subst IsOpen (sym h) tt) ∙ ap (open_text true) h ∙ append-nil (sexp_text (sexp ts))

-- where no token is left, the text is that of the s-expression
pub all_told : (out start : List ℕ) (gap : Bool) (ts : List Token) (place : ℕ) → length ts ≤ place → IsSexp ts
    → out ++ flat_text gap (drop place ts) ≡ start ++ flat_text false ts → out ≡ start ++ tokens_text ts
all_told out start gap ts place le h e =
    sym (append-nil out) ∙ ap (λ us. out ++ flat_text gap us) (sym (drop_all place ts le)) ∙ e ∙ ap (λ s. start ++ s) (flat_is ts h)

-- where no part of a list is left
pub all_parts : {X : Type 0} (text_of : X → List ℕ) (out start : List ℕ) (first : Bool) (xs : List X) (k : ℕ) → length xs ≤ k
    → out ++ rest_of_list first (map text_of (drop k xs)) ≡ start ++ rest_of_list true (map text_of xs)
    → out ≡ start ++ spaced (map text_of xs)
all_parts text_of out start first xs k h e =
    sym (append-nil out)
    ∙ ap (λ s. out ++ rest_of_list first (map text_of s)) (sym (drop_all k xs h))
    ∙ e ∙ ap (λ s. start ++ s) (all_spaced (map text_of xs))
