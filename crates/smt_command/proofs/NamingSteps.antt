-- Names in annotations, one step after another.
use Rattle.std.proofs.Common.{◌≡◌, ◌∙◌, ℕ, suc, ◌<◌, max, List, Bool, true, false, Option, Some, None, refl, ap, sym, subst, arith}
use Rattle.std.specs.Prelude.{codes, bytes_eq, if◌then◌else◌}
use Rattle.smt_meaning.specs.declared.tokens.Token.{Token}
use Rattle.smt_meaning.specs.declared.tokens.Token.TheVariants.{Enter, Leave, Numeral, Decimal, Hex, Binary, Text, Symbol, Reserved, Keyword}
use Rattle.smt_meaning.specs.declared.tokens.Word.TheVariants.{Exclamation}
use Rattle.smt_meaning.specs.Sexp.{Sexps, word, group, end, ◌▸◌, nested, deepest}
use Rattle.smt_meaning.specs.Command.{symbol}
use Rattle.smt_meaning.specs.Core.{first_named, or_else}
use Rattle.smt_command.specs.Arguments.{first_by, is_end, rest_of, token_in}
use Rattle.smt_command.specs.Namings.{annotated, count, name_of_first, depth_of_first}

-- ---- attributes

abbrev is_keyword : Option Token → Bool
is_keyword (Some (Keyword k)) = true
is_keyword _ = false

pub fewer : (ss : Sexps) → is_end ss ≡ false → count (rest_of ss) < count ss
fewer end h = cc
fewer (s ▸ ss) h = omega arith

rest_fewer : (ss : Sexps) → count (rest_of ss) < suc (count ss)
rest_fewer end = omega arith
rest_fewer (s ▸ ss) = omega arith

pub fewer_two : (ss : Sexps) → is_end ss ≡ false → count (rest_of (rest_of ss)) < count ss
fewer_two end h = cc
fewer_two (s ▸ ss) h = rest_fewer ss

pub no_keyword : (ss : Sexps) → is_end ss ≡ false → is_keyword (first_by token_in ss) ≡ false → first_named ss ≡ first_named (rest_of ss)
no_keyword end h k = cc
no_keyword (word (Keyword n) ▸ ss) h k = cc
no_keyword (group xs ▸ ss) h k = refl
no_keyword (word Enter ▸ ss) h k = refl
no_keyword (word Leave ▸ ss) h k = refl
no_keyword (word (Numeral cs) ▸ ss) h k = refl
no_keyword (word (Decimal cs) ▸ ss) h k = refl
no_keyword (word (Hex cs) ▸ ss) h k = refl
no_keyword (word (Binary cs) ▸ ss) h k = refl
no_keyword (word (Text cs) ▸ ss) h k = refl
no_keyword (word (Symbol n) ▸ ss) h k = refl
no_keyword (word (Reserved w) ▸ ss) h k = refl

keyword_alone : (k : List ℕ) (ss : Sexps) → None ≡ first_by symbol ss → first_named (word (Keyword k) ▸ ss) ≡ first_named ss
keyword_alone k end h = refl
keyword_alone k (group xs ▸ ss) h = refl
keyword_alone k (word (Symbol n) ▸ ss) h = cc
keyword_alone k (word Enter ▸ ss) h = refl
keyword_alone k (word Leave ▸ ss) h = refl
keyword_alone k (word (Numeral cs) ▸ ss) h = refl
keyword_alone k (word (Decimal cs) ▸ ss) h = refl
keyword_alone k (word (Hex cs) ▸ ss) h = refl
keyword_alone k (word (Binary cs) ▸ ss) h = refl
keyword_alone k (word (Text cs) ▸ ss) h = refl
keyword_alone k (word (Reserved w) ▸ ss) h = refl
keyword_alone k (word (Keyword n) ▸ ss) h = refl

pub no_symbol : (ss : Sexps) (k : List ℕ) → Some (Keyword k) ≡ first_by token_in ss → None ≡ first_by symbol (rest_of ss) → first_named ss ≡ first_named (rest_of ss)
no_symbol end k e h = cc
no_symbol (group xs ▸ ss) k e h = cc
no_symbol (word (Keyword n) ▸ ss) k e h = keyword_alone n ss h
no_symbol (word Enter ▸ ss) k e h = cc
no_symbol (word Leave ▸ ss) k e h = cc
no_symbol (word (Numeral cs) ▸ ss) k e h = cc
no_symbol (word (Decimal cs) ▸ ss) k e h = cc
no_symbol (word (Hex cs) ▸ ss) k e h = cc
no_symbol (word (Binary cs) ▸ ss) k e h = cc
no_symbol (word (Text cs) ▸ ss) k e h = cc
no_symbol (word (Symbol n) ▸ ss) k e h = cc
no_symbol (word (Reserved w) ▸ ss) k e h = cc

abbrev keyword_of : Option Token → List ℕ
keyword_of (Some (Keyword k)) = k
keyword_of _ = codes ""

abbrev name_in : Option (List ℕ) → List ℕ
name_in (Some n) = n
name_in None = codes ""

with_symbol : (k n : List ℕ) (ss : Sexps) → Some n ≡ first_by symbol ss → first_named (word (Keyword k) ▸ ss) ≡ (if bytes_eq k (codes "named") then Some n else first_named (rest_of ss))
with_symbol k n end h = cc
with_symbol k n (group xs ▸ ss) h = cc
with_symbol k n (word (Symbol m) ▸ ss) h = ap (λ o. if bytes_eq k (codes "named") then Some (name_in o) else first_named ss) (sym h)
with_symbol k n (word Enter ▸ ss) h = cc
with_symbol k n (word Leave ▸ ss) h = cc
with_symbol k n (word (Numeral cs) ▸ ss) h = cc
with_symbol k n (word (Decimal cs) ▸ ss) h = cc
with_symbol k n (word (Hex cs) ▸ ss) h = cc
with_symbol k n (word (Binary cs) ▸ ss) h = cc
with_symbol k n (word (Text cs) ▸ ss) h = cc
with_symbol k n (word (Reserved w) ▸ ss) h = cc
with_symbol k n (word (Keyword m) ▸ ss) h = cc

at_keyword : (ss : Sexps) (k n : List ℕ) → Some (Keyword k) ≡ first_by token_in ss → Some n ≡ first_by symbol (rest_of ss)
    → first_named ss ≡ (if bytes_eq k (codes "named") then Some n else first_named (rest_of (rest_of ss)))
at_keyword end k n e h = cc
at_keyword (group xs ▸ ss) k n e h = cc
at_keyword (word (Keyword m) ▸ ss) k n e h = with_symbol m n ss h ∙ ap (λ o. if bytes_eq (keyword_of o) (codes "named") then Some n else first_named (rest_of ss)) (sym e)
at_keyword (word Enter ▸ ss) k n e h = cc
at_keyword (word Leave ▸ ss) k n e h = cc
at_keyword (word (Numeral cs) ▸ ss) k n e h = cc
at_keyword (word (Decimal cs) ▸ ss) k n e h = cc
at_keyword (word (Hex cs) ▸ ss) k n e h = cc
at_keyword (word (Binary cs) ▸ ss) k n e h = cc
at_keyword (word (Text cs) ▸ ss) k n e h = cc
at_keyword (word (Symbol m) ▸ ss) k n e h = cc
at_keyword (word (Reserved w) ▸ ss) k n e h = cc

pub name_found : (ss : Sexps) (k n : List ℕ) → Some (Keyword k) ≡ first_by token_in ss → Some n ≡ first_by symbol (rest_of ss) → bytes_eq k (codes "named") ≡ true → first_named ss ≡ Some n
name_found ss k n e h b = at_keyword ss k n e h ∙ ap (λ b. if b then Some n else first_named (rest_of (rest_of ss))) b

pub other_keyword : (ss : Sexps) (k n : List ℕ) → Some (Keyword k) ≡ first_by token_in ss → Some n ≡ first_by symbol (rest_of ss) → bytes_eq k (codes "named") ≡ false
    → first_named ss ≡ first_named (rest_of (rest_of ss))
other_keyword ss k n e h b = at_keyword ss k n e h ∙ ap (λ b. if b then Some n else first_named (rest_of (rest_of ss))) b

-- ---- annotations

or_else_over : (a b c : Option (List ℕ)) → or_else (or_else a b) c ≡ or_else a (or_else b c)
or_else_over None b c = refl
or_else_over (Some n) b c = refl

pub or_none : (o : Option (List ℕ)) → or_else o None ≡ o
or_none None = refl
or_none (Some n) = refl

abbrev inner_of : Option Sexps → Sexps
inner_of (Some ss) = ss
inner_of None = end

below : (a b : ℕ) → a < suc (max 0 (max a b))
below a b = omega arith

pub goes_inside : (ss inner : Sexps) → Some inner ≡ first_by annotated ss → name_of_first ss ≡ or_else (name_of_first inner) (first_named (rest_of inner))
goes_inside end inner h = cc
goes_inside (group (word (Reserved Exclamation) ▸ t ▸ rest) ▸ ss) inner h = ap (λ o. or_else (name_of_first (inner_of o)) (first_named (rest_of (inner_of o)))) (sym h)
goes_inside (_ ▸ ss) inner h = cc

pub goes_deeper : (ss inner : Sexps) → Some inner ≡ first_by annotated ss → depth_of_first inner < depth_of_first ss
goes_deeper end inner h = cc
goes_deeper (group (word (Reserved Exclamation) ▸ t ▸ rest) ▸ ss) inner h =
    subst (λ o. depth_of_first (inner_of o) < suc (max 0 (max (nested t) (deepest rest)))) (sym h) (below (nested t) (deepest rest))
goes_deeper (_ ▸ ss) inner h = cc

pub not_annotated : (ss : Sexps) → None ≡ first_by annotated ss → name_of_first ss ≡ None
not_annotated end h = refl
not_annotated (group (word (Reserved Exclamation) ▸ t ▸ rest) ▸ ss) h = cc
not_annotated (_ ▸ ss) h = refl

-- one annotation further in
pub next_found : (ss inner : Sexps) (b c w : Option (List ℕ)) → Some inner ≡ first_by annotated ss → or_else (name_of_first ss) c ≡ w → b ≡ first_named (rest_of inner)
    → or_else (name_of_first inner) (or_else b c) ≡ w
next_found ss inner b c w h e g =
    ap (λ o. or_else (name_of_first inner) (or_else o c)) g ∙ sym (or_else_over (name_of_first inner) (first_named (rest_of inner)) c) ∙ ap (λ o. or_else o c) (sym (goes_inside ss inner h)) ∙ e

pub none_further : (ss : Sexps) (c w : Option (List ℕ)) → None ≡ first_by annotated ss → or_else (name_of_first ss) c ≡ w → c ≡ w
none_further ss c w h e = ap (λ o. or_else o c) (sym (not_annotated ss h)) ∙ e
