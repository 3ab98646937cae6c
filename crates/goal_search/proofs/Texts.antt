-- What the texts of what is asked of a term read as.
use Rattle.std.proofs.Common.{◌≡◌, ◌∙◌, refl, ap, ap₂, sym, subst, ℕ, ◌+◌, ◌-◌, ◌*◌, ◌/◌, ◌%◌, ◌^◌, ◌<◌, ◌≤◌, ℤ, pos, negsuc, true, ◌&&◌, List, [], ◌∷◌, ◌++◌, append-nil, arith}
use Rattle.std.specs.Prelude.{codes}
use Rattle.std.specs.Fmt.{decimal}
use Rattle.std.proofs.lemmas.Fmt.{decimal_by_steps_wide}
use Rattle.smt_meaning.specs.declared.tokens.Token.{Token}
use Rattle.smt_meaning.specs.declared.tokens.Token.TheVariants.{Enter, Leave, Numeral, Symbol}
use Rattle.smt_meaning.specs.Reading.{IsSExpr, IsInner, most_open}
use Rattle.smt_meaning.specs.Sexp.{Sexp, word, group, end, ◌▸◌, tokens, sexp, is_proper, nested}
use Rattle.smt_meaning.specs.Sorts.{decimal_from}
use Rattle.smt_meaning.specs.Goal.{number_text, pair_text}
use Rattle.smt_laws.specs.TermLaws.{TokensReadBack, SExprsReadBack, SexpsAreSExprs}

-- ---- numbers

digits_more : (n : ℕ) (ds : List ℕ) (d : ℕ) → decimal_from n (ds ++ d ∷ []) ≡ 10 * decimal_from n ds + (d - 48)
digits_more n [] d = refl
digits_more n (c ∷ cs) d = digits_more (10 * n + (c - 48)) cs d

-- the digits of a number read back as it
pub digits_read : (n : ℕ) → n < 2 ^ 127 → decimal_from 0 (decimal n) ≡ n
digits_read n small = decimal_by_steps_wide (λ m ds. decimal_from 0 ds ≡ m) one step n (omega arith)
  where
    one : (m : ℕ) → m < 10 → decimal_from 0 ((48 + m) ∷ []) ≡ m
    one m h = omega arith

    step : (m : ℕ) (ds : List ℕ) → 10 ≤ m → decimal_from 0 ds ≡ m / 10 → decimal_from 0 (ds ++ ((48 + m % 10) ∷ [])) ≡ m
    step m ds h e = omega (arith, digits_more 0 ds (48 + m % 10), e)

abbrev pub number_sexp : ℤ → Sexp
number_sexp (pos n) = word (Numeral (decimal n))
number_sexp (negsuc n) = group (word (Symbol (codes "-")) ▸ word (Numeral (decimal (n + 1))) ▸ end)

pub number_tokens : (k : ℤ) → tokens (number_sexp k) ≡ number_text k
number_tokens (pos n) = refl
number_tokens (negsuc n) = refl

pub number_proper : (k : ℤ) → is_proper (number_sexp k) ≡ true
number_proper (pos n) = refl
number_proper (negsuc n) = refl

number_flat : (k : ℤ) → nested (number_sexp k) ≤ 1
number_flat (pos n) = omega arith
number_flat (negsuc n) = omega arith

-- ---- pairs

abbrev pub pair_sexp : List ℕ → Sexp → Sexp → Sexp
pair_sexp o x y = group (word (Symbol o) ▸ x ▸ y ▸ end)

pair_tokens : (o : List ℕ) (x y : Sexp) → tokens (pair_sexp o x y) ≡ pair_text o (tokens x) (tokens y)
pair_tokens o x y = ap (λ (ts : List Token). Enter ∷ Symbol o ∷ (tokens x ++ ts ++ Leave ∷ [])) (append-nil (tokens y))

pair_proper : (o : List ℕ) (x y : Sexp) → is_proper x ≡ true → is_proper y ≡ true → is_proper (pair_sexp o x y) ≡ true
pair_proper o x y p q = ap₂ (λ a b. a && (b && true)) p q

pub pair_reads : TokensReadBack → (o : List ℕ) (x y : Sexp) → is_proper x ≡ true → is_proper y ≡ true → sexp (pair_text o (tokens x) (tokens y)) ≡ pair_sexp o x y
pair_reads back o x y p q = ap sexp (sym (pair_tokens o x y)) ∙ (back (pair_sexp o x y) (pair_proper o x y p q)).1

-- ---- that they are s-expressions

pair_is : SexpsAreSExprs → (o : List ℕ) (x y : Sexp) → is_proper x ≡ true → is_proper y ≡ true → nested x + 1 ≤ most_open → nested y + 1 ≤ most_open
    → IsSExpr (pair_text o (tokens x) (tokens y))
pair_is is o x y p q l m = subst IsSExpr (pair_tokens o x y) (is (pair_sexp o x y) (pair_proper o x y p q) (omega arith))

module _ (back : TokensReadBack) (read : SExprsReadBack) (is : SexpsAreSExprs) (t : List Token) (written : IsSExpr t) (inner : IsInner t) where
  again : tokens (sexp t) ≡ t
  again = (read t written).1

  proper : is_proper (sexp t) ≡ true
  proper = (read t written).2

  alone : sexp (Enter ∷ (t ++ Leave ∷ [])) ≡ group (sexp t ▸ end)
  alone =
      ap sexp (sym (ap (λ (ts : List Token). Enter ∷ (ts ++ Leave ∷ [])) (append-nil (tokens (sexp t)) ∙ again)))
      ∙ (back (group (sexp t ▸ end)) (ap (λ a. a && true) proper)).1

  room : nested (sexp t) + 1 ≤ most_open
  room =
      let n : nested (group (sexp t ▸ end)) ≤ most_open = subst (λ x. nested x ≤ most_open) alone (read (Enter ∷ (t ++ Leave ∷ [])) inner).3 in
      omega (arith, n)

  -- (= t t)
  pub itself_is : IsSExpr (pair_text (codes "=") t t)
  itself_is = subst (λ u. IsSExpr (pair_text (codes "=") u u)) again (pair_is is (codes "=") (sexp t) (sexp t) proper proper room room)

  -- t and a number
  pub compared_is : (o : List ℕ) (k : ℤ) → IsSExpr (pair_text o t (number_text k))
  compared_is o k =
      subst (λ u. IsSExpr (pair_text o u (number_text k))) again
      (subst (λ u. IsSExpr (pair_text o (tokens (sexp t)) u)) (number_tokens k)
      (pair_is is o (sexp t) (number_sexp k) proper (number_proper k) room (omega (arith, number_flat k))))
