-- The lists that are open at a place of an s-expression's tokens.
use Rattle.std.proofs.Common.{◌≡◌, ℕ, zero, suc, ◌+◌, ◌-◌, ◌≤◌, ◌<◌, List, [], ◌∷◌, drop, length, sym, ap, subst, refl, arith, true, false, not}
use Rattle.smt_meaning.specs.declared.tokens.Token.{Token}
use Rattle.smt_meaning.specs.declared.tokens.Token.TheVariants.{Enter, Leave, Numeral, Decimal, Hex, Binary, Text, Symbol, Reserved, Keyword}
use Rattle.smt_meaning.specs.Reading.{IsSExpr, most_open}
use Rattle.smt_meaning.specs.Sexp.{Sexps, word, group, end, ◌▸◌, before, open_lists_of, sexp, is_parenthesis, is_proper, are_proper, deepest}
use Rattle.smt_laws.proofs.Both.{and_left, and_right, and_both}
use Rattle.smt_laws.proofs.SExprLaw.{IsSome, some_before, read_back}
use Rattle.smt_command.specs.Arguments.{innermost, depth_behind}

-- ---- each open list may stand in an s-expression

abbrev pub AllFine : List Sexps → Type 0
AllFine [] = Unit {0}
AllFine (x ∷ rest) = (are_proper x ≡ true) × (deepest x + length rest ≤ most_open) × AllFine rest

pub record Fine (lists : List Sexps) : Type 0 where
  pub some : IsSome lists
  pub all : AllFine lists

word_fine : (t : Token) (x : Sexps) (rest : List Sexps) → AllFine ((word t ▸ x) ∷ rest) → AllFine (x ∷ rest)
word_fine t x rest h = (and_right (not (is_parenthesis t)) (are_proper x) h.0, omega (arith, h.1), h.2)

group_fine : (a b : Sexps) (rest : List Sexps) → AllFine ((group a ▸ b) ∷ rest) → AllFine (a ∷ b ∷ rest)
group_fine a b rest h =
    (and_left (are_proper a) (are_proper b) h.0, omega (arith, h.1), (and_right (are_proper a) (are_proper b) h.0, omega (arith, h.1), h.2))

all_before : (t : Token) (lists : List Sexps) → IsSome (before t lists) → AllFine (before t lists) → AllFine lists
all_before t [] s h = h
all_before Leave (x ∷ rest) s h = h.2
all_before Enter (x ∷ []) s h = absurd s
all_before Enter (x ∷ y ∷ rest) s h = group_fine x y rest h
all_before (Numeral cs) (x ∷ rest) s h = word_fine (Numeral cs) x rest h
all_before (Decimal cs) (x ∷ rest) s h = word_fine (Decimal cs) x rest h
all_before (Hex cs) (x ∷ rest) s h = word_fine (Hex cs) x rest h
all_before (Binary cs) (x ∷ rest) s h = word_fine (Binary cs) x rest h
all_before (Text cs) (x ∷ rest) s h = word_fine (Text cs) x rest h
all_before (Symbol n) (x ∷ rest) s h = word_fine (Symbol n) x rest h
all_before (Reserved w) (x ∷ rest) s h = word_fine (Reserved w) x rest h
all_before (Keyword k) (x ∷ rest) s h = word_fine (Keyword k) x rest h

fine_drop : (p : ℕ) (ts : List Token) → Fine (open_lists_of ts) → Fine (open_lists_of (drop p ts))
fine_drop zero ts h = h
fine_drop (suc p) [] h = h
fine_drop (suc p) (t ∷ ts) h = fine_drop p ts (record { some = some_before t (open_lists_of ts) h.some; all = all_before t (open_lists_of ts) h.some h.all })

whole_fine : (ts : List Token) → IsSExpr ts → Fine (open_lists_of ts)
whole_fine ts h =
    let r = read_back ts h in
    subst Fine (sym r.0) (record { some = tt; all = (and_both (is_proper (sexp ts)) true r.2 refl, omega (arith, r.3), tt) })

pub fine_at : (ts : List Token) → IsSExpr ts → (p : ℕ) → Fine (open_lists_of (drop p ts))
fine_at ts h p = fine_drop p ts (whole_fine ts h)

-- ---- a token before open lists

pub before_word : (t : Token) (lists : List Sexps) → is_parenthesis t ≡ false → IsSome lists → before t lists ≡ (word t ▸ innermost lists) ∷ drop 1 lists
before_word t [] h s = absurd s
before_word Enter (x ∷ rest) h s = cc
before_word Leave (x ∷ rest) h s = cc
before_word _ (x ∷ rest) h s = refl

pub before_leave : (lists : List Sexps) → IsSome lists → before Leave lists ≡ end ∷ lists
before_leave [] s = absurd s
before_leave (x ∷ rest) s = refl

pub before_enter : (lists : List Sexps) → IsSome (before Enter lists)
    → (before Enter lists ≡ (group (innermost lists) ▸ innermost (drop 1 lists)) ∷ drop 2 lists) × (2 ≤ length lists)
before_enter [] s = absurd s
before_enter (x ∷ []) s = absurd s
before_enter (x ∷ y ∷ rest) s = (refl, omega arith)

one_less : (k : ℕ) (lists : List Sexps) → drop k lists ≡ drop (suc k - 1) lists
one_less k lists = let e : k ≡ suc k - 1 = omega arith in ap (λ m. drop m lists) e

one_more : (k : ℕ) (a b : Sexps) (rest : List Sexps) → drop k rest ≡ drop (suc k + 1) (a ∷ b ∷ rest)
one_more k a b rest = let e : suc (suc k) ≡ suc k + 1 = omega arith in ap (λ m. drop m (a ∷ b ∷ rest)) e

-- the lists round the innermost ones stay
pub drop_behind : (t : Token) (d : ℕ) (lists : List Sexps) → IsSome (before t lists) → 0 < d → drop d (before t lists) ≡ drop (depth_behind t d) lists
drop_behind t d [] s h = absurd s
drop_behind t zero (x ∷ rest) s h = absurd (omega (arith, h))
drop_behind Leave (suc k) (x ∷ rest) s h = one_less k (x ∷ rest)
drop_behind Enter (suc k) (x ∷ []) s h = absurd s
drop_behind Enter (suc k) (x ∷ y ∷ rest) s h = one_more k x y rest
drop_behind (Numeral cs) (suc k) (x ∷ rest) s h = refl
drop_behind (Decimal cs) (suc k) (x ∷ rest) s h = refl
drop_behind (Hex cs) (suc k) (x ∷ rest) s h = refl
drop_behind (Binary cs) (suc k) (x ∷ rest) s h = refl
drop_behind (Text cs) (suc k) (x ∷ rest) s h = refl
drop_behind (Symbol n) (suc k) (x ∷ rest) s h = refl
drop_behind (Reserved w) (suc k) (x ∷ rest) s h = refl
drop_behind (Keyword n) (suc k) (x ∷ rest) s h = refl
