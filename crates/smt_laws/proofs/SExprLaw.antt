-- What the lexicon calls one s-expression, and what the trees of s-expressions say.
use Rattle.std.proofs.Common.{◌≡◌, ℕ, zero, suc, ◌+◌, ◌-◌, ◌≤◌, List, [], ◌∷◌, ◌++◌, sym, ap, subst, ◌∙◌, refl, arith, true, not, append_assoc, append-nil}
use Rattle.std.proofs.lemmas.List.{map-append}
use Rattle.smt_meaning.specs.declared.tokens.Token.{Token}
use Rattle.smt_meaning.specs.declared.tokens.Token.TheVariants.{Enter, Leave, Numeral, Decimal, Hex, Binary, Text, Symbol, Reserved, Keyword}
use Rattle.smt_meaning.specs.Reading.{Shape, opening, closing, single, shape, shapes, Opens, Completes, most_open}
use Rattle.smt_meaning.specs.Sexp.{Sexp, Sexps, word, group, end, ◌▸◌, tokens, tokens_of, before, open_lists_of, sexp, IsSexp, first_of_all, is_parenthesis, is_proper, are_proper, nested, deepest}
use Rattle.smt_laws.proofs.Both.{and_left, and_right, and_both}
use Rattle.smt_laws.specs.TermLaws.{SExprsReadBack, SexpsAreSExprs}

-- ---- the tokens that open lists stand for, the innermost list first

abbrev pub written : List Sexps → List Token
written [] = []
written (x ∷ []) = tokens_of x
written (x ∷ y ∷ rest) = tokens_of x ++ Leave ∷ written (y ∷ rest)

abbrev pub IsSome : List Sexps → Type 0
IsSome [] = ⊥
IsSome (x ∷ rest) = Unit {0}

pub written_more : (s : Sexp) (x : Sexps) (rest : List Sexps) → written ((s ▸ x) ∷ rest) ≡ tokens s ++ written (x ∷ rest)
written_more s x [] = refl
written_more s x (y ∷ rest) = append_assoc (tokens s) (tokens_of x) (Leave ∷ written (y ∷ rest))

written_group : (x y : Sexps) (rest : List Sexps) → written ((group x ▸ y) ∷ rest) ≡ Enter ∷ written (x ∷ y ∷ rest)
written_group x y rest = written_more (group x) y rest ∙ ap (λ ts. Enter ∷ ts) (append_assoc (tokens_of x) (Leave ∷ []) (written (y ∷ rest)))

written_before : (t : Token) (lists : List Sexps) → IsSome (before t lists) → written (before t lists) ≡ t ∷ written lists
written_before t [] h = absurd h
written_before Leave (x ∷ rest) h = refl
written_before Enter (x ∷ []) h = absurd h
written_before Enter (x ∷ y ∷ rest) h = written_group x y rest
written_before (Numeral cs) (x ∷ rest) h = written_more (word (Numeral cs)) x rest
written_before (Decimal cs) (x ∷ rest) h = written_more (word (Decimal cs)) x rest
written_before (Hex cs) (x ∷ rest) h = written_more (word (Hex cs)) x rest
written_before (Binary cs) (x ∷ rest) h = written_more (word (Binary cs)) x rest
written_before (Text cs) (x ∷ rest) h = written_more (word (Text cs)) x rest
written_before (Symbol n) (x ∷ rest) h = written_more (word (Symbol n)) x rest
written_before (Reserved w) (x ∷ rest) h = written_more (word (Reserved w)) x rest
written_before (Keyword k) (x ∷ rest) h = written_more (word (Keyword k)) x rest

pub some_before : (t : Token) (lists : List Sexps) → IsSome (before t lists) → IsSome lists
some_before t [] h = h
some_before t (x ∷ rest) h = tt

pub written_back : (ts : List Token) → IsSome (open_lists_of ts) → written (open_lists_of ts) ≡ ts
written_back [] h = refl
written_back (t ∷ ts) h = written_before t (open_lists_of ts) h ∙ ap (λ us. t ∷ us) (written_back ts (some_before t (open_lists_of ts) h))

-- the tokens of the s-expression that tokens read as are these
pub tokens-sexp : (ts : List Token) → IsSexp ts → tokens (sexp ts) ≡ ts
tokens-sexp ts h =
    sym (append-nil (tokens (sexp ts))) ∙ ap written (sym h) ∙ written_back ts (subst IsSome (sym h) tt)

-- ---- from the lexicon: m lists stand open, and then the s-expression ends; none of their words is a parenthesis, and a list inside d others may be nested d less deep

abbrev MayNest : ℕ → Sexps → Type 0
MayNest d x = (are_proper x ≡ true) × (deepest x + d ≤ most_open)

-- each open list, the innermost first, with as many round it as stand after it
abbrev Ends : ℕ → List Sexps → Type 0
Ends zero lists = lists ≡ end ∷ []
Ends (suc m) [] = ⊥
Ends (suc m) (x ∷ rest) = MayNest (suc m) x × Ends m rest

word_may : (t : Token) (d : ℕ) (x : Sexps) → not (is_parenthesis t) ≡ true → MayNest d x → MayNest d (word t ▸ x)
word_may t d x e h = (and_both (not (is_parenthesis t)) (are_proper x) e h.0, omega (arith, h.1))

group_may : (m : ℕ) (x y : Sexps) → MayNest (suc m) x → MayNest m y → MayNest m (group x ▸ y)
group_may m x y h g = (and_both (are_proper x) (are_proper y) h.0 g.0, omega (arith, h.1, g.1))

before_single : (t : Token) (x : Sexps) (rest : List Sexps) → not (is_parenthesis t) ≡ true → before t (x ∷ rest) ≡ (word t ▸ x) ∷ rest
before_single Enter x rest h = cc
before_single Leave x rest h = cc
before_single _ x rest h = refl

is_enter : (t : Token) → shape t ≡ opening → t ≡ Enter
is_enter Enter h = refl
is_enter Leave h = cc
is_enter (Numeral cs) h = cc
is_enter (Decimal cs) h = cc
is_enter (Hex cs) h = cc
is_enter (Binary cs) h = cc
is_enter (Text cs) h = cc
is_enter (Symbol n) h = cc
is_enter (Reserved w) h = cc
is_enter (Keyword k) h = cc

is_leave : (t : Token) → shape t ≡ closing → t ≡ Leave
is_leave Leave h = refl
is_leave Enter h = cc
is_leave (Numeral cs) h = cc
is_leave (Decimal cs) h = cc
is_leave (Hex cs) h = cc
is_leave (Binary cs) h = cc
is_leave (Text cs) h = cc
is_leave (Symbol n) h = cc
is_leave (Reserved w) h = cc
is_leave (Keyword k) h = cc

is_word : (t : Token) → shape t ≡ single → not (is_parenthesis t) ≡ true
is_word Enter h = cc
is_word Leave h = cc
is_word _ h = refl

of_word : (t : Token) → not (is_parenthesis t) ≡ true → shape t ≡ single
of_word Enter h = cc
of_word Leave h = cc
of_word (Numeral cs) h = refl
of_word (Decimal cs) h = refl
of_word (Hex cs) h = refl
of_word (Binary cs) h = refl
of_word (Text cs) h = refl
of_word (Symbol n) h = refl
of_word (Reserved w) h = refl
of_word (Keyword k) h = refl

step_enter : (k : ℕ) (t : Token) (lists : List Sexps) → shape t ≡ opening → Ends (suc (suc k)) lists → Ends (suc k) (before t lists)
step_enter k t lists e h = subst (λ u. Ends (suc k) (before u lists)) (sym (is_enter t e)) (go lists h)
  where
    go : (xs : List Sexps) → Ends (suc (suc k)) xs → Ends (suc k) (before Enter xs)
    go [] g = absurd g
    go (x ∷ []) g = absurd g.1
    go (x ∷ y ∷ rest) g = (group_may (suc k) x y g.0 g.1.0, g.1.1)

step_leave : (k : ℕ) (t : Token) (lists : List Sexps) → shape t ≡ closing → suc (suc k) ≤ most_open → Ends (suc k) lists → Ends (suc (suc k)) (before t lists)
step_leave k t lists e b h = subst (λ u. Ends (suc (suc k)) (before u lists)) (sym (is_leave t e)) (go lists h)
  where
    go : (xs : List Sexps) → Ends (suc k) xs → Ends (suc (suc k)) (before Leave xs)
    go [] g = absurd g
    go (x ∷ rest) g = ((refl, omega (arith, b)), g)

step_word : (k : ℕ) (t : Token) (lists : List Sexps) → shape t ≡ single → Ends (suc k) lists → Ends (suc k) (before t lists)
step_word k t [] e h = absurd h
step_word k t (x ∷ rest) e h = subst (Ends (suc k)) (sym (before_single t x rest (is_word t e))) (word_may t (suc k) x (is_word t e) h.0, h.1)

-- the last token closes the one list that is open
last_leave : (k n : ℕ) (t : Token) → suc k ≡ n → n ≡ 1 → shape t ≡ closing → Ends (suc k) (before t (end ∷ []))
last_leave zero n t p c e = subst (λ u. Ends 1 (before u (end ∷ []))) (sym (is_leave t e)) ((refl, omega arith), refl)
last_leave (suc k) n t p c e = absurd (omega (arith, p, c))

first_is : (s r : Shape) (ss rs : List Shape) → s ∷ ss ≡ r ∷ rs → s ≡ r
first_is s r ss rs e = cc

rest_is : (s r : Shape) (ss rs : List Shape) → s ∷ ss ≡ r ∷ rs → ss ≡ rs
rest_is s r ss rs e = cc

none_left : (ts : List Token) → shapes ts ≡ [] → ts ≡ []
none_left [] e = refl
none_left (t ∷ ts) e = cc

one_more : (m n : ℕ) (ss : List Shape) → Opens (suc m + 1) ss n → Opens (suc (suc m)) ss n
one_more m n ss h = let e : suc m + 1 ≡ suc (suc m) = omega arith in subst (λ k. Opens k ss n) e h

one_less : (m n : ℕ) (ss : List Shape) → Opens (suc (suc m) - 1) ss n → Opens (suc m) ss n
one_less m n ss h = let e : suc (suc m) - 1 ≡ suc m = omega arith in subst (λ k. Opens k ss n) e h

ends : (front : List Shape) (k n : ℕ) (last : Shape) (ts : List Token) → suc k ≤ most_open → shapes ts ≡ front ++ last ∷ [] → Opens (suc k) front n → Completes n last
    → Ends (suc k) (open_lists_of ts)
ends [] k n last [] b e p c = absurd (cc)
ends [] k n opening (t ∷ us) b e p c = absurd c
ends [] k n closing (t ∷ us) b e p c =
    subst (λ xs. Ends (suc k) (before t (open_lists_of xs))) (sym (none_left us (rest_is (shape t) closing (shapes us) [] e))) (last_leave k n t p c (first_is (shape t) closing (shapes us) [] e))
ends [] k n single (t ∷ us) b e p c = absurd (omega (arith, p, c))
ends (s ∷ ss) k n last [] b e p c = absurd (cc)
ends (opening ∷ ss) k n last (t ∷ us) b e p c =
    step_enter k t (open_lists_of us) (first_is (shape t) opening (shapes us) (ss ++ last ∷ []) e)
    (ends ss (suc k) n last us (omega (arith, p.0)) (rest_is (shape t) opening (shapes us) (ss ++ last ∷ []) e) (one_more k n ss p.1) c)
ends (closing ∷ ss) zero n last (t ∷ us) b e p c = absurd (omega (arith, p.0))
ends (closing ∷ ss) (suc k) n last (t ∷ us) b e p c =
    step_leave k t (open_lists_of us) (first_is (shape t) closing (shapes us) (ss ++ last ∷ []) e) b
    (ends ss k n last us (omega (arith, b)) (rest_is (shape t) closing (shapes us) (ss ++ last ∷ []) e) (one_less k n ss p.1) c)
ends (single ∷ ss) k n last (t ∷ us) b e p c =
    step_word k t (open_lists_of us) (first_is (shape t) single (shapes us) (ss ++ last ∷ []) e)
    (ends ss k n last us b (rest_is (shape t) single (shapes us) (ss ++ last ∷ []) e) p.1 c)

record Whole (ts : List Token) : Type 0 where
  pub tree : Sexp
  pub lists : open_lists_of ts ≡ (tree ▸ end) ∷ []
  pub proper : is_proper tree ≡ true
  pub shallow : nested tree ≤ most_open

whole_group : (t : Token) (lists : List Sexps) (us : List Token) → shape t ≡ opening → open_lists_of us ≡ lists → Ends 1 lists → Whole (t ∷ us)
whole_group t [] us e q h = absurd h
whole_group t (x ∷ rest) us e q h = record {
  tree = group x;
  lists = ap (λ u. before u (open_lists_of us)) (is_enter t e) ∙ ap (before Enter) q ∙ ap (λ r. before Enter (x ∷ r)) h.1;
  proper = h.0.0;
  shallow = omega (arith, h.0.1);
}

whole_word : (t : Token) (us : List Token) → shape t ≡ single → us ≡ [] → Whole (t ∷ us)
whole_word t us e q = record {
  tree = word t;
  lists = ap (λ xs. before t (open_lists_of xs)) q ∙ before_single t end [] (is_word t e);
  proper = is_word t e;
  shallow = omega arith;
}

whole : (front : List Shape) (n : ℕ) (last : Shape) (ts : List Token) → shapes ts ≡ front ++ last ∷ [] → Opens 0 front n → Completes n last → Whole ts
whole [] n last [] e p c = absurd (cc)
whole [] n opening (t ∷ us) e p c = absurd c
whole [] n closing (t ∷ us) e p c = absurd (omega (arith, p, c))
whole [] n single (t ∷ us) e p c = whole_word t us (first_is (shape t) single (shapes us) [] e) (none_left us (rest_is (shape t) single (shapes us) [] e))
whole (s ∷ ss) n last [] e p c = absurd (cc)
whole (opening ∷ ss) n last (t ∷ us) e p c =
    whole_group t (open_lists_of us) us (first_is (shape t) opening (shapes us) (ss ++ last ∷ []) e) refl
    (ends ss 0 n last us (omega arith) (rest_is (shape t) opening (shapes us) (ss ++ last ∷ []) e) p.1 c)
whole (closing ∷ ss) n last (t ∷ us) e p c = absurd (omega (arith, p.0))
whole (single ∷ ss) n last (t ∷ us) e p c = absurd (omega (arith, p.0))

abbrev tree_is : (ts : List Token) (h : Whole ts) → Type 0
tree_is ts h = sexp ts ≡ h.tree

pub read_back : SExprsReadBack
read_back ts h =
    let w : Whole ts = whole h.0 h.1 h.2 ts h.3 h.4 h.5 in
    let same : sexp ts ≡ w.tree = ap first_of_all w.lists in
    let is : IsSexp ts = w.lists ∙ ap (λ s. (s ▸ end) ∷ []) (sym same) in
    (is, tokens-sexp ts is, ap is_proper same ∙ w.proper, subst (λ s. nested s ≤ most_open) (sym same) w.shallow)

-- ---- and back

opens_append : (a b c : ℕ) (xs ys : List Shape) → Opens a xs b → Opens b ys c → Opens a (xs ++ ys) c
opens_append a b c [] ys h k = subst (λ m. Opens m ys c) (sym h) k
opens_append a b c (opening ∷ xs) ys h k = (h.0, opens_append (a + 1) b c xs ys h.1 k)
opens_append a b c (closing ∷ xs) ys h k = (h.0, opens_append (a - 1) b c xs ys h.1 k)
opens_append a b c (single ∷ xs) ys h k = (h.0, opens_append a b c xs ys h.1 k)

-- inside m + 2 lists, the parts of a list and its end
closes : (m : ℕ) (ts : List Token) → Opens (suc (suc m)) (shapes ts) (suc (suc m)) → Opens (suc m + 1) (shapes (ts ++ Leave ∷ [])) (suc m)
closes m ts h =
    let one : suc (suc m) ≡ suc m + 1 = omega arith in
    let last : suc (suc m) - 1 ≡ suc m = omega arith in
    subst (λ ss. Opens (suc m + 1) ss (suc m)) (sym (map-append shape ts (Leave ∷ [])))
    (subst (λ k. Opens k (shapes ts ++ closing ∷ []) (suc m)) one
    (opens_append (suc (suc m)) (suc (suc m)) (suc m) (shapes ts) (closing ∷ []) h (omega arith, last)))

mutual
  opens_sexp : (s : Sexp) (m : ℕ) → is_proper s ≡ true → nested s + suc m ≤ most_open → Opens (suc m) (shapes (tokens s)) (suc m)
  opens_sexp (word t) m h b = subst (λ x. Opens (suc m) (x ∷ []) (suc m)) (sym (of_word t h)) (omega arith, refl)
  opens_sexp (group ss) m h b = (omega (arith, b), closes m (tokens_of ss) (opens_sexps ss (suc m) h (omega (arith, b))))

  opens_sexps : (ss : Sexps) (m : ℕ) → are_proper ss ≡ true → deepest ss + suc m ≤ most_open → Opens (suc m) (shapes (tokens_of ss)) (suc m)
  opens_sexps end m h b = refl
  opens_sexps (s ▸ ss) m h b =
      subst (λ xs. Opens (suc m) xs (suc m)) (sym (map-append shape (tokens s) (tokens_of ss)))
      (opens_append (suc m) (suc m) (suc m) (shapes (tokens s)) (shapes (tokens_of ss))
      (opens_sexp s m (and_left (is_proper s) (are_proper ss) h) (omega (arith, b))) (opens_sexps ss m (and_right (is_proper s) (are_proper ss) h) (omega (arith, b))))

pub are_sexprs : SexpsAreSExprs
are_sexprs (word t) h b = ([], 0, single, ap (λ x. x ∷ []) (of_word t h), refl, refl)
are_sexprs (group ss) h b = (
  opening ∷ shapes (tokens_of ss),
  1,
  closing,
  ap (λ xs. opening ∷ xs) (map-append shape (tokens_of ss) (Leave ∷ [])),
  (omega arith, opens_sexps ss 0 h (omega (arith, b))),
  refl,
)
