-- What is left of the innermost list, from its next token.
use Rattle.std.proofs.Common.{◌≡◌, ◌⊎◌, inl, inr, ⊎_elim, ◌+◌, ◌≤◌, List, [], ◌∷◌, drop, length, sym, ap, subst, ◌∙◌, refl, arith, false, None}
use Rattle.std.proofs.Math.ListN.{drop_of_length-le}
use Rattle.smt_meaning.specs.declared.tokens.Token.{Token}
use Rattle.smt_meaning.specs.declared.tokens.Token.TheVariants.{Enter, Leave}
use Rattle.smt_meaning.specs.declared.tokens.TokenView.{TokenView}
use Rattle.smt_meaning.specs.declared.tokens.TokenView.TheVariants.{Enter as EnterSeen, Leave as LeaveSeen}
use Rattle.smt_meaning.specs.Seen.{seen}
use Rattle.smt_meaning.specs.Reading.{IsSExpr}
use Rattle.smt_meaning.specs.Sexp.{Sexps, word, group, end, ◌▸◌, before, open_lists_of, sexp, is_parenthesis}
use Rattle.smt_laws.proofs.SExprLaw.{IsSome, read_back}
use Rattle.smt_command.specs.declared.arguments.Arguments.{Arguments}
use Rattle.smt_command.specs.Arguments.{left, innermost, open_lists, is_end, rest_of, first_by, parts, token_in}
use Rattle.smt_command.proofs.OpenLists.{fine_at, before_word, before_leave, before_enter}

-- behind the next token
abbrev pub next : Arguments → Arguments
next a = record { sexpr = a.sexpr; place = a.place + 1 }

abbrev pub StandsAt : Token → Arguments → Type 0
StandsAt t a = drop a.place a.sexpr.now ≡ t ∷ drop (a.place + 1) a.sexpr.now

pub not_parenthesis : (t : TokenView) → (t ≡ EnterSeen → ⊥) → (t ≡ LeaveSeen → ⊥) → is_parenthesis (seen t) ≡ false
not_parenthesis EnterSeen h g = absurd (h refl)
not_parenthesis LeaveSeen h g = absurd (g refl)
not_parenthesis _ h g = refl

pub left_whole : (a : Arguments) → IsSExpr a.sexpr.now → a.place ≡ 0 → left a ≡ sexp a.sexpr.now ▸ end
unfolding left
left_whole a h e = rw e (ap innermost (read_back a.sexpr.now h).0)

pub lists_past : (a : Arguments) → length a.sexpr.now ≤ a.place → open_lists a ≡ end ∷ []
unfolding open_lists
lists_past a h = ap open_lists_of (drop_of_length-le a.sexpr.now h)

pub left_lists : (a : Arguments) → left a ≡ innermost (open_lists a)
unfolding left open_lists
left_lists a = refl

lists_at : (a : Arguments) (t : Token) → StandsAt t a → open_lists a ≡ before t (open_lists (next a))
unfolding open_lists
lists_at a t h = ap open_lists_of h

lists_some : (a : Arguments) → IsSExpr a.sexpr.now → IsSome (open_lists a)
unfolding open_lists
lists_some a h = (fine_at a.sexpr.now h a.place).some

pub lists_word : (a : Arguments) (t : Token) → IsSExpr a.sexpr.now → StandsAt t a → is_parenthesis t ≡ false
    → open_lists a ≡ (word t ▸ left (next a)) ∷ drop 1 (open_lists (next a))
lists_word a t h e p =
    lists_at a t e ∙ before_word t (open_lists (next a)) p (lists_some (next a) h) ∙ ap (λ x. (word t ▸ x) ∷ drop 1 (open_lists (next a))) (sym (left_lists (next a)))

pub lists_leave : (a : Arguments) → IsSExpr a.sexpr.now → StandsAt Leave a → open_lists a ≡ end ∷ open_lists (next a)
lists_leave a h e = lists_at a Leave e ∙ before_leave (open_lists (next a)) (lists_some (next a) h)

pub lists_enter : (a : Arguments) → IsSExpr a.sexpr.now → StandsAt Enter a
    → (open_lists a ≡ (group (left (next a)) ▸ innermost (drop 1 (open_lists (next a)))) ∷ drop 2 (open_lists (next a))) × (2 ≤ length (open_lists (next a)))
lists_enter a h e =
    let l = lists_at a Enter e in
    let b = before_enter (open_lists (next a)) (subst IsSome l (lists_some a h)) in
    (l ∙ b.0 ∙ ap (λ x. (group x ▸ innermost (drop 1 (open_lists (next a)))) ∷ drop 2 (open_lists (next a))) (sym (left_lists (next a))), b.1)

pub left_past : (a : Arguments) → length a.sexpr.now ≤ a.place → left a ≡ end
left_past a h = left_lists a ∙ ap innermost (lists_past a h)

pub left_word : (a : Arguments) (t : Token) → IsSExpr a.sexpr.now → StandsAt t a → is_parenthesis t ≡ false → left a ≡ word t ▸ left (next a)
left_word a t h e p = left_lists a ∙ ap innermost (lists_word a t h e p)

pub left_leave : (a : Arguments) → IsSExpr a.sexpr.now → StandsAt Leave a → left a ≡ end
left_leave a h e = left_lists a ∙ ap innermost (lists_leave a h e)

pub left_enter : (a : Arguments) → IsSExpr a.sexpr.now → StandsAt Enter a → left a ≡ group (left (next a)) ▸ innermost (drop 1 (open_lists (next a)))
left_enter a h e = left_lists a ∙ ap innermost (lists_enter a h e).0

-- ---- by cases on the next token

is_enter : (t : TokenView) → (t ≡ EnterSeen) ⊎ (t ≡ EnterSeen → ⊥)
is_enter EnterSeen = inl refl
is_enter _ = inr (λ e. cc)

is_leave : (t : TokenView) → (t ≡ LeaveSeen) ⊎ (t ≡ LeaveSeen → ⊥)
is_leave LeaveSeen = inl refl
is_leave _ = inr (λ e. cc)

pub not_end : (a : Arguments) (t : TokenView) → IsSExpr a.sexpr.now → StandsAt (seen t) a → (t ≡ LeaveSeen → ⊥) → false ≡ is_end (left a)
not_end a t h e g =
    ⊎_elim (λ q. sym (ap is_end (left_enter a h (subst (λ u. StandsAt (seen u) a) q e))))
    (λ q. sym (ap is_end (left_word a (seen t) h e (not_parenthesis t q g)))) (is_enter t)

pub no_parts : (a : Arguments) (t : TokenView) → IsSExpr a.sexpr.now → StandsAt (seen t) a → (t ≡ EnterSeen → ⊥) → None ≡ first_by parts (left a)
no_parts a t h e g =
    ⊎_elim (λ q. sym (ap (first_by parts) (left_leave a h (subst (λ u. StandsAt (seen u) a) q e))))
    (λ q. sym (ap (first_by parts) (left_word a (seen t) h e (not_parenthesis t g q)))) (is_leave t)

pub no_token : (a : Arguments) (t : TokenView) → IsSExpr a.sexpr.now → StandsAt (seen t) a → (t ≡ EnterSeen) ⊎ (t ≡ LeaveSeen) → None ≡ first_by token_in (left a)
no_token a t h e w =
    ⊎_elim (λ q. sym (ap (first_by token_in) (left_enter a h (subst (λ u. StandsAt (seen u) a) q e))))
    (λ q. sym (ap (first_by token_in) (left_leave a h (subst (λ u. StandsAt (seen u) a) q e)))) w

-- ---- behind the next s-expression

-- behind the next s-expression of the same list
abbrev pub IsBehind : Arguments → Arguments → Type 0
IsBehind a b = open_lists b ≡ rest_of (left a) ∷ drop 1 (open_lists a)

pub behind_nothing : (a : Arguments) (rest : List Sexps) → open_lists a ≡ end ∷ rest → IsBehind a a
behind_nothing a rest e =
    let empty : left a ≡ end = left_lists a ∙ ap innermost e in
    e ∙ ap (λ x. rest_of x ∷ rest) (sym empty) ∙ ap (λ x. rest_of (left a) ∷ drop 1 x) (sym e)

pub behind_word : (a : Arguments) (t : TokenView) → IsSExpr a.sexpr.now → StandsAt (seen t) a → (t ≡ EnterSeen → ⊥) → (t ≡ LeaveSeen → ⊥) → IsBehind a (next a)
behind_word a t h e p q =
    let n = not_parenthesis t p q in
    let w = lists_word a (seen t) h e n in
    let same : open_lists (next a) ≡ left (next a) ∷ drop 1 (open_lists (next a)) = some_is (next a) (lists_some (next a) h) in
    same ∙ ap (λ x. rest_of x ∷ drop 1 (open_lists (next a))) (sym (left_word a (seen t) h e n)) ∙ ap (λ x. rest_of (left a) ∷ drop 1 x) (sym w)
  where
    first_is : (lists : List Sexps) → IsSome lists → lists ≡ innermost lists ∷ drop 1 lists
    first_is [] s = absurd s
    first_is (x ∷ rest) s = refl

    some_is : (b : Arguments) → IsSome (open_lists b) → open_lists b ≡ left b ∷ drop 1 (open_lists b)
    some_is b s = first_is (open_lists b) s ∙ ap (λ x. x ∷ drop 1 (open_lists b)) (sym (left_lists b))

pub behind_list : (a b : Arguments) → IsSExpr a.sexpr.now → StandsAt Enter a → open_lists b ≡ drop 1 (open_lists (next a)) → IsBehind a b
behind_list a b h e d =
    let l = lists_enter a h e in
    d ∙ two (open_lists (next a)) l.1 ∙ ap (λ x. rest_of x ∷ drop 2 (open_lists (next a))) (sym (left_enter a h e)) ∙ ap (λ x. rest_of (left a) ∷ drop 1 x) (sym l.0)
  where
    two : (lists : List Sexps) → 2 ≤ length lists → drop 1 lists ≡ innermost (drop 1 lists) ∷ drop 2 lists
    two [] s = absurd (omega (arith, s))
    two (x ∷ []) s = absurd (omega (arith, s))
    two (x ∷ y ∷ rest) s = refl

pub left_behind : (a b : Arguments) → IsBehind a b → left b ≡ rest_of (left a)
left_behind a b e = left_lists b ∙ ap innermost e
