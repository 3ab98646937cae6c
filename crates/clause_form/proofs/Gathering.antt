-- Lists of literals each once: membership, and the steps of a walk from the back.
use Rattle.std.proofs.Common.{◌≡◌, ◌≢◌, ℕ, zero, suc, ◌<◌, ◌+◌, List, [], ◌∷◌, ◌++◌, length, drop, get_or, refl, sym, ◌∙◌, ap, subst, arith, Bool, true, false, not, ◌||◌, All, Contains, inl, inr}
use Rattle.std.specs.Prelude.{if◌then◌else◌, reverse}
use Rattle.std.proofs.lemmas.List.{reverse-append, reverse-reverse, map-append, drop_more, get_or_default}
use Rattle.std.proofs.lemmas.List.Elements.{Contains-append_left, Contains-append_right, Contains-push}
use Rattle.std.specs.Prelude.{Result, Ok, Err, OnOk}
use Rattle.literals.specs.Signed.{Signed}
use Rattle.smt_meaning.specs.Forced.{Sign}
use Rattle.clause_form.specs.Signs.{negated, sign_eq, is_sign_in, once, clashes}
use Rattle.clause_form.proofs.Signs.{true_or_false, or_left, or_right, sign_eq-true, in_first, in_rest}
use Rattle.clause_form.specs.Node.{plain}
use Rattle.clause_form.specs.Plain.{signs, sign_lists, atom_at, IsPlaced}
use Rattle.clause_form.proofs.NodeLaws.{in_cons}

-- ---- a clause more

pub lists_push : (cs : List (List Signed)) (c : List Signed) → sign_lists (cs ++ c ∷ []) ≡ sign_lists cs ++ signs c ∷ []
unfolding sign_lists
lists_push cs c = map-append signs cs (c ∷ [])

pub put_ok : {X E : Type 0} (r : Result X E) (new old : List (List Signed)) (c : List Signed) → OnOk r (new ≡ old ++ c ∷ []) → OnOk r (sign_lists new ≡ sign_lists old ++ signs c ∷ [])
put_ok (Ok x) new old c h = ap sign_lists h ∙ lists_push old c
put_ok (Err x) new old c h = tt

-- ---- membership

in_head : {X : Type 0} (x : X) (xs : List X) → Contains (x ∷ xs) x
in_head x xs = Contains-append_left (x ∷ []) xs x (Contains-push [] x)

in_later : {X : Type 0} (x y : X) (xs : List X) → Contains xs y → Contains (x ∷ xs) y
in_later x y xs c = Contains-append_right (x ∷ []) xs y c

pub contained : (ls : List Signed) (l : Signed) → Contains ls l → is_sign_in (plain l) (signs ls) ≡ true
contained [] l c = absurd (let h : c.0 < 0 = c.1 in omega (arith, h))
contained (m ∷ ms) l c =
    elim (in_cons m l ms c) [
      | inl e ↦ subst (λ (k : Signed). is_sign_in (plain k) (signs (m ∷ ms)) ≡ true) e (in_first (plain m) (signs ms))
      | inr d ↦ in_rest (plain l) (plain m) (signs ms) (contained ms l d)
    ]

-- a literal of these whose sign is this
record Among (ls : List Signed) (s : Sign) : Type 0 where
  literal : Signed
  stands : Contains ls literal
  is : plain literal ≡ s

among : (s : Sign) (ls : List Signed) → is_sign_in s (signs ls) ≡ true → Among ls s
among s [] h = absurd (let e : false ≡ true = h in cc)
among s (m ∷ ms) h =
    elim (true_or_false (sign_eq s (plain m))) [
      | inl e ↦ record { literal = m; stands = in_head m ms; is = sym (sign_eq-true s (plain m) e) }
      | inr e ↦
          (let rest : Among ms s = among s ms (sym (ap (λ b. b || is_sign_in s (signs ms)) e) ∙ h) in
          record { literal = rest.literal; stands = in_later m rest.literal ms rest.stands; is = rest.is })
    ]

false_if : (b : Bool) → (b ≡ true → ⊥) → b ≡ false
false_if true h = absurd (h refl)
false_if false h = refl

pub off : (ls : List Signed) (a : ℕ) (s : Sign) → All (λ (m : Signed). m.atom ≢ a) ls → s.place ≡ a → is_sign_in s (signs ls) ≡ false
off ls a s all e = false_if (is_sign_in s (signs ls)) (λ h. (let m : Among ls s = among s ls h in none ls m.literal m.stands all (ap (λ (u : Sign). u.place) m.is ∙ e)))
  where
    none : (ls : List Signed) (m : Signed) → Contains ls m → All (λ (m : Signed). m.atom ≢ a) ls → m.atom ≡ a → ⊥
    none ls m c all e = all c.0 m c.1 (subst (λ (n : Signed). n.atom ≡ a) (sym c.2) e)

-- ---- a table of places

pub placed_once : (ps : List ℕ) (ls : List Signed) (l m : Signed) → IsPlaced ps ls → Contains ls l → Contains ls m → l.atom ≡ m.atom → l ≡ m
placed_once ps ls l m p c d e =
    let zero_literal : Signed = record { atom = 0; positive = true } in
    let here : get_or ls c.0 zero_literal ≡ l = get_or_default ls c.0 zero_literal l c.1 ∙ c.2 in
    let there : get_or ls d.0 zero_literal ≡ m = get_or_default ls d.0 zero_literal m d.1 ∙ d.2 in
    let one : get_or ps (atom_at ls c.0) 0 ≡ c.0 = p.at c.0 c.1 in
    let other : get_or ps (atom_at ls d.0) 0 ≡ d.0 = p.at d.0 d.1 in
    let atoms : atom_at ls c.0 ≡ atom_at ls d.0 = ap (λ (n : Signed). n.atom) here ∙ e ∙ sym (ap (λ (n : Signed). n.atom) there) in
    let same : c.0 ≡ d.0 = sym one ∙ ap (λ a. get_or ps a 0) atoms ∙ other in
    sym here ∙ ap (λ k. get_or ls k zero_literal) same ∙ there

pub some_clash : (ls : List Signed) (l m : Signed) → Contains ls m → negated (plain l) ≡ plain m → is_sign_in (negated (plain l)) (signs ls) ≡ true
some_clash ls l m c e = subst (λ s. is_sign_in s (signs ls) ≡ true) (sym e) (contained ls m c)

pub some_clear : (ps : List ℕ) (ls : List Signed) (l m : Signed) → IsPlaced ps ls → Contains ls m → l ≡ m → is_sign_in (negated (plain l)) (signs ls) ≡ false
some_clear ps ls l m p c e =
    false_if (is_sign_in (negated (plain l)) (signs ls))
    (λ h. (let n : Among ls (negated (plain l)) = among (negated (plain l)) ls h in
    let same : n.literal ≡ m = placed_once ps ls n.literal m p n.stands c (ap (λ (u : Sign). u.place) n.is ∙ ap (λ (k : Signed). k.atom) e) in
    turned l.positive (ap (λ (k : Signed). k.positive) (e ∙ sym same) ∙ ap (λ (u : Sign). u.positive) n.is)))
  where
    turned : (b : Bool) → b ≡ not b → ⊥
    turned true h = (let k : true ≡ false = h in cc)
    turned false h = (let k : false ≡ true = h in cc)

pub some_kept : (ls : List Signed) (l m : Signed) → Contains ls m → l ≡ m → signs ls ≡ (if is_sign_in (plain l) (signs ls) then signs ls else signs ls ++ plain l ∷ [])
some_kept ls l m c e = sym (ap (λ b. if b then signs ls else signs ls ++ plain l ∷ []) (contained ls l (subst (Contains ls) (sym e) c)))

pub none_kept : (ls new : List Signed) (l : Signed) → All (λ (m : Signed). m.atom ≢ l.atom) ls → new ≡ ls ++ l ∷ [] → signs new ≡ (if is_sign_in (plain l) (signs ls) then signs ls else signs ls ++ plain l ∷ [])
none_kept ls new l all e = ap signs e ∙ map-append plain ls (l ∷ []) ∙ sym (ap (λ b. if b then signs ls else signs ls ++ plain l ∷ []) (off ls l.atom (plain l) all refl))

-- ---- each once, from the back

in_append : (x : Sign) (ss us : List Sign) → is_sign_in x (ss ++ us) ≡ (is_sign_in x ss || is_sign_in x us)
in_append x [] us = refl
in_append x (s ∷ ss) us = ap (λ b. sign_eq x s || b) (in_append x ss us) ∙ sym (or_assoc (sign_eq x s) (is_sign_in x ss) (is_sign_in x us))
  where
    or_assoc : (a b c : Bool) → ((a || b) || c) ≡ (a || (b || c))
    or_assoc true b c = refl
    or_assoc false b c = refl

in_reverse : (x : Sign) (ss : List Sign) → is_sign_in x (reverse ss) ≡ is_sign_in x ss
in_reverse x [] = refl
in_reverse x (s ∷ ss) =
    ap (is_sign_in x) (reverse-append (s ∷ []) ss) ∙ in_append x (reverse ss) (s ∷ []) ∙ ap (λ b. b || (sign_eq x s || false)) (in_reverse x ss) ∙ swapped (is_sign_in x ss) (sign_eq x s)
  where
    swapped : (a b : Bool) → (a || (b || false)) ≡ (b || a)
    swapped true true = refl
    swapped true false = refl
    swapped false true = refl
    swapped false false = refl

in_once : (x : Sign) (ss : List Sign) → is_sign_in x (once ss) ≡ is_sign_in x ss
in_once x [] = refl
in_once x (s ∷ ss) = at (is_sign_in s ss) refl (in_once x ss)
  where
    absorbed : (b c : Bool) → (b ≡ true → c ≡ true) → c ≡ (b || c)
    absorbed true c h = h refl
    absorbed false c h = refl

    at : (b : Bool) → is_sign_in s ss ≡ b → is_sign_in x (once ss) ≡ is_sign_in x ss → is_sign_in x (if b then once ss else s ∷ once ss) ≡ (sign_eq x s || is_sign_in x ss)
    at true e rec = rec ∙ absorbed (sign_eq x s) (is_sign_in x ss) (λ h. subst (λ u. is_sign_in u ss ≡ true) (sym (sign_eq-true x s h)) e)
    at false e rec = ap (λ b. sign_eq x s || b) rec

in_gathered : (x : Sign) (rest kept : List Sign) → kept ≡ reverse (once rest) → is_sign_in x kept ≡ is_sign_in x rest
in_gathered x rest kept e = ap (is_sign_in x) e ∙ in_reverse x (once rest) ∙ in_once x rest

step_kept : (s : Sign) (rest kept new : List Sign) → kept ≡ reverse (once rest) → new ≡ (if is_sign_in s kept then kept else kept ++ s ∷ []) → new ≡ reverse (once (s ∷ rest))
step_kept s rest kept new e h = h ∙ ap (λ b. if b then kept else kept ++ s ∷ []) (in_gathered s rest kept e) ∙ at (is_sign_in s rest)
  where
    at : (b : Bool) → (if b then kept else kept ++ s ∷ []) ≡ reverse (if b then once rest else s ∷ once rest)
    at true = e
    at false = ap (λ xs. xs ++ s ∷ []) e ∙ sym (reverse-append (s ∷ []) (once rest))

-- the literals from a place on are the one there and those after it
rest_at : (ls : List Signed) (i : ℕ) (l : Signed) → i < length ls → l ≡ get_or ls i l → signs (drop i ls) ≡ plain l ∷ signs (drop (i + 1) ls)
rest_at ls i l h e = ap signs (drop_more ls i l h) ∙ ap (λ k. plain k ∷ signs (drop (i + 1) ls)) (sym e)

pub gathers : (ls : List Signed) (i : ℕ) (l : Signed) (kept new : List Sign) → i < length ls → l ≡ get_or ls i l → kept ≡ reverse (once (signs (drop (i + 1) ls)))
    → new ≡ (if is_sign_in (plain l) kept then kept else kept ++ plain l ∷ []) → new ≡ reverse (once (signs (drop i ls)))
gathers ls i l kept new h e k n = step_kept (plain l) (signs (drop (i + 1) ls)) kept new k n ∙ ap (λ ss. reverse (once ss)) (sym (rest_at ls i l h e))

pub stays_clear : (ls : List Signed) (i : ℕ) (l : Signed) (kept : List Sign) → i < length ls → l ≡ get_or ls i l → kept ≡ reverse (once (signs (drop (i + 1) ls)))
    → is_sign_in (negated (plain l)) kept ≡ false → clashes (signs (drop (i + 1) ls)) ≡ false → clashes (signs (drop i ls)) ≡ false
stays_clear ls i l kept h e k n c =
    ap clashes (rest_at ls i l h e)
    ∙ ap (λ b. b || clashes (signs (drop (i + 1) ls))) (sym (in_gathered (negated (plain l)) (signs (drop (i + 1) ls)) kept k) ∙ n) ∙ c

clash_later : (ls : List Signed) (i : ℕ) → clashes (signs (drop i ls)) ≡ true → clashes (signs ls) ≡ true
clash_later ls zero h = h
clash_later [] (suc i) h = h
clash_later (l ∷ ls) (suc i) h = or_right (is_sign_in (negated (plain l)) (signs ls)) (clashes (signs ls)) (clash_later ls i h)

pub clash_found : (ls : List Signed) (i : ℕ) (l : Signed) (kept : List Sign) → i < length ls → l ≡ get_or ls i l → kept ≡ reverse (once (signs (drop (i + 1) ls)))
    → is_sign_in (negated (plain l)) kept ≡ true → clashes (signs ls) ≡ true
clash_found ls i l kept h e k n =
    clash_later ls i
    (ap clashes (rest_at ls i l h e)
    ∙ or_left (is_sign_in (negated (plain l)) (signs (drop (i + 1) ls))) (clashes (signs (drop (i + 1) ls))) (sym (in_gathered (negated (plain l)) (signs (drop (i + 1) ls)) kept k) ∙ n))

signs_reverse : (ls : List Signed) → signs (reverse ls) ≡ reverse (signs ls)
signs_reverse [] = refl
signs_reverse (l ∷ ls) =
    ap signs (reverse-append (l ∷ []) ls) ∙ map-append plain (reverse ls) (l ∷ []) ∙ ap (λ ss. ss ++ plain l ∷ []) (signs_reverse ls) ∙ sym (reverse-append (plain l ∷ []) (signs ls))

pub turned : (ls new : List Signed) (ss : List Sign) → signs ls ≡ reverse ss → new ≡ reverse ls → signs new ≡ ss
turned ls new ss h e = ap signs e ∙ signs_reverse ls ∙ ap reverse h ∙ reverse-reverse ss
