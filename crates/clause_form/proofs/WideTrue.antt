-- The clauses of `=` and `distinct` of more than two Bools, and of `xor` of three, are true.
use Rattle.std.proofs.Common.{◌≡◌, ℕ, List, [], ◌∷◌, map, refl, sym, ◌∙◌, ap, Bool, true, false, not, ◌&&◌, ◌||◌, nat_eq, All, ◌⊎◌, inl, inr}
use Rattle.std.proofs.lemmas.Bool.{eqb-true}
use Rattle.std.proofs.lemmas.List.Elements.{All-nil, All-cons}
use Rattle.std.specs.Prelude.{if◌then◌else◌}
use Rattle.smt_meaning.specs.declared.values.Value.{Value}
use Rattle.smt_meaning.specs.declared.values.Value.TheVariants.{Truth}
use Rattle.smt_meaning.specs.declared.terms.Operator.{Operator}
use Rattle.smt_meaning.specs.declared.terms.Operator.TheVariants.{Equal, Distinct, Xor}
use Rattle.smt_meaning.specs.Term.{bool_eq, same_value, differ, chain_from, pairwise, with_each, xor}
use Rattle.smt_meaning.specs.Forced.{Sign, some_sign_true, RespectsNode}
use Rattle.clause_form.specs.Signs.{sign, yes, negated, sign_true, is_sign_in, once}
use Rattle.clause_form.specs.NodeClauses.{conjunction}
use Rattle.clause_form.specs.WideClauses.{round, alike, excluding, parity_of_three, odd_of_three, wide_clauses}
use Rattle.clause_form.proofs.WideOver.{each_excluding}
use Rattle.clause_form.proofs.Signs.{true_or_false, and_left, and_right, or_false_left, or_false_right, negated_true, in_cases, bool_eq-self}
use Rattle.clause_form.proofs.TrueClauses.{IsMet, each_true, some_cons, some_first, some_rest, once_true, not_true, negated_met, conjunction_met, never_met, as_true}

-- ---- literals that have one truth value

some_in : (a : ℕ → Bool) (s : Sign) (ss : List Sign) → is_sign_in s ss ≡ true → sign_true a s ≡ true → some_sign_true a ss ≡ true
some_in a s [] h e = cc
some_in a s (u ∷ us) h e =
    elim (true_or_false (sign_true a u)) [
      | inl t ↦ some_first a u us t
      | inr f ↦ some_rest a u us (some_in a s us (in_cases (λ x. sign_true a x ≡ true → is_sign_in x us ≡ true) s u us (λ t. absurd (let k : true ≡ false = sym t ∙ f in cc)) (λ g e. g) h e) e)
    ]

once_some : (a : ℕ → Bool) (ss : List Sign) → some_sign_true a (once ss) ≡ some_sign_true a ss
once_some a [] = refl
once_some a (s ∷ ss) = at (is_sign_in s ss) refl (once_some a ss) ∙ sym (some_cons a s ss)
  where
    absorbed : (b c : Bool) → (b ≡ true → c ≡ true) → c ≡ (b || c)
    absorbed true c h = h refl
    absorbed false c h = refl

    at : (b : Bool) → is_sign_in s ss ≡ b → some_sign_true a (once ss) ≡ some_sign_true a ss → some_sign_true a (if b then once ss else s ∷ once ss) ≡ (sign_true a s || some_sign_true a ss)
    at true e rec = rec ∙ absorbed (sign_true a s) (some_sign_true a ss) (λ h. some_in a s ss e h)
    at false e rec = some_cons a s (once ss) ∙ ap (λ b. sign_true a s || b) rec

-- each is true, or none is
abbrev pub agree : (ℕ → Bool) → List Sign → Bool
agree a ss = each_true a ss || not (some_sign_true a ss)

pub once_agree : (a : ℕ → Bool) (ss : List Sign) → agree a (once ss) ≡ agree a ss
once_agree a ss = ap (λ b. b || not (some_sign_true a (once ss))) (once_true a ss) ∙ ap (λ b. each_true a ss || not b) (once_some a ss)

pub chain_agrees : (a : ℕ → Bool) (x : ℕ) (ys : List ℕ) → chain_from same_value (Truth (a x)) (map (λ i. Truth (a i)) ys) ≡ agree a (map yes (x ∷ ys))
chain_agrees a x [] = base (a x) ∙ sym (ap (λ b. (bool_eq (a x) true && true) || not b) (some_cons a (yes x) []))
  where
    base : (p : Bool) → true ≡ ((bool_eq p true && true) || not (bool_eq p true || false))
    base true = refl
    base false = refl
chain_agrees a x (y ∷ ys) =
    ap (λ b. bool_eq (a x) (a y) && b) (chain_agrees a y ys ∙ ap (λ b. (bool_eq (a y) true && each_true a (map yes ys)) || not b) (some_cons a (yes y) (map yes ys)))
    ∙ step (a x) (a y) (each_true a (map yes ys)) (some_sign_true a (map yes ys))
    ∙ sym (ap (λ b. (bool_eq (a x) true && (bool_eq (a y) true && each_true a (map yes ys))) || not b) (some_cons a (yes x) (map yes (y ∷ ys)) ∙ ap (λ b. bool_eq (a x) true || b) (some_cons a (yes y) (map yes ys))))
  where
    step : (p q e s : Bool) → (bool_eq p q && ((bool_eq q true && e) || not (bool_eq q true || s)))
        ≡ ((bool_eq p true && (bool_eq q true && e)) || not (bool_eq p true || (bool_eq q true || s)))
    step true true true s = refl
    step true true false s = refl
    step true false e s = refl
    step false true e s = refl
    step false false e s = refl

-- ---- the clauses of literals that agree

round_out : (a : ℕ → Bool) (out first s : Sign) (us : List Sign) → sign_true a (negated out) ≡ true → All (IsMet a) (round out first s us)
round_out a out first s [] h = All-cons (IsMet a) (negated out ∷ negated s ∷ first ∷ []) [] (some_first a (negated out) (negated s ∷ first ∷ []) h) (All-nil (IsMet a))
round_out a out first s (u ∷ us) h =
    All-cons (IsMet a) (negated out ∷ negated s ∷ u ∷ []) (round out first u us) (some_first a (negated out) (negated s ∷ u ∷ []) h) (round_out a out first u us h)

round_all : (a : ℕ → Bool) (out first s : Sign) (us : List Sign) → sign_true a first ≡ true → each_true a us ≡ true → All (IsMet a) (round out first s us)
round_all a out first s [] h e =
    All-cons (IsMet a) (negated out ∷ negated s ∷ first ∷ []) [] (some_rest a (negated out) (negated s ∷ first ∷ []) (some_rest a (negated s) (first ∷ []) (some_first a first [] h))) (All-nil (IsMet a))
round_all a out first s (u ∷ us) h e =
    All-cons (IsMet a) (negated out ∷ negated s ∷ u ∷ []) (round out first u us)
    (some_rest a (negated out) (negated s ∷ u ∷ []) (some_rest a (negated s) (u ∷ []) (some_first a u [] (and_left (sign_true a u) (each_true a us) e))))
    (round_all a out first u us h (and_right (sign_true a u) (each_true a us) e))

round_none : (a : ℕ → Bool) (out first s : Sign) (us : List Sign) → some_sign_true a (s ∷ us) ≡ false → All (IsMet a) (round out first s us)
round_none a out first s [] h =
    let f : sign_true a s ≡ false = or_false_left (sign_true a s) false (sym (some_cons a s []) ∙ h) in
    All-cons (IsMet a) (negated out ∷ negated s ∷ first ∷ []) []
    (some_rest a (negated out) (negated s ∷ first ∷ []) (some_first a (negated s) (first ∷ []) (not_true (sign_true a s) (sign_true a (negated s)) (negated_true a s) f))) (All-nil (IsMet a))
round_none a out first s (u ∷ us) h =
    let f : sign_true a s ≡ false = or_false_left (sign_true a s) (some_sign_true a (u ∷ us)) (sym (some_cons a s (u ∷ us)) ∙ h) in
    All-cons (IsMet a) (negated out ∷ negated s ∷ u ∷ []) (round out first u us)
    (some_rest a (negated out) (negated s ∷ u ∷ []) (some_first a (negated s) (u ∷ []) (not_true (sign_true a s) (sign_true a (negated s)) (negated_true a s) f)))
    (round_none a out first u us (or_false_right (sign_true a s) (some_sign_true a (u ∷ us)) (sym (some_cons a s (u ∷ us)) ∙ h)))

or_cases : (b c : Bool) → (b || c) ≡ true → (b ≡ true) ⊎ (c ≡ true)
or_cases true c h = inl refl
or_cases false c h = inr h

not_is_true : (b : Bool) → not b ≡ true → b ≡ false
not_is_true true h = absurd (let e : false ≡ true = h in cc)
not_is_true false h = refl

not_is_false : (b : Bool) → not b ≡ false → b ≡ true
not_is_false true h = refl
not_is_false false h = absurd (let e : true ≡ false = h in cc)

rounds_met : (a : ℕ → Bool) (out s : Sign) (us : List Sign) → sign_true a out ≡ agree a (s ∷ us) → All (IsMet a) (round out s s us)
rounds_met a out s us e =
    elim (true_or_false (sign_true a out)) [
      | inr f ↦ round_out a out s s us (not_true (sign_true a out) (sign_true a (negated out)) (negated_true a out) f)
      | inl t ↦
          elim (or_cases (each_true a (s ∷ us)) (not (some_sign_true a (s ∷ us))) (sym e ∙ t)) [
            | inl each ↦ round_all a out s s us (and_left (sign_true a s) (each_true a us) each) (and_right (sign_true a s) (each_true a us) each)
            | inr none ↦ round_none a out s s us (not_is_true (some_sign_true a (s ∷ us)) none)
          ]
    ]

alike_met : (a : ℕ → Bool) (out : Sign) (ss : List Sign) → sign_true a out ≡ agree a ss → All (IsMet a) (alike out ss)
alike_met a out [] e = All-nil (IsMet a)
alike_met a out (s ∷ []) e =
    All-cons (IsMet a) (out ∷ []) [] (some_first a out [] (e ∙ ap (λ b. (sign_true a s && true) || not b) (some_cons a s []) ∙ one (sign_true a s))) (All-nil (IsMet a))
  where
    one : (p : Bool) → ((p && true) || not (p || false)) ≡ true
    one true = refl
    one false = refl
alike_met a out (s ∷ u ∷ us) e =
    let ss : List Sign = s ∷ u ∷ us in
    All-cons (IsMet a) (out ∷ map negated ss) ((out ∷ ss) ∷ round out s s (u ∷ us))
    (elim (true_or_false (sign_true a out)) [
      | inl t ↦ some_first a out (map negated ss) t
      | inr f ↦ some_rest a out (map negated ss) (negated_met a ss (or_false_left (each_true a ss) (not (some_sign_true a ss)) (sym e ∙ f)))
    ])
    (All-cons (IsMet a) (out ∷ ss) (round out s s (u ∷ us))
    (elim (true_or_false (sign_true a out)) [
      | inl t ↦ some_first a out ss t
      | inr f ↦ some_rest a out ss (not_is_false (some_sign_true a ss) (or_false_right (each_true a ss) (not (some_sign_true a ss)) (sym e ∙ f)))
    ])
    (rounds_met a out s (u ∷ us) e))

pub three_differ : (p q r : Bool) (vs : List Value) → pairwise differ (Truth p ∷ Truth q ∷ Truth r ∷ vs) ≡ false
three_differ true true r vs = refl
three_differ false false r vs = refl
three_differ true false true vs = refl
three_differ false true false vs = refl
three_differ true false false vs = right (with_each differ (Truth true) vs) (pairwise differ (Truth false ∷ vs))
  where
    right : (b c : Bool) → (b && (false && c)) ≡ false
    right true c = refl
    right false c = refl
three_differ false true true vs = right (with_each differ (Truth false) vs) (pairwise differ (Truth true ∷ vs))
  where
    right : (b c : Bool) → (b && (false && c)) ≡ false
    right true c = refl
    right false c = refl

-- ---- an odd number of three

unless : (p b rest : Bool) → (p ≡ b → rest ≡ true) → (bool_eq p (not b) || rest) ≡ true
unless true true rest h = h refl
unless true false rest h = refl
unless false true rest h = refl
unless false false rest h = h refl

excluding_met : (a : ℕ → Bool) (t x y z : ℕ) (p q r : Bool) → a t ≡ xor (xor (a x) (a y)) (a z) → IsMet a (excluding t x y z p q r)
excluding_met a t x y z p q r e =
    let last : Sign = sign t (xor (xor p q) r) in
    some_cons a (sign x (not p)) (sign y (not q) ∷ sign z (not r) ∷ last ∷ [])
    ∙ ap (λ b. bool_eq (a x) (not p) || b) (some_cons a (sign y (not q)) (sign z (not r) ∷ last ∷ []) ∙ ap (λ b. bool_eq (a y) (not q) || b) (some_cons a (sign z (not r)) (last ∷ []) ∙ ap (λ b. bool_eq (a z) (not r) || b) (some_cons a last [])))
    ∙ unless (a x) p (bool_eq (a y) (not q) || (bool_eq (a z) (not r) || (bool_eq (a t) (xor (xor p q) r) || false)))
    (λ i. unless (a y) q (bool_eq (a z) (not r) || (bool_eq (a t) (xor (xor p q) r) || false))
    (λ j. unless (a z) r (bool_eq (a t) (xor (xor p q) r) || false)
    (λ k. ap (λ b. b || false) (ap (λ b. bool_eq b (xor (xor p q) r)) (e ∙ ap (λ b. xor (xor b (a y)) (a z)) i ∙ ap (λ b. xor (xor p b) (a z)) j ∙ ap (xor (xor p q)) k) ∙ bool_eq-self (xor (xor p q) r)))))

parity_of_three_met : (a : ℕ → Bool) (t x y z : ℕ) → a t ≡ xor (xor (a x) (a y)) (a z) → All (IsMet a) (parity_of_three t x y z)
parity_of_three_met a t x y z e = each_excluding (IsMet a) t x y z (λ p q r. excluding_met a t x y z p q r e)

odd_met : (a : ℕ → Bool) (t x y z : ℕ) → a t ≡ xor (xor (a x) (a y)) (a z) → All (IsMet a) (odd_of_three t x y z)
odd_met a t x y z e = first (nat_eq x y) refl
  where
    alone : (p : Bool) → bool_eq p true ≡ (bool_eq p true && true)
    alone true = refl
    alone false = refl

    one : (i : ℕ) → a t ≡ a i → All (IsMet a) (conjunction (yes t) (yes i ∷ []))
    one i h = conjunction_met a (yes t) (yes i ∷ []) (ap (λ b. bool_eq b true) h ∙ alone (a i))

    left : (p q : Bool) → xor (xor p p) q ≡ q
    left true true = refl
    left true false = refl
    left false true = refl
    left false false = refl

    outer : (p q : Bool) → xor (xor p q) p ≡ q
    outer true true = refl
    outer true false = refl
    outer false true = refl
    outer false false = refl

    right : (p q : Bool) → xor (xor p q) q ≡ p
    right true true = refl
    right true false = refl
    right false true = refl
    right false false = refl

    third : (b : Bool) → nat_eq y z ≡ b → All (IsMet a) (if b then conjunction (yes t) (yes x ∷ []) else parity_of_three t x y z)
    third true h = one x (e ∙ ap (λ i. xor (xor (a x) (a y)) (a i)) (sym (eqb-true y z h)) ∙ right (a x) (a y))
    third false h = parity_of_three_met a t x y z e

    second : (b : Bool) → nat_eq x z ≡ b → All (IsMet a) (if b then conjunction (yes t) (yes y ∷ []) else (if nat_eq y z then conjunction (yes t) (yes x ∷ []) else parity_of_three t x y z))
    second true h = one y (e ∙ ap (λ i. xor (xor (a x) (a y)) (a i)) (sym (eqb-true x z h)) ∙ outer (a x) (a y))
    second false h = third (nat_eq y z) refl

    first : (b : Bool) → nat_eq x y ≡ b
        → All (IsMet a) (if b then conjunction (yes t) (yes z ∷ []) else (if nat_eq x z then conjunction (yes t) (yes y ∷ []) else (if nat_eq y z then conjunction (yes t) (yes x ∷ []) else parity_of_three t x y z)))
    first true h = one z (e ∙ ap (λ i. xor (xor (a x) (a i)) (a z)) (sym (eqb-true x y h)) ∙ left (a x) (a z))
    first false h = second (nat_eq x z) refl

pub wide_met : (a : ℕ → Bool) (o : Operator) (t : ℕ) (xs : List ℕ) → RespectsNode a o t xs → All (IsMet a) (wide_clauses o t xs)
wide_met a Equal t (x ∷ y ∷ z ∷ zs) h =
    alike_met a (yes t) (once (map yes (x ∷ y ∷ z ∷ zs))) (as_true (a t) ∙ h ∙ chain_agrees a x (y ∷ z ∷ zs) ∙ sym (once_agree a (map yes (x ∷ y ∷ z ∷ zs))))
wide_met a Distinct t (x ∷ y ∷ z ∷ zs) h = never_met a (yes t) (ap (λ b. bool_eq b true) (h ∙ three_differ (a x) (a y) (a z) (map (λ i. Truth (a i)) zs)))
wide_met a Xor t (x ∷ y ∷ z ∷ []) h = odd_met a t x y z h
wide_met a o t xs h = All-nil (IsMet a)
