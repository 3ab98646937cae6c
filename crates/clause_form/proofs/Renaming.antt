-- The clauses of a node whose places are renamed are the clauses of the node at the other places, where no two get one name.
use Rattle.std.proofs.Common.{◌≡◌, ℕ, ◌<◌, List, [], ◌∷◌, ◌++◌, map, refl, sym, ◌∙◌, ap, arith, Bool, true, false, ◌&&◌, ◌||◌, nat_eq, eq-eqb, All, inl, inr}
use Rattle.std.specs.Prelude.{if◌then◌else◌}
use Rattle.std.proofs.lemmas.Bool.{eqb-true}
use Rattle.std.proofs.lemmas.List.{map-append}
use Rattle.std.proofs.lemmas.List.Elements.{All-head, All-tail}
use Rattle.smt_meaning.specs.declared.terms.Operator.{Operator}
use Rattle.smt_meaning.specs.declared.terms.Operator.TheVariants.{True, False, Not, And, Or, Xor, Implies, Equal, Distinct, Ite}
use Rattle.smt_meaning.specs.Term.{bool_eq}
use Rattle.smt_meaning.specs.Forced.{Sign}
use Rattle.clause_form.specs.Signs.{sign, yes, no, negated, sign_eq, is_sign_in, once, clashes}
use Rattle.clause_form.specs.NodeClauses.{conjunction, never, all_of, parity, one_of_two, choices, chosen, premises, premises_from, node_clauses}
use Rattle.clause_form.specs.WideClauses.{round, alike, parity_of_three, odd_of_three, wide_clauses}
use Rattle.clause_form.specs.Renamed.{renamed, Apart}
use Rattle.clause_form.proofs.Signs.{true_or_false}
use Rattle.clause_form.proofs.Over.{On, on_nil, on_head, on_tail, on_signs, on_premises}

abbrev Below : ℕ → List Sign → Type 0
Below n ss = On (λ i. i < n) ss

same_name : (f : ℕ → ℕ) (n x y : ℕ) → Apart f n → x < n → y < n → nat_eq (f x) (f y) ≡ nat_eq x y
same_name f n x y a h k =
    elim (true_or_false (nat_eq x y)) [
      | inl e ↦ eq-eqb (f x) (f y) (ap f (eqb-true x y e)) ∙ sym e
      | inr e ↦ false_if (nat_eq (f x) (f y)) (λ g. (let t : true ≡ false = sym (eq-eqb x y (a x y h k (eqb-true (f x) (f y) g))) ∙ e in cc)) ∙ sym e
    ]
  where
    false_if : (b : Bool) → (b ≡ true → ⊥) → b ≡ false
    false_if true h = absurd (h refl)
    false_if false h = refl

in_renamed : (f : ℕ → ℕ) (n : ℕ) (s : Sign) (ss : List Sign) → Apart f n → s.place < n → Below n ss → is_sign_in (renamed f s) (map (renamed f) ss) ≡ is_sign_in s ss
in_renamed f n s [] a h all = refl
in_renamed f n s (u ∷ us) a h all =
    ap (λ b. (b && bool_eq s.positive u.positive) || is_sign_in (renamed f s) (map (renamed f) us)) (same_name f n s.place u.place a h (on_head (λ i. i < n) u us all))
    ∙ ap (λ b. sign_eq s u || b) (in_renamed f n s us a h (on_tail (λ i. i < n) u us all))

clashes_renamed : (f : ℕ → ℕ) (n : ℕ) (ss : List Sign) → Apart f n → Below n ss → clashes (map (renamed f) ss) ≡ clashes ss
clashes_renamed f n [] a all = refl
clashes_renamed f n (s ∷ ss) a all =
    ap (λ b. b || clashes (map (renamed f) ss)) (in_renamed f n (negated s) ss a (on_head (λ i. i < n) s ss all) (on_tail (λ i. i < n) s ss all))
    ∙ ap (λ b. is_sign_in (negated s) ss || b) (clashes_renamed f n ss a (on_tail (λ i. i < n) s ss all))

once_renamed : (f : ℕ → ℕ) (n : ℕ) (ss : List Sign) → Apart f n → Below n ss → once (map (renamed f) ss) ≡ map (renamed f) (once ss)
once_renamed f n [] a all = refl
once_renamed f n (s ∷ ss) a all =
    ap (λ b. if b then once (map (renamed f) ss) else renamed f s ∷ once (map (renamed f) ss)) (in_renamed f n s ss a (on_head (λ i. i < n) s ss all) (on_tail (λ i. i < n) s ss all))
    ∙ at (is_sign_in s ss) (once_renamed f n ss a (on_tail (λ i. i < n) s ss all))
  where
    at : (b : Bool) → once (map (renamed f) ss) ≡ map (renamed f) (once ss)
        → (if b then once (map (renamed f) ss) else renamed f s ∷ once (map (renamed f) ss)) ≡ map (renamed f) (if b then once ss else s ∷ once ss)
    at true e = e
    at false e = ap (λ us. renamed f s ∷ us) e

-- ---- gates

abbrev pub renamed_all : (ℕ → ℕ) → List (List Sign) → List (List Sign)
renamed_all f cs = map (map (renamed f)) cs

negated_renamed : (f : ℕ → ℕ) (ss : List Sign) → map negated (map (renamed f) ss) ≡ map (renamed f) (map negated ss)
negated_renamed f [] = refl
negated_renamed f (s ∷ ss) = ap (λ us. negated (renamed f s) ∷ us) (negated_renamed f ss)

pairs_renamed : (f : ℕ → ℕ) (out : Sign) (ss : List Sign)
    → map (λ (s : Sign). negated (renamed f out) ∷ s ∷ []) (map (renamed f) ss) ≡ renamed_all f (map (λ (s : Sign). negated out ∷ s ∷ []) ss)
pairs_renamed f out [] = refl
pairs_renamed f out (s ∷ ss) = ap (λ cs. (negated (renamed f out) ∷ renamed f s ∷ []) ∷ cs) (pairs_renamed f out ss)

conjunction_renamed : (f : ℕ → ℕ) (out : Sign) (ss : List Sign) → conjunction (renamed f out) (map (renamed f) ss) ≡ renamed_all f (conjunction out ss)
conjunction_renamed f out ss =
    ap (λ us. (renamed f out ∷ us) ∷ map (λ (s : Sign). negated (renamed f out) ∷ s ∷ []) (map (renamed f) ss)) (negated_renamed f ss)
    ∙ ap (λ cs. (renamed f out ∷ map (renamed f) (map negated ss)) ∷ cs) (pairs_renamed f out ss)

all_of_renamed : (f : ℕ → ℕ) (n : ℕ) (out : Sign) (ss : List Sign) → Apart f n → Below n ss → all_of (renamed f out) (map (renamed f) ss) ≡ renamed_all f (all_of out ss)
all_of_renamed f n out ss a all =
    ap (λ b. if b then never (renamed f out) else conjunction (renamed f out) (once (map (renamed f) ss))) (clashes_renamed f n ss a all)
    ∙ ap (λ us. if clashes ss then never (renamed f out) else conjunction (renamed f out) us) (once_renamed f n ss a all)
    ∙ at (clashes ss)
  where
    at : (b : Bool) → (if b then never (renamed f out) else conjunction (renamed f out) (map (renamed f) (once ss))) ≡ renamed_all f (if b then never out else conjunction out (once ss))
    at true = refl
    at false = conjunction_renamed f out (once ss)

one_of_two_renamed : (f : ℕ → ℕ) (n : ℕ) (out : Sign) (x y : ℕ) → Apart f n → x < n → y < n → one_of_two (renamed f out) (f x) (f y) ≡ renamed_all f (one_of_two out x y)
one_of_two_renamed f n out x y a h k =
    ap (λ b. if b then never (renamed f out) else parity (renamed f out) (f x) (f y)) (same_name f n x y a h k) ∙ at (nat_eq x y)
  where
    at : (b : Bool) → (if b then never (renamed f out) else parity (renamed f out) (f x) (f y)) ≡ renamed_all f (if b then never out else parity out x y)
    at true = refl
    at false = refl

-- the first of three tests that holds chooses
abbrev first_of : Bool → Bool → Bool → List (List Sign) → List (List Sign) → List (List Sign) → List (List Sign) → List (List Sign)
first_of p q r ks ls ms ns = if p then ks else if q then ls else if r then ms else ns

first_renamed : (f : ℕ → ℕ) (p q r : Bool) (ks ls ms ns : List (List Sign))
    → first_of p q r (renamed_all f ks) (renamed_all f ls) (renamed_all f ms) (renamed_all f ns) ≡ renamed_all f (first_of p q r ks ls ms ns)
first_renamed f true q r ks ls ms ns = refl
first_renamed f false true r ks ls ms ns = refl
first_renamed f false false true ks ls ms ns = refl
first_renamed f false false false ks ls ms ns = refl

chosen_renamed : (f : ℕ → ℕ) (n t c x y : ℕ) → Apart f n → c < n → x < n → y < n → chosen (f t) (f c) (f x) (f y) ≡ renamed_all f (chosen t c x y)
chosen_renamed f n t c x y a hc hx hy =
    rw (same_name f n x y a hx hy, same_name f n c x a hc hx, same_name f n c y a hc hy)
    (first_renamed f (nat_eq x y) (nat_eq c x) (nat_eq c y) (conjunction (yes t) (yes x ∷ [])) (conjunction (no t) (no c ∷ no y ∷ [])) (conjunction (yes t) (yes c ∷ yes x ∷ [])) (choices t c x y))

odd_renamed : (f : ℕ → ℕ) (n t x y z : ℕ) → Apart f n → x < n → y < n → z < n → odd_of_three (f t) (f x) (f y) (f z) ≡ renamed_all f (odd_of_three t x y z)
odd_renamed f n t x y z a hx hy hz =
    rw (same_name f n x y a hx hy, same_name f n x z a hx hz, same_name f n y z a hy hz)
    (first_renamed f (nat_eq x y) (nat_eq x z) (nat_eq y z) (conjunction (yes t) (yes z ∷ [])) (conjunction (yes t) (yes y ∷ [])) (conjunction (yes t) (yes x ∷ [])) (parity_of_three t x y z))

round_renamed : (f : ℕ → ℕ) (out first s : Sign) (us : List Sign) → round (renamed f out) (renamed f first) (renamed f s) (map (renamed f) us) ≡ renamed_all f (round out first s us)
round_renamed f out first s [] = refl
round_renamed f out first s (u ∷ us) = ap (λ cs. (negated (renamed f out) ∷ negated (renamed f s) ∷ renamed f u ∷ []) ∷ cs) (round_renamed f out first u us)

alike_renamed : (f : ℕ → ℕ) (out : Sign) (ss : List Sign) → alike (renamed f out) (map (renamed f) ss) ≡ renamed_all f (alike out ss)
alike_renamed f out [] = refl
alike_renamed f out (s ∷ []) = refl
alike_renamed f out (s ∷ u ∷ us) =
    let ss : List Sign = s ∷ u ∷ us in
    ap (λ vs. (renamed f out ∷ vs) ∷ (renamed f out ∷ map (renamed f) ss) ∷ round (renamed f out) (renamed f s) (renamed f s) (map (renamed f) (u ∷ us))) (negated_renamed f ss)
    ∙ ap (λ cs. (renamed f out ∷ map (renamed f) (map negated ss)) ∷ (renamed f out ∷ map (renamed f) ss) ∷ cs) (round_renamed f out s s (u ∷ us))

signs_renamed : (f : ℕ → ℕ) (b : Bool) (xs : List ℕ) → map (λ i. sign i b) (map f xs) ≡ map (renamed f) (map (λ i. sign i b) xs)
signs_renamed f b [] = refl
signs_renamed f b (x ∷ xs) = ap (λ ss. sign (f x) b ∷ ss) (signs_renamed f b xs)

premises_renamed : (f : ℕ → ℕ) (x : ℕ) (xs : List ℕ) → premises_from (f x) (map f xs) ≡ map (renamed f) (premises_from x xs)
premises_renamed f x [] = refl
premises_renamed f x (y ∷ ys) = ap (λ ss. yes (f x) ∷ ss) (premises_renamed f y ys)

-- ---- operators

narrow : (f : ℕ → ℕ) (n : ℕ) (o : Operator) (t : ℕ) (xs : List ℕ) → Apart f n → All (λ i. i < n) xs → node_clauses o (f t) (map f xs) ≡ renamed_all f (node_clauses o t xs)
narrow f n True t xs a all = all_of_renamed f n (yes t) [] a (on_nil (λ i. i < n))
narrow f n False t xs a all = all_of_renamed f n (no t) [] a (on_nil (λ i. i < n))
narrow f n Not t [] a all = refl
narrow f n Not t (x ∷ []) a all = all_of_renamed f n (yes t) (no x ∷ []) a (on_signs (λ i. i < n) false (x ∷ []) all)
narrow f n Not t (x ∷ y ∷ ys) a all = refl
narrow f n And t [] a all = refl
narrow f n And t (x ∷ xs) a all =
    ap (all_of (yes (f t))) (signs_renamed f true (x ∷ xs)) ∙ all_of_renamed f n (yes t) (map yes (x ∷ xs)) a (on_signs (λ i. i < n) true (x ∷ xs) all)
narrow f n Or t [] a all = refl
narrow f n Or t (x ∷ xs) a all =
    ap (all_of (no (f t))) (signs_renamed f false (x ∷ xs)) ∙ all_of_renamed f n (no t) (map no (x ∷ xs)) a (on_signs (λ i. i < n) false (x ∷ xs) all)
narrow f n Implies t [] a all = refl
narrow f n Implies t (x ∷ []) a all = refl
narrow f n Implies t (x ∷ y ∷ ys) a all =
    ap (all_of (no (f t))) (premises_renamed f x (y ∷ ys))
    ∙ all_of_renamed f n (no t) (premises (x ∷ y ∷ ys)) a (on_premises (λ i. i < n) x (y ∷ ys) (All-head (λ i. i < n) x (y ∷ ys) all) (All-tail (λ i. i < n) x (y ∷ ys) all))
narrow f n Ite t [] a all = refl
narrow f n Ite t (c ∷ []) a all = refl
narrow f n Ite t (c ∷ x ∷ []) a all = refl
narrow f n Ite t (c ∷ x ∷ y ∷ []) a all = chosen_renamed f n t c x y a (all 0 c (omega arith)) (all 1 x (omega arith)) (all 2 y (omega arith))
narrow f n Ite t (c ∷ x ∷ y ∷ z ∷ zs) a all = refl
narrow f n Xor t [] a all = refl
narrow f n Xor t (x ∷ []) a all = refl
narrow f n Xor t (x ∷ y ∷ []) a all = one_of_two_renamed f n (yes t) x y a (all 0 x (omega arith)) (all 1 y (omega arith))
narrow f n Xor t (x ∷ y ∷ z ∷ zs) a all = refl
narrow f n Distinct t [] a all = refl
narrow f n Distinct t (x ∷ []) a all = refl
narrow f n Distinct t (x ∷ y ∷ []) a all = one_of_two_renamed f n (yes t) x y a (all 0 x (omega arith)) (all 1 y (omega arith))
narrow f n Distinct t (x ∷ y ∷ z ∷ zs) a all = refl
narrow f n Equal t [] a all = refl
narrow f n Equal t (x ∷ []) a all = refl
narrow f n Equal t (x ∷ y ∷ []) a all = one_of_two_renamed f n (no t) x y a (all 0 x (omega arith)) (all 1 y (omega arith))
narrow f n Equal t (x ∷ y ∷ z ∷ zs) a all = refl
narrow f n o t xs a all = refl

wide : (f : ℕ → ℕ) (n : ℕ) (o : Operator) (t : ℕ) (xs : List ℕ) → Apart f n → All (λ i. i < n) xs → wide_clauses o (f t) (map f xs) ≡ renamed_all f (wide_clauses o t xs)
wide f n Equal t [] a all = refl
wide f n Equal t (x ∷ []) a all = refl
wide f n Equal t (x ∷ y ∷ []) a all = refl
wide f n Equal t (x ∷ y ∷ z ∷ zs) a all =
    let xs : List ℕ = x ∷ y ∷ z ∷ zs in
    ap (λ ss. alike (yes (f t)) (once ss)) (signs_renamed f true xs)
    ∙ ap (alike (yes (f t))) (once_renamed f n (map yes xs) a (on_signs (λ i. i < n) true xs all))
    ∙ alike_renamed f (yes t) (once (map yes xs))
wide f n Distinct t [] a all = refl
wide f n Distinct t (x ∷ []) a all = refl
wide f n Distinct t (x ∷ y ∷ []) a all = refl
wide f n Distinct t (x ∷ y ∷ z ∷ zs) a all = refl
wide f n Xor t [] a all = refl
wide f n Xor t (x ∷ []) a all = refl
wide f n Xor t (x ∷ y ∷ []) a all = refl
wide f n Xor t (x ∷ y ∷ z ∷ []) a all = odd_renamed f n t x y z a (all 0 x (omega arith)) (all 1 y (omega arith)) (all 2 z (omega arith))
wide f n Xor t (x ∷ y ∷ z ∷ w ∷ ws) a all = refl
wide f n o t xs a all = refl

pub node_renamed : (f : ℕ → ℕ) (n : ℕ) (o : Operator) (t : ℕ) (xs : List ℕ) → Apart f n → All (λ i. i < n) xs
    → node_clauses o (f t) (map f xs) ++ wide_clauses o (f t) (map f xs) ≡ renamed_all f (node_clauses o t xs ++ wide_clauses o t xs)
node_renamed f n o t xs a all =
    ap (λ cs. cs ++ wide_clauses o (f t) (map f xs)) (narrow f n o t xs a all)
    ∙ ap (λ cs. renamed_all f (node_clauses o t xs) ++ cs) (wide f n o t xs a all)
    ∙ sym (map-append (map (renamed f)) (node_clauses o t xs) (wide_clauses o t xs))
