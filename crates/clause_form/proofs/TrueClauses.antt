-- Each clause of a node is true at truth values that respect the node.
use Rattle.std.proofs.Common.{◌≡◌, ℕ, List, [], ◌∷◌, map, refl, sym, ◌∙◌, ap, Bool, true, false, not, ◌&&◌, ◌||◌, nat_eq, All, inl, inr}
use Rattle.std.proofs.lemmas.Bool.{eqb-true}
use Rattle.std.proofs.lemmas.List.Elements.{All-nil, All-cons}
use Rattle.std.specs.Prelude.{if◌then◌else◌, IsTrue}
use Rattle.smt_meaning.specs.declared.values.Value.{Value}
use Rattle.smt_meaning.specs.declared.values.Value.TheVariants.{Truth}
use Rattle.smt_meaning.specs.declared.terms.Operator.{Operator}
use Rattle.smt_meaning.specs.declared.terms.Operator.TheVariants.{True, False, Not, And, Or, Xor, Implies, Equal, Distinct, Ite}
use Rattle.smt_meaning.specs.Term.{bool_eq, truth_of, fold_left, fold_right, on_truths, xor, implies}
use Rattle.smt_meaning.specs.Forced.{Sign}
use Rattle.smt_meaning.specs.Forced.{some_sign_true, RespectsNode}
use Rattle.clause_form.specs.Signs.{yes, no, negated, sign_true, is_sign_in, once, clashes}
use Rattle.clause_form.specs.NodeClauses.{conjunction, never, all_of, parity, one_of_two, choices, chosen, premises, premises_from, node_clauses}
use Rattle.clause_form.proofs.Signs.{true_or_false, negated_true, in_cases, and_left, and_right, or_left, or_right}

abbrev pub each_true : (ℕ → Bool) → List Sign → Bool
each_true a [] = true
each_true a (s ∷ ss) = sign_true a s && each_true a ss

abbrev pub IsMet : (ℕ → Bool) → List Sign → Type 0
IsMet a c = IsTrue (some_sign_true a c)

-- ---- what is true of lists of literals

by_either : (b c : Bool) → elim b [ true ↦ true | false ↦ c ] ≡ (b || c)
by_either true c = refl
by_either false c = refl

pub some_cons : (a : ℕ → Bool) (s : Sign) (ss : List Sign) → some_sign_true a (s ∷ ss) ≡ (sign_true a s || some_sign_true a ss)
some_cons a s ss = by_either (sign_true a s) (some_sign_true a ss)

pub some_first : (a : ℕ → Bool) (s : Sign) (ss : List Sign) → sign_true a s ≡ true → IsMet a (s ∷ ss)
some_first a s ss h = some_cons a s ss ∙ or_left (sign_true a s) (some_sign_true a ss) h

pub some_rest : (a : ℕ → Bool) (s : Sign) (ss : List Sign) → IsMet a ss → IsMet a (s ∷ ss)
some_rest a s ss h = some_cons a s ss ∙ or_right (sign_true a s) (some_sign_true a ss) h

each_in_true : (a : ℕ → Bool) (s : Sign) (ss : List Sign) → is_sign_in s ss ≡ true → each_true a ss ≡ true → sign_true a s ≡ true
each_in_true a s [] h e = cc
each_in_true a s (u ∷ us) h e =
    in_cases (λ x. sign_true a x ≡ true) s u us (and_left (sign_true a u) (each_true a us) e)
    (λ g. each_in_true a s us g (and_right (sign_true a u) (each_true a us) e)) h

absorbed : (b c : Bool) → (c ≡ true → b ≡ true) → (b && c) ≡ c
absorbed true c h = refl
absorbed false true h = h refl
absorbed false false h = refl

pub once_true : (a : ℕ → Bool) (ss : List Sign) → each_true a (once ss) ≡ each_true a ss
once_true a [] = refl
once_true a (s ∷ ss) = at (is_sign_in s ss) refl (once_true a ss)
  where
    at : (b : Bool) → is_sign_in s ss ≡ b → each_true a (once ss) ≡ each_true a ss → each_true a (if b then once ss else s ∷ once ss) ≡ (sign_true a s && each_true a ss)
    at true e rec = rec ∙ sym (absorbed (sign_true a s) (each_true a ss) (λ h. each_in_true a s ss e h))
    at false e rec = ap (λ b. sign_true a s && b) rec

opposites : (b c : Bool) → c ≡ not b → (b ≡ true) → (c ≡ true) → ⊥
opposites true c e h k = cc
opposites false c e h k = cc

pub clash_false : (a : ℕ → Bool) (ss : List Sign) → clashes ss ≡ true → each_true a ss ≡ true → ⊥
clash_false a [] h e = cc
clash_false a (s ∷ ss) h e =
    elim (true_or_false (is_sign_in (negated s) ss)) [
      | inl i ↦
          opposites (sign_true a s) (sign_true a (negated s)) (negated_true a s) (and_left (sign_true a s) (each_true a ss) e)
          (each_in_true a (negated s) ss i (and_right (sign_true a s) (each_true a ss) e))
      | inr i ↦ clash_false a ss (sym (ap (λ b. b || clashes ss) i) ∙ h) (and_right (sign_true a s) (each_true a ss) e)
    ]

-- ---- conjunctions

pub not_true : (b c : Bool) → c ≡ not b → b ≡ false → c ≡ true
not_true true c e h = cc
not_true false c e h = e

pub negated_met : (a : ℕ → Bool) (ss : List Sign) → each_true a ss ≡ false → IsMet a (map negated ss)
negated_met a [] h = cc
negated_met a (s ∷ ss) h =
    elim (true_or_false (sign_true a s)) [
      | inl e ↦ some_rest a (negated s) (map negated ss) (negated_met a ss (sym (ap (λ b. b && each_true a ss) e) ∙ h))
      | inr e ↦ some_first a (negated s) (map negated ss) (not_true (sign_true a s) (sign_true a (negated s)) (negated_true a s) e)
    ]

pairs_met : (a : ℕ → Bool) (out : Sign) (ss : List Sign) → (sign_true a out ≡ true → each_true a ss ≡ true)
    → All (IsMet a) (map (λ (s : Sign). negated out ∷ s ∷ []) ss)
pairs_met a out [] h = All-nil (IsMet a)
pairs_met a out (s ∷ ss) h =
    All-cons (IsMet a) (negated out ∷ s ∷ []) (map (λ (s : Sign). negated out ∷ s ∷ []) ss)
    (elim (true_or_false (sign_true a out)) [
      | inl e ↦ some_rest a (negated out) (s ∷ []) (some_first a s [] (and_left (sign_true a s) (each_true a ss) (h e)))
      | inr e ↦ some_first a (negated out) (s ∷ []) (not_true (sign_true a out) (sign_true a (negated out)) (negated_true a out) e)
    ])
    (pairs_met a out ss (λ e. and_right (sign_true a s) (each_true a ss) (h e)))

pub conjunction_met : (a : ℕ → Bool) (out : Sign) (ss : List Sign) → sign_true a out ≡ each_true a ss → All (IsMet a) (conjunction out ss)
conjunction_met a out ss e =
    All-cons (IsMet a) (out ∷ map negated ss) (map (λ (s : Sign). negated out ∷ s ∷ []) ss)
    (elim (true_or_false (sign_true a out)) [
      | inl h ↦ some_first a out (map negated ss) h
      | inr h ↦ some_rest a out (map negated ss) (negated_met a ss (sym e ∙ h))
    ])
    (pairs_met a out ss (λ h. sym e ∙ h))

pub never_met : (a : ℕ → Bool) (out : Sign) → sign_true a out ≡ false → All (IsMet a) (never out)
never_met a out h =
    All-cons (IsMet a) (negated out ∷ []) [] (some_first a (negated out) [] (not_true (sign_true a out) (sign_true a (negated out)) (negated_true a out) h)) (All-nil (IsMet a))

is_false : (b : Bool) → (b ≡ true → ⊥) → b ≡ false
is_false true h = absurd (h refl)
is_false false h = refl

pub all_of_met : (a : ℕ → Bool) (out : Sign) (ss : List Sign) → sign_true a out ≡ each_true a ss → All (IsMet a) (all_of out ss)
all_of_met a out ss e = at (clashes ss) refl
  where
    at : (b : Bool) → clashes ss ≡ b → All (IsMet a) (if b then never out else conjunction out (once ss))
    at true c = never_met a out (e ∙ is_false (each_true a ss) (clash_false a ss c))
    at false c = conjunction_met a out (once ss) (e ∙ sym (once_true a ss))

-- ---- one of two, and choices

xor_false : (b : Bool) → xor b b ≡ false
xor_false true = refl
xor_false false = refl

three : (a : ℕ → Bool) (s u v : Sign) → (sign_true a s || (sign_true a u || (sign_true a v || false))) ≡ true → IsMet a (s ∷ u ∷ v ∷ [])
three a s u v h =
    some_cons a s (u ∷ v ∷ [])
    ∙ ap (λ b. sign_true a s || b) (some_cons a u (v ∷ []) ∙ ap (λ b. sign_true a u || b) (some_cons a v []))
    ∙ h

pub parity_met : (a : ℕ → Bool) (out : Sign) (x y : ℕ) → sign_true a out ≡ xor (a x) (a y) → All (IsMet a) (parity out x y)
parity_met a out x y e =
    All-cons (IsMet a) (negated out ∷ yes x ∷ yes y ∷ []) ((negated out ∷ no x ∷ no y ∷ []) ∷ (out ∷ no x ∷ yes y ∷ []) ∷ (out ∷ yes x ∷ no y ∷ []) ∷ []) (three a (negated out) (yes x) (yes y) (rw (negated_true a out, e) (first (a x) (a y))))
    (All-cons (IsMet a) (negated out ∷ no x ∷ no y ∷ []) ((out ∷ no x ∷ yes y ∷ []) ∷ (out ∷ yes x ∷ no y ∷ []) ∷ []) (three a (negated out) (no x) (no y) (rw (negated_true a out, e) (second (a x) (a y))))
    (All-cons (IsMet a) (out ∷ no x ∷ yes y ∷ []) ((out ∷ yes x ∷ no y ∷ []) ∷ []) (three a out (no x) (yes y) (rw e (third (a x) (a y))))
    (All-cons (IsMet a) (out ∷ yes x ∷ no y ∷ []) ([]) (three a out (yes x) (no y) (rw e (fourth (a x) (a y)))) (All-nil (IsMet a)))))
  where
    first : (p q : Bool) → (not (xor p q) || (bool_eq p true || (bool_eq q true || false))) ≡ true
    first true true = refl
    first true false = refl
    first false true = refl
    first false false = refl

    second : (p q : Bool) → (not (xor p q) || (bool_eq p false || (bool_eq q false || false))) ≡ true
    second true true = refl
    second true false = refl
    second false true = refl
    second false false = refl

    third : (p q : Bool) → (xor p q || (bool_eq p false || (bool_eq q true || false))) ≡ true
    third true true = refl
    third true false = refl
    third false true = refl
    third false false = refl

    fourth : (p q : Bool) → (xor p q || (bool_eq p true || (bool_eq q false || false))) ≡ true
    fourth true true = refl
    fourth true false = refl
    fourth false true = refl
    fourth false false = refl

pub one_of_two_met : (a : ℕ → Bool) (out : Sign) (x y : ℕ) → sign_true a out ≡ xor (a x) (a y) → All (IsMet a) (one_of_two out x y)
one_of_two_met a out x y e = at (nat_eq x y) refl
  where
    at : (b : Bool) → nat_eq x y ≡ b → All (IsMet a) (if b then never out else parity out x y)
    at true h = never_met a out (e ∙ ap (λ i. xor (a x) (a i)) (sym (eqb-true x y h)) ∙ xor_false (a x))
    at false h = parity_met a out x y e

select : Bool → Bool → Bool → Bool
select c x y = if c then x else y

choices_met : (a : ℕ → Bool) (t c x y : ℕ) → a t ≡ (if a c then a x else a y) → All (IsMet a) (choices t c x y)
choices_met a t c x y e =
    All-cons (IsMet a) (no c ∷ no x ∷ yes t ∷ []) ((no c ∷ yes x ∷ no t ∷ []) ∷ (yes c ∷ no y ∷ yes t ∷ []) ∷ (yes c ∷ yes y ∷ no t ∷ []) ∷ (no x ∷ no y ∷ yes t ∷ []) ∷ (yes x ∷ yes y ∷ no t ∷ []) ∷ []) (three a (no c) (no x) (yes t) (rw e (first (a c) (a x) (a y))))
    (All-cons (IsMet a) (no c ∷ yes x ∷ no t ∷ []) ((yes c ∷ no y ∷ yes t ∷ []) ∷ (yes c ∷ yes y ∷ no t ∷ []) ∷ (no x ∷ no y ∷ yes t ∷ []) ∷ (yes x ∷ yes y ∷ no t ∷ []) ∷ []) (three a (no c) (yes x) (no t) (rw e (second (a c) (a x) (a y))))
    (All-cons (IsMet a) (yes c ∷ no y ∷ yes t ∷ []) ((yes c ∷ yes y ∷ no t ∷ []) ∷ (no x ∷ no y ∷ yes t ∷ []) ∷ (yes x ∷ yes y ∷ no t ∷ []) ∷ []) (three a (yes c) (no y) (yes t) (rw e (third (a c) (a x) (a y))))
    (All-cons (IsMet a) (yes c ∷ yes y ∷ no t ∷ []) ((no x ∷ no y ∷ yes t ∷ []) ∷ (yes x ∷ yes y ∷ no t ∷ []) ∷ []) (three a (yes c) (yes y) (no t) (rw e (fourth (a c) (a x) (a y))))
    (All-cons (IsMet a) (no x ∷ no y ∷ yes t ∷ []) ((yes x ∷ yes y ∷ no t ∷ []) ∷ []) (three a (no x) (no y) (yes t) (rw e (fifth (a c) (a x) (a y))))
    (All-cons (IsMet a) (yes x ∷ yes y ∷ no t ∷ []) ([]) (three a (yes x) (yes y) (no t) (rw e (sixth (a c) (a x) (a y)))) (All-nil (IsMet a)))))))
  where
    first : (c x y : Bool) → (bool_eq c false || (bool_eq x false || (bool_eq (if c then x else y) true || false))) ≡ true
    first false x y = refl
    first true false y = refl
    first true true y = refl

    second : (c x y : Bool) → (bool_eq c false || (bool_eq x true || (bool_eq (if c then x else y) false || false))) ≡ true
    second false x y = refl
    second true false y = refl
    second true true y = refl

    third : (c x y : Bool) → (bool_eq c true || (bool_eq y false || (bool_eq (if c then x else y) true || false))) ≡ true
    third true x y = refl
    third false x true = refl
    third false x false = refl

    fourth : (c x y : Bool) → (bool_eq c true || (bool_eq y true || (bool_eq (if c then x else y) false || false))) ≡ true
    fourth true x y = refl
    fourth false x true = refl
    fourth false x false = refl

    fifth : (c x y : Bool) → (bool_eq x false || (bool_eq y false || (bool_eq (if c then x else y) true || false))) ≡ true
    fifth c false y = refl
    fifth c true false = refl
    fifth true true true = refl
    fifth false true true = refl

    sixth : (c x y : Bool) → (bool_eq x true || (bool_eq y true || (bool_eq (if c then x else y) false || false))) ≡ true
    sixth c true y = refl
    sixth c false true = refl
    sixth true false false = refl
    sixth false false false = refl

chosen_met : (a : ℕ → Bool) (t c x y : ℕ) → a t ≡ (if a c then a x else a y) → All (IsMet a) (chosen t c x y)
chosen_met a t c x y e = same_branches (nat_eq x y) refl
  where
    same_then : (b c x y : Bool) → b ≡ (if c then x else y) → x ≡ y → bool_eq b true ≡ (bool_eq x true && true)
    same_then b true x y h k = ap (λ d. bool_eq d true) h ∙ as_true x
      where
        as_true : (x : Bool) → bool_eq x true ≡ (bool_eq x true && true)
        as_true true = refl
        as_true false = refl
    same_then b false x y h k = ap (λ d. bool_eq d true) (h ∙ sym k) ∙ as_true x
      where
        as_true : (x : Bool) → bool_eq x true ≡ (bool_eq x true && true)
        as_true true = refl
        as_true false = refl

    or_then : (b c y : Bool) → b ≡ (if c then c else y) → bool_eq b false ≡ (bool_eq c false && (bool_eq y false && true))
    or_then b true y h = ap (λ d. bool_eq d false) h
    or_then b false true h = ap (λ d. bool_eq d false) h
    or_then b false false h = ap (λ d. bool_eq d false) h

    and_then : (b c x : Bool) → b ≡ (if c then x else c) → bool_eq b true ≡ (bool_eq c true && (bool_eq x true && true))
    and_then b true true h = ap (λ d. bool_eq d true) h
    and_then b true false h = ap (λ d. bool_eq d true) h
    and_then b false x h = ap (λ d. bool_eq d true) h

    third : (b : Bool) → nat_eq c y ≡ b → All (IsMet a) (if b then conjunction (yes t) (yes c ∷ yes x ∷ []) else choices t c x y)
    third true h = conjunction_met a (yes t) (yes c ∷ yes x ∷ []) (and_then (a t) (a c) (a x) (e ∙ ap (λ i. if a c then a x else a i) (sym (eqb-true c y h))))
    third false h = choices_met a t c x y e

    second : (b : Bool) → nat_eq c x ≡ b → All (IsMet a) (if b then conjunction (no t) (no c ∷ no y ∷ []) else (if nat_eq c y then conjunction (yes t) (yes c ∷ yes x ∷ []) else choices t c x y))
    second true h = conjunction_met a (no t) (no c ∷ no y ∷ []) (or_then (a t) (a c) (a y) (e ∙ ap (λ i. if a c then a i else a y) (sym (eqb-true c x h))))
    second false h = third (nat_eq c y) refl

    same_branches : (b : Bool) → nat_eq x y ≡ b
        → All (IsMet a) (if b then conjunction (yes t) (yes x ∷ []) else (if nat_eq c x then conjunction (no t) (no c ∷ no y ∷ []) else (if nat_eq c y then conjunction (yes t) (yes c ∷ yes x ∷ []) else choices t c x y)))
    same_branches true h = conjunction_met a (yes t) (yes x ∷ []) (same_then (a t) (a c) (a x) (a y) e (ap a (eqb-true x y h)))
    same_branches false h = second (nat_eq c x) refl

-- ---- operators

abbrev values_of : (ℕ → Bool) → List ℕ → List Value
values_of a xs = map (λ i. Truth (a i)) xs

pub and_from : (a : ℕ → Bool) (b : Bool) (xs : List ℕ) → truth_of (fold_left (on_truths ◌&&◌) (Truth b) (values_of a xs)) ≡ (b && each_true a (map yes xs))
and_from a true [] = refl
and_from a false [] = refl
and_from a true (x ∷ xs) = and_from a (a x) xs ∙ ap (λ b. b && each_true a (map yes xs)) (sym (as_true (a x)))
  where
    as_true : (b : Bool) → bool_eq b true ≡ b
    as_true true = refl
    as_true false = refl
and_from a false (x ∷ xs) = and_from a false xs

pub as_true : (b : Bool) → bool_eq b true ≡ b
as_true true = refl
as_true false = refl

pub as_false : (b : Bool) → bool_eq b false ≡ not b
as_false true = refl
as_false false = refl

pub or_from : (a : ℕ → Bool) (b : Bool) (xs : List ℕ) → not (truth_of (fold_left (on_truths ◌||◌) (Truth b) (values_of a xs))) ≡ (not b && each_true a (map no xs))
or_from a true [] = refl
or_from a false [] = refl
or_from a true (x ∷ xs) = or_from a true xs
or_from a false (x ∷ xs) = or_from a (a x) xs ∙ ap (λ b. b && each_true a (map no xs)) (sym (as_false (a x)))

-- the implication is false exactly where its premises are true and its conclusion is false
pub implies_from : (a : ℕ → Bool) (x : ℕ) (xs : List ℕ) → not (truth_of (fold_right (on_truths implies) (Truth (a x)) (values_of a xs))) ≡ each_true a (premises_from x xs)
implies_from a x [] = sym (last (a x))
  where
    last : (b : Bool) → (bool_eq b false && true) ≡ not b
    last true = refl
    last false = refl
implies_from a x (y ∷ ys) = step (a x) (truth_of (fold_right (on_truths implies) (Truth (a y)) (values_of a ys))) ∙ ap (λ b. bool_eq (a x) true && b) (implies_from a y ys)
  where
    step : (b c : Bool) → not (implies b c) ≡ (bool_eq b true && not c)
    step true true = refl
    step true false = refl
    step false c = refl

pub met : (a : ℕ → Bool) (o : Operator) (t : ℕ) (xs : List ℕ) → RespectsNode a o t xs → All (IsMet a) (node_clauses o t xs)
met a True t xs h = all_of_met a (yes t) [] (ap (λ b. bool_eq b true) h)
met a False t xs h = all_of_met a (no t) [] (ap (λ b. bool_eq b false) h)
met a Not t (x ∷ []) h = all_of_met a (yes t) (no x ∷ []) (ap (λ b. bool_eq b true) h ∙ at (a x))
  where
    at : (b : Bool) → bool_eq (not b) true ≡ (bool_eq b false && true)
    at true = refl
    at false = refl
met a And t (x ∷ xs) h =
    all_of_met a (yes t) (map yes (x ∷ xs)) (as_true (a t) ∙ h ∙ and_from a (a x) xs ∙ ap (λ b. b && each_true a (map yes xs)) (sym (as_true (a x))))
met a Or t (x ∷ xs) h =
    all_of_met a (no t) (map no (x ∷ xs)) (as_false (a t) ∙ ap not h ∙ or_from a (a x) xs ∙ ap (λ b. b && each_true a (map no xs)) (sym (as_false (a x))))
met a Implies t (x ∷ y ∷ ys) h = all_of_met a (no t) (premises (x ∷ y ∷ ys)) (as_false (a t) ∙ ap not h ∙ implies_from a x (y ∷ ys))
met a Ite t (c ∷ x ∷ y ∷ []) h = chosen_met a t c x y (h ∙ at (a c) (a x) (a y))
  where
    at : (c x y : Bool) → truth_of (if c then Truth x else Truth y) ≡ (if c then x else y)
    at true x y = refl
    at false x y = refl
met a Xor t (x ∷ y ∷ []) h = one_of_two_met a (yes t) x y (as_true (a t) ∙ h)
met a Distinct t (x ∷ y ∷ []) h = one_of_two_met a (yes t) x y (as_true (a t) ∙ h ∙ at (a x) (a y))
  where
    at : (b c : Bool) → ((not (bool_eq b c) && true) && true) ≡ xor b c
    at true true = refl
    at true false = refl
    at false true = refl
    at false false = refl
met a Equal t (x ∷ y ∷ []) h = one_of_two_met a (no t) x y (as_false (a t) ∙ ap not h ∙ at (a x) (a y))
  where
    at : (b c : Bool) → not (bool_eq b c && true) ≡ xor b c
    at true true = refl
    at true false = refl
    at false true = refl
    at false false = refl
met a o t xs h = All-nil (IsMet a)
