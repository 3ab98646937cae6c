-- Truth values that make the clauses of a node true respect the node.
use Rattle.std.proofs.Common.{◌≡◌, ℕ, List, [], ◌∷◌, ◌++◌, map, refl, sym, ◌∙◌, ap, subst, Bool, true, false, not, ◌&&◌, ◌||◌, nat_eq, All, inl, inr, arith}
use Rattle.std.specs.Prelude.{if◌then◌else◌}
use Rattle.std.proofs.lemmas.Bool.{eqb-true}
use Rattle.std.proofs.lemmas.List.Elements.{All-nil, All-cons, All-head, All-tail}
use Rattle.smt_meaning.specs.declared.values.Value.TheVariants.{Truth}
use Rattle.smt_meaning.specs.declared.terms.Operator.{Operator}
use Rattle.smt_meaning.specs.declared.terms.Operator.TheVariants.{True, False, Not, And, Or, Xor, Implies, Equal, Distinct, Ite}
use Rattle.smt_meaning.specs.Term.{bool_eq, xor, truth_of}
use Rattle.smt_meaning.specs.Forced.{Sign, some_sign_true, RespectsNode}
use Rattle.clause_form.specs.Signs.{sign, yes, no, negated, sign_true, is_sign_in, once, clashes}
use Rattle.clause_form.specs.NodeClauses.{conjunction, never, all_of, parity, one_of_two, choices, chosen, premises, node_clauses}
use Rattle.clause_form.specs.WideClauses.{round, alike, excluding, parity_of_three, odd_of_three, wide_clauses}
use Rattle.clause_form.proofs.Signs.{true_or_false, negated_true, bool_eq-true}
use Rattle.clause_form.proofs.TrueClauses.{IsMet, each_true, some_cons, once_true, clash_false, and_from, or_from, implies_from, as_true, as_false}
use Rattle.clause_form.proofs.WideTrue.{agree, once_agree, chain_agrees, three_differ}
use Rattle.clause_form.specs.NodeClausesLaws.{fits_node}
use Rattle.clause_form.specs.ForcedClausesLaws.{fits_clauses}

abbrev AreMet : (ℕ → Bool) → List (List Sign) → Type 0
AreMet a cs = All (IsMet a) cs

first_met : (a : ℕ → Bool) (c : List Sign) (cs : List (List Sign)) → AreMet a (c ∷ cs) → IsMet a c
first_met a c cs all = All-head (IsMet a) c cs all

rest_met : (a : ℕ → Bool) (c : List Sign) (cs : List (List Sign)) → AreMet a (c ∷ cs) → AreMet a cs
rest_met a c cs all = All-tail (IsMet a) c cs all

wrong : {X : Type 0} → false ≡ true → X
wrong h = absurd (let e : false ≡ true = h in cc)

not_same : (b c : Bool) → not b ≡ not c → b ≡ c
not_same true true h = refl
not_same true false h = wrong h
not_same false true h = wrong (sym h)
not_same false false h = refl

three_is : (a : ℕ → Bool) (s u v : Sign) → IsMet a (s ∷ u ∷ v ∷ []) → (sign_true a s || (sign_true a u || (sign_true a v || false))) ≡ true
three_is a s u v h =
    sym (some_cons a s (u ∷ v ∷ []) ∙ ap (λ b. sign_true a s || b) (some_cons a u (v ∷ []) ∙ ap (λ b. sign_true a u || b) (some_cons a v []))) ∙ h

-- ---- conjunctions

pairs_decide : (a : ℕ → Bool) (out : Sign) (ss : List Sign) → AreMet a (map (λ (s : Sign). negated out ∷ s ∷ []) ss) → sign_true a out ≡ true → each_true a ss ≡ true
pairs_decide a out [] all h = refl
pairs_decide a out (s ∷ ss) all h =
    ap (λ b. b && each_true a ss)
    (second (sign_true a out) (sign_true a s) h
    (sym (some_cons a (negated out) (s ∷ []) ∙ ap (λ b. b || some_sign_true a (s ∷ [])) (negated_true a out) ∙ ap (λ b. not (sign_true a out) || b) (some_cons a s []))
    ∙ first_met a (negated out ∷ s ∷ []) (map (λ (s : Sign). negated out ∷ s ∷ []) ss) all))
    ∙ pairs_decide a out ss (rest_met a (negated out ∷ s ∷ []) (map (λ (s : Sign). negated out ∷ s ∷ []) ss) all) h
  where
    second : (o p : Bool) → o ≡ true → (not o || (p || false)) ≡ true → p ≡ true
    second true true h k = refl
    second true false h k = wrong k
    second false p h k = wrong h

negated_decide : (a : ℕ → Bool) (ss : List Sign) → IsMet a (map negated ss) → each_true a ss ≡ false
negated_decide a [] h = wrong h
negated_decide a (s ∷ ss) h =
    elim (true_or_false (sign_true a s)) [
      | inl e ↦
          ap (λ b. b && each_true a ss) e
          ∙ negated_decide a ss (sym (some_cons a (negated s) (map negated ss) ∙ ap (λ b. b || some_sign_true a (map negated ss)) (negated_true a s ∙ ap not e)) ∙ h)
      | inr e ↦ ap (λ b. b && each_true a ss) e
    ]

conjunction_decides : (a : ℕ → Bool) (out : Sign) (ss : List Sign) → AreMet a (conjunction out ss) → sign_true a out ≡ each_true a ss
conjunction_decides a out ss all =
    elim (true_or_false (sign_true a out)) [
      | inl t ↦ t ∙ sym (pairs_decide a out ss (rest_met a (out ∷ map negated ss) (map (λ (s : Sign). negated out ∷ s ∷ []) ss) all) t)
      | inr f ↦
          f ∙ sym (negated_decide a ss
          (sym (some_cons a out (map negated ss) ∙ ap (λ b. b || some_sign_true a (map negated ss)) f) ∙ first_met a (out ∷ map negated ss) (map (λ (s : Sign). negated out ∷ s ∷ []) ss) all))
    ]

never_decides : (a : ℕ → Bool) (out : Sign) → AreMet a (never out) → sign_true a out ≡ false
never_decides a out all =
    at (sign_true a out) (sym (some_cons a (negated out) [] ∙ ap (λ b. b || false) (negated_true a out)) ∙ first_met a (negated out ∷ []) [] all)
  where
    at : (b : Bool) → (not b || false) ≡ true → b ≡ false
    at true h = wrong h
    at false h = refl

is_false : (b : Bool) → (b ≡ true → ⊥) → b ≡ false
is_false true h = absurd (h refl)
is_false false h = refl

all_of_decides : (a : ℕ → Bool) (out : Sign) (ss : List Sign) → AreMet a (all_of out ss) → sign_true a out ≡ each_true a ss
all_of_decides a out ss = at (clashes ss) refl
  where
    at : (b : Bool) → clashes ss ≡ b → AreMet a (if b then never out else conjunction out (once ss)) → sign_true a out ≡ each_true a ss
    at true e all = never_decides a out all ∙ sym (is_false (each_true a ss) (clash_false a ss e))
    at false e all = conjunction_decides a out (once ss) all ∙ once_true a ss

-- ---- one of two, and choices

parity_decides : (o p q : Bool) → (not o || (bool_eq p true || (bool_eq q true || false))) ≡ true → (not o || (bool_eq p false || (bool_eq q false || false))) ≡ true
    → (o || (bool_eq p false || (bool_eq q true || false))) ≡ true → (o || (bool_eq p true || (bool_eq q false || false))) ≡ true → o ≡ xor p q
parity_decides true true true h k m n = wrong k
parity_decides true true false h k m n = refl
parity_decides true false true h k m n = refl
parity_decides true false false h k m n = wrong h
parity_decides false true true h k m n = refl
parity_decides false true false h k m n = wrong m
parity_decides false false true h k m n = wrong n
parity_decides false false false h k m n = refl

one_of_two_decides : (a : ℕ → Bool) (out : Sign) (x y : ℕ) → AreMet a (one_of_two out x y) → sign_true a out ≡ xor (a x) (a y)
one_of_two_decides a out x y = at (nat_eq x y) refl
  where
    xor_false : (b : Bool) → xor b b ≡ false
    xor_false true = refl
    xor_false false = refl

    turned : (s u v : Sign) → IsMet a (negated s ∷ u ∷ v ∷ []) → (not (sign_true a s) || (sign_true a u || (sign_true a v || false))) ≡ true
    turned s u v h = sym (ap (λ b. b || (sign_true a u || (sign_true a v || false))) (negated_true a s)) ∙ three_is a (negated s) u v h

    at : (b : Bool) → nat_eq x y ≡ b → AreMet a (if b then never out else parity out x y) → sign_true a out ≡ xor (a x) (a y)
    at true e all = never_decides a out all ∙ sym (xor_false (a x)) ∙ ap (λ i. xor (a x) (a i)) (eqb-true x y e)
    at false e all =
        parity_decides (sign_true a out) (a x) (a y) (turned out (yes x) (yes y) (all 0 [] (omega arith))) (turned out (no x) (no y) (all 1 [] (omega arith)))
        (three_is a out (no x) (yes y) (all 2 [] (omega arith))) (three_is a out (yes x) (no y) (all 3 [] (omega arith)))

choices_decide : (t c x y : Bool) → (bool_eq c false || (bool_eq x false || (bool_eq t true || false))) ≡ true → (bool_eq c false || (bool_eq x true || (bool_eq t false || false))) ≡ true
    → (bool_eq c true || (bool_eq y false || (bool_eq t true || false))) ≡ true → (bool_eq c true || (bool_eq y true || (bool_eq t false || false))) ≡ true → t ≡ (if c then x else y)
choices_decide true true true y h k m n = refl
choices_decide true true false y h k m n = wrong k
choices_decide true false x true h k m n = refl
choices_decide true false x false h k m n = wrong n
choices_decide false true true y h k m n = wrong h
choices_decide false true false y h k m n = refl
choices_decide false false x true h k m n = wrong m
choices_decide false false x false h k m n = refl

same_truth : (b c : Bool) → bool_eq b true ≡ bool_eq c true → b ≡ c
same_truth b c h = sym (as_true b) ∙ h ∙ as_true c

and_true : (b : Bool) → (b && true) ≡ b
and_true true = refl
and_true false = refl

one_decides : (a : ℕ → Bool) (t x : ℕ) → AreMet a (conjunction (yes t) (yes x ∷ [])) → a t ≡ a x
one_decides a t x all = same_truth (a t) (a x) (conjunction_decides a (yes t) (yes x ∷ []) all ∙ and_true (bool_eq (a x) true))

chosen_decides : (a : ℕ → Bool) (t c x y : ℕ) → AreMet a (chosen t c x y) → a t ≡ (if a c then a x else a y)
chosen_decides a t c x y = first (nat_eq x y) refl
  where
    same : (c p q : Bool) → p ≡ q → p ≡ (if c then p else q)
    same true p q e = refl
    same false p q e = e

    or_decides : (b c y : Bool) → bool_eq b false ≡ (bool_eq c false && (bool_eq y false && true)) → b ≡ (if c then c else y)
    or_decides true true y h = refl
    or_decides true false true h = refl
    or_decides true false false h = wrong h
    or_decides false true y h = wrong (sym h)
    or_decides false false true h = wrong (sym h)
    or_decides false false false h = refl

    and_decides : (b c x : Bool) → bool_eq b true ≡ (bool_eq c true && (bool_eq x true && true)) → b ≡ (if c then x else c)
    and_decides true true true h = refl
    and_decides true true false h = wrong (sym h)
    and_decides true false x h = wrong (sym h)
    and_decides false true true h = wrong h
    and_decides false true false h = refl
    and_decides false false x h = refl

    third : (b : Bool) → nat_eq c y ≡ b → AreMet a (if b then conjunction (yes t) (yes c ∷ yes x ∷ []) else choices t c x y) → a t ≡ (if a c then a x else a y)
    third true h all = and_decides (a t) (a c) (a x) (conjunction_decides a (yes t) (yes c ∷ yes x ∷ []) all) ∙ ap (λ i. if a c then a x else a i) (eqb-true c y h)
    third false h all =
        choices_decide (a t) (a c) (a x) (a y) (three_is a (no c) (no x) (yes t) (all 0 [] (omega arith))) (three_is a (no c) (yes x) (no t) (all 1 [] (omega arith)))
        (three_is a (yes c) (no y) (yes t) (all 2 [] (omega arith))) (three_is a (yes c) (yes y) (no t) (all 3 [] (omega arith)))

    second : (b : Bool) → nat_eq c x ≡ b → AreMet a (if b then conjunction (no t) (no c ∷ no y ∷ []) else (if nat_eq c y then conjunction (yes t) (yes c ∷ yes x ∷ []) else choices t c x y))
        → a t ≡ (if a c then a x else a y)
    second true h all = or_decides (a t) (a c) (a y) (conjunction_decides a (no t) (no c ∷ no y ∷ []) all) ∙ ap (λ i. if a c then a i else a y) (eqb-true c x h)
    second false h all = third (nat_eq c y) refl all

    first : (b : Bool) → nat_eq x y ≡ b
        → AreMet a (if b then conjunction (yes t) (yes x ∷ []) else (if nat_eq c x then conjunction (no t) (no c ∷ no y ∷ []) else (if nat_eq c y then conjunction (yes t) (yes c ∷ yes x ∷ []) else choices t c x y)))
        → a t ≡ (if a c then a x else a y)
    first true h all = one_decides a t x all ∙ same (a c) (a x) (a y) (ap a (eqb-true x y h))
    first false h all = second (nat_eq c x) refl all

-- ---- the wide clauses

forward : (o s u : Bool) → (not o || (not s || (u || false))) ≡ true → o ≡ true → s ≡ true → u ≡ true
forward true true true h p q = refl
forward true true false h p q = wrong h
forward true false u h p q = wrong q
forward false s u h p q = wrong p

backward : (o s u : Bool) → (not o || (not s || (u || false))) ≡ true → o ≡ true → u ≡ false → s ≡ false
backward true true true h p q = wrong (sym q)
backward true true false h p q = wrong h
backward true false u h p q = refl
backward false s u h p q = wrong p

step_is : (a : ℕ → Bool) (out s u : Sign) → IsMet a (negated out ∷ negated s ∷ u ∷ []) → (not (sign_true a out) || (not (sign_true a s) || (sign_true a u || false))) ≡ true
step_is a out s u h =
    sym (ap (λ b. b || (sign_true a (negated s) || (sign_true a u || false))) (negated_true a out) ∙ ap (λ b. not (sign_true a out) || (b || (sign_true a u || false))) (negated_true a s))
    ∙ three_is a (negated out) (negated s) u h

round_up : (a : ℕ → Bool) (out first s : Sign) (us : List Sign) → AreMet a (round out first s us) → sign_true a out ≡ true → sign_true a s ≡ true → each_true a us ≡ true
round_up a out first s [] all o h = refl
round_up a out first s (u ∷ us) all o h =
    let next : sign_true a u ≡ true = forward (sign_true a out) (sign_true a s) (sign_true a u) (step_is a out s u (first_met a (negated out ∷ negated s ∷ u ∷ []) (round out first u us) all)) o h in
    ap (λ b. b && each_true a us) next ∙ round_up a out first u us (rest_met a (negated out ∷ negated s ∷ u ∷ []) (round out first u us) all) o next

or_false : (b c : Bool) → b ≡ false → c ≡ false → (b || c) ≡ false
or_false true c h k = wrong (sym h)
or_false false c h k = k

round_down : (a : ℕ → Bool) (out first s : Sign) (us : List Sign) → AreMet a (round out first s us) → sign_true a out ≡ true → sign_true a first ≡ false → some_sign_true a (s ∷ us) ≡ false
round_down a out first s [] all o h =
    some_cons a s []
    ∙ or_false (sign_true a s) false (backward (sign_true a out) (sign_true a s) (sign_true a first) (step_is a out s first (first_met a (negated out ∷ negated s ∷ first ∷ []) [] all)) o h) refl
round_down a out first s (u ∷ us) all o h =
    let later : some_sign_true a (u ∷ us) ≡ false = round_down a out first u us (rest_met a (negated out ∷ negated s ∷ u ∷ []) (round out first u us) all) o h in
    let next : sign_true a u ≡ false = left (sign_true a u) (some_sign_true a us) (sym (some_cons a u us) ∙ later) in
    some_cons a s (u ∷ us)
    ∙ or_false (sign_true a s) (some_sign_true a (u ∷ us))
    (backward (sign_true a out) (sign_true a s) (sign_true a u) (step_is a out s u (first_met a (negated out ∷ negated s ∷ u ∷ []) (round out first u us) all)) o next) later
  where
    left : (b c : Bool) → (b || c) ≡ false → b ≡ false
    left true c k = wrong (sym k)
    left false c k = refl

alike_decides : (a : ℕ → Bool) (out s : Sign) (us : List Sign) → AreMet a (alike out (s ∷ us)) → sign_true a out ≡ agree a (s ∷ us)
alike_decides a out s [] all =
    left (sign_true a out) (sym (some_cons a out []) ∙ first_met a (out ∷ []) [] all) ∙ sym (ap (λ b. (sign_true a s && true) || not b) (some_cons a s []) ∙ one (sign_true a s))
  where
    left : (b : Bool) → (b || false) ≡ true → b ≡ true
    left true h = refl
    left false h = wrong h

    one : (p : Bool) → ((p && true) || not (p || false)) ≡ true
    one true = refl
    one false = refl
alike_decides a out s (u ∷ us) all =
    elim (true_or_false (sign_true a out)) [
      | inl t ↦
          elim (true_or_false (sign_true a s)) [
            | inl h ↦ t ∙ sym (ap (λ b. b || not (some_sign_true a ss)) (ap (λ b. b && each_true a (u ∷ us)) h ∙ round_up a out s s (u ∷ us) rounds t h))
            | inr h ↦ t ∙ sym (ap (λ b. each_true a ss || not b) (round_down a out s s (u ∷ us) rounds t h) ∙ or_true (each_true a ss))
          ]
      | inr f ↦
          (let none : each_true a ss ≡ false =
          negated_decide a ss (sym (some_cons a out (map negated ss) ∙ ap (λ b. b || some_sign_true a (map negated ss)) f) ∙ first_met a (out ∷ map negated ss) ((out ∷ ss) ∷ round out s s (u ∷ us)) all) in
          let some : some_sign_true a ss ≡ true = sym (some_cons a out ss ∙ ap (λ b. b || some_sign_true a ss) f) ∙ first_met a (out ∷ ss) (round out s s (u ∷ us)) (rest_met a (out ∷ map negated ss) ((out ∷ ss) ∷ round out s s (u ∷ us)) all) in
          f ∙ sym (ap (λ b. b || not (some_sign_true a ss)) none ∙ ap not some))
    ]
  where
    ss : List Sign
    ss = s ∷ u ∷ us

    rounds : AreMet a (round out s s (u ∷ us))
    rounds = rest_met a (out ∷ ss) (round out s s (u ∷ us)) (rest_met a (out ∷ map negated ss) ((out ∷ ss) ∷ round out s s (u ∷ us)) all)

    or_true : (b : Bool) → (b || true) ≡ true
    or_true true = refl
    or_true false = refl

-- some literal is left where each is kept once
record IsCons (ss : List Sign) : Type 0 where
  first : Sign
  others : List Sign
  is : ss ≡ first ∷ others

once_cons : (s : Sign) (ss : List Sign) → IsCons (once (s ∷ ss))
once_cons s [] = record { first = s; others = []; is = refl }
once_cons s (u ∷ us) = at (is_sign_in s (u ∷ us)) (once_cons u us)
  where
    at : (b : Bool) → IsCons (once (u ∷ us)) → IsCons (if b then once (u ∷ us) else s ∷ once (u ∷ us))
    at true c = c
    at false c = record { first = s; others = once (u ∷ us); is = refl }

equal_decides : (a : ℕ → Bool) (t x : ℕ) (xs : List ℕ) → AreMet a (alike (yes t) (once (map yes (x ∷ xs)))) → sign_true a (yes t) ≡ agree a (once (map yes (x ∷ xs)))
equal_decides a t x xs all =
    let c : IsCons (once (map yes (x ∷ xs))) = once_cons (yes x) (map yes xs) in
    alike_decides a (yes t) c.first c.others (subst (λ ss. AreMet a (alike (yes t) ss)) c.is all) ∙ ap (agree a) (sym c.is)

-- ---- an odd number of three

excluding_decides : (a : ℕ → Bool) (t x y z : ℕ) → IsMet a (excluding t x y z (a x) (a y) (a z)) → a t ≡ xor (xor (a x) (a y)) (a z)
excluding_decides a t x y z h =
    let last : Sign = sign t (xor (xor (a x) (a y)) (a z)) in
    bool_eq-true (a t) (xor (xor (a x) (a y)) (a z))
    (left (bool_eq (a t) (xor (xor (a x) (a y)) (a z)))
    (past (a z) _ (past (a y) _ (past (a x) _
    (sym (some_cons a (sign x (not (a x))) (sign y (not (a y)) ∷ sign z (not (a z)) ∷ last ∷ [])
    ∙ ap (λ b. bool_eq (a x) (not (a x)) || b) (some_cons a (sign y (not (a y))) (sign z (not (a z)) ∷ last ∷ []) ∙ ap (λ b. bool_eq (a y) (not (a y)) || b) (some_cons a (sign z (not (a z))) (last ∷ []) ∙ ap (λ b. bool_eq (a z) (not (a z)) || b) (some_cons a last []))))
    ∙ h)))))
  where
    past : (p rest : Bool) → (bool_eq p (not p) || rest) ≡ true → rest ≡ true
    past true rest k = k
    past false rest k = k

    left : (b : Bool) → (b || false) ≡ true → b ≡ true
    left true k = refl
    left false k = wrong k

three_decide : (a : ℕ → Bool) (t x y z : ℕ) → AreMet a (parity_of_three t x y z) → a t ≡ xor (xor (a x) (a y)) (a z)
three_decide a t x y z all = excluding_decides a t x y z (pick (a x) (a y) (a z))
  where
    pick : (p q r : Bool) → IsMet a (excluding t x y z p q r)
    pick false false false = all 0 [] (omega arith)
    pick false false true = all 1 [] (omega arith)
    pick false true false = all 2 [] (omega arith)
    pick false true true = all 3 [] (omega arith)
    pick true false false = all 4 [] (omega arith)
    pick true false true = all 5 [] (omega arith)
    pick true true false = all 6 [] (omega arith)
    pick true true true = all 7 [] (omega arith)

odd_decides : (a : ℕ → Bool) (t x y z : ℕ) → AreMet a (odd_of_three t x y z) → a t ≡ xor (xor (a x) (a y)) (a z)
odd_decides a t x y z = first (nat_eq x y) refl
  where
    left : (p q : Bool) → xor (xor p p) q ≡ q
    left true true = refl
    left true false = refl
    left false true = refl
    left false false = refl

    outer : (p q : Bool) → xor (xor p q) p ≡ q
    outer true true = refl
    outer true false = refl
    outer false true = refl
    outer false false = refl

    right : (p q : Bool) → xor (xor p q) q ≡ p
    right true true = refl
    right true false = refl
    right false true = refl
    right false false = refl

    third : (b : Bool) → nat_eq y z ≡ b → AreMet a (if b then conjunction (yes t) (yes x ∷ []) else parity_of_three t x y z) → a t ≡ xor (xor (a x) (a y)) (a z)
    third true h all = one_decides a t x all ∙ sym (right (a x) (a y)) ∙ ap (λ i. xor (xor (a x) (a y)) (a i)) (eqb-true y z h)
    third false h all = three_decide a t x y z all

    second : (b : Bool) → nat_eq x z ≡ b → AreMet a (if b then conjunction (yes t) (yes y ∷ []) else (if nat_eq y z then conjunction (yes t) (yes x ∷ []) else parity_of_three t x y z))
        → a t ≡ xor (xor (a x) (a y)) (a z)
    second true h all = one_decides a t y all ∙ sym (outer (a x) (a y)) ∙ ap (λ i. xor (xor (a x) (a y)) (a i)) (eqb-true x z h)
    second false h all = third (nat_eq y z) refl all

    first : (b : Bool) → nat_eq x y ≡ b
        → AreMet a (if b then conjunction (yes t) (yes z ∷ []) else (if nat_eq x z then conjunction (yes t) (yes y ∷ []) else (if nat_eq y z then conjunction (yes t) (yes x ∷ []) else parity_of_three t x y z)))
        → a t ≡ xor (xor (a x) (a y)) (a z)
    first true h all = one_decides a t z all ∙ sym (left (a x) (a z)) ∙ ap (λ i. xor (xor (a x) (a i)) (a z)) (eqb-true x y h)
    first false h all = second (nat_eq x z) refl all

-- ---- operators

narrow : (a : ℕ → Bool) (o : Operator) (t : ℕ) (xs : List ℕ) → fits_node o xs ≡ true → AreMet a (node_clauses o t xs) → RespectsNode a o t xs
narrow a True t xs f all = sym (as_true (a t)) ∙ all_of_decides a (yes t) [] all
narrow a False t xs f all = not_same (a t) false (sym (as_false (a t)) ∙ all_of_decides a (no t) [] all)
narrow a Not t (x ∷ []) f all = sym (as_true (a t)) ∙ all_of_decides a (yes t) (no x ∷ []) all ∙ at (a x)
  where
    at : (b : Bool) → (bool_eq b false && true) ≡ not b
    at true = refl
    at false = refl
narrow a And t (x ∷ xs) f all =
    sym (as_true (a t)) ∙ all_of_decides a (yes t) (map yes (x ∷ xs)) all ∙ ap (λ b. b && each_true a (map yes xs)) (as_true (a x)) ∙ sym (and_from a (a x) xs)
narrow a Or t (x ∷ xs) f all =
    not_same (a t) _ (sym (as_false (a t)) ∙ all_of_decides a (no t) (map no (x ∷ xs)) all ∙ ap (λ b. b && each_true a (map no xs)) (as_false (a x)) ∙ sym (or_from a (a x) xs))
narrow a Implies t (x ∷ y ∷ ys) f all =
    not_same (a t) _ (sym (as_false (a t)) ∙ all_of_decides a (no t) (premises (x ∷ y ∷ ys)) all ∙ sym (implies_from a x (y ∷ ys)))
narrow a Ite t (c ∷ x ∷ y ∷ []) f all = chosen_decides a t c x y all ∙ at (a c) (a x) (a y)
  where
    at : (c x y : Bool) → (if c then x else y) ≡ truth_of (if c then Truth x else Truth y)
    at true x y = refl
    at false x y = refl
narrow a Xor t (x ∷ y ∷ []) f all = sym (as_true (a t)) ∙ one_of_two_decides a (yes t) x y all
narrow a Distinct t (x ∷ y ∷ []) f all = sym (as_true (a t)) ∙ one_of_two_decides a (yes t) x y all ∙ at (a x) (a y)
  where
    at : (b c : Bool) → xor b c ≡ ((not (bool_eq b c) && true) && true)
    at true true = refl
    at true false = refl
    at false true = refl
    at false false = refl
narrow a Equal t (x ∷ y ∷ []) f all = not_same (a t) _ (sym (as_false (a t)) ∙ one_of_two_decides a (no t) x y all ∙ at (a x) (a y))
  where
    at : (b c : Bool) → xor b c ≡ not (bool_eq b c && true)
    at true true = refl
    at true false = refl
    at false true = refl
    at false false = refl
narrow a o t xs f all = wrong f

front : (a : ℕ → Bool) (cs ds : List (List Sign)) → AreMet a (cs ++ ds) → AreMet a cs
front a [] ds all = All-nil (IsMet a)
front a (c ∷ cs) ds all = All-cons (IsMet a) c cs (first_met a c (cs ++ ds) all) (front a cs ds (rest_met a c (cs ++ ds) all))

pub decide : (a : ℕ → Bool) (o : Operator) (t : ℕ) (xs : List ℕ) → fits_clauses o xs ≡ true → AreMet a (node_clauses o t xs ++ wide_clauses o t xs) → RespectsNode a o t xs
decide a Equal t (x ∷ y ∷ z ∷ zs) f all =
    sym (as_true (a t)) ∙ equal_decides a t x (y ∷ z ∷ zs) all ∙ once_agree a (map yes (x ∷ y ∷ z ∷ zs)) ∙ sym (chain_agrees a x (y ∷ z ∷ zs))
decide a Distinct t (x ∷ y ∷ z ∷ zs) f all = sym (as_true (a t)) ∙ never_decides a (yes t) all ∙ sym (three_differ (a x) (a y) (a z) (map (λ i. Truth (a i)) zs))
decide a Xor t (x ∷ y ∷ z ∷ []) f all = odd_decides a t x y z all
decide a o t xs f all = narrow a o t xs f (front a (node_clauses o t xs) (wide_clauses o t xs) all)
