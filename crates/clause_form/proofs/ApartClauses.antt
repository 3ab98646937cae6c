-- No place stands twice in a clause of a node.
use Rattle.std.proofs.Common.{◌≡◌, ◌≢◌, ℕ, suc, List, [], ◌∷◌, map, refl, sym, ◌∙◌, ap, arith, Bool, true, false, not, ◌&&◌, ◌||◌, nat_eq, eq-eqb, All, Contains}
use Rattle.std.proofs.lemmas.Bool.{eqb-true}
use Rattle.std.specs.Prelude.{if◌then◌else◌}
use Rattle.std.proofs.lemmas.List.Elements.{All-nil, All-cons, All-weaker, All-contains_itself}
use Rattle.smt_meaning.specs.declared.terms.Operator.{Operator}
use Rattle.smt_meaning.specs.declared.terms.Operator.TheVariants.{True, False, Not, And, Or, Xor, Implies, Equal, Distinct, Ite}
use Rattle.smt_meaning.specs.Term.{bool_eq, xor}
use Rattle.smt_meaning.specs.Forced.{Sign}
use Rattle.clause_form.specs.Signs.{sign, yes, no, negated, sign_eq, is_sign_in, once, clashes}
use Rattle.clause_form.specs.NodeClauses.{conjunction, never, all_of, parity, one_of_two, choices, chosen, premises, node_clauses}
use Rattle.clause_form.specs.WideClauses.{round, alike, excluding, parity_of_three, odd_of_three, wide_clauses}
use Rattle.clause_form.specs.NodeClausesLaws.{HasNoPlaceTwice}
use Rattle.clause_form.proofs.Signs.{or_false_left, or_false_right}
use Rattle.clause_form.proofs.Over.{On, on_nil, on_cons, on_head, on_tail, on_negated, on_once, on_signs, on_premises}
use Rattle.clause_form.proofs.WideOver.{each_excluding}

-- the place is another than each of these
abbrev Away : ℕ → List Sign → Type 0
Away t ss = On (λ i. t ≢ i) ss

abbrev NoneTwice : List (List Sign) → Type 0
NoneTwice cs = All HasNoPlaceTwice cs

two_apart : (s u : Sign) → s.place ≢ u.place → HasNoPlaceTwice (s ∷ u ∷ [])
two_apart s u h = (on_cons (λ i. s.place ≢ i) u [] h (on_nil (λ i. s.place ≢ i)), (on_nil (λ i. u.place ≢ i), tt))

three_apart : (s u v : Sign) → s.place ≢ u.place → s.place ≢ v.place → u.place ≢ v.place → HasNoPlaceTwice (s ∷ u ∷ v ∷ [])
three_apart s u v h k g =
    (on_cons (λ i. s.place ≢ i) u (v ∷ []) h (on_cons (λ i. s.place ≢ i) v [] k (on_nil (λ i. s.place ≢ i))), two_apart u v g)

apart_negated : (ss : List Sign) → HasNoPlaceTwice ss → HasNoPlaceTwice (map negated ss)
apart_negated [] h = tt
apart_negated (s ∷ ss) h = (on_negated (λ i. s.place ≢ i) ss h.0, apart_negated ss h.1)

-- ---- conjunctions

apart_pairs : (out : Sign) (ss : List Sign) → Away out.place ss → NoneTwice (map (λ (s : Sign). negated out ∷ s ∷ []) ss)
apart_pairs out [] h = All-nil HasNoPlaceTwice
apart_pairs out (s ∷ ss) h =
    All-cons HasNoPlaceTwice (negated out ∷ s ∷ []) (map (λ (s : Sign). negated out ∷ s ∷ []) ss)
    (two_apart (negated out) s (on_head (λ i. out.place ≢ i) s ss h)) (apart_pairs out ss (on_tail (λ i. out.place ≢ i) s ss h))

apart_conjunction : (out : Sign) (ss : List Sign) → Away out.place ss → HasNoPlaceTwice ss → NoneTwice (conjunction out ss)
apart_conjunction out ss h g =
    All-cons HasNoPlaceTwice (out ∷ map negated ss) (map (λ (s : Sign). negated out ∷ s ∷ []) ss)
    (on_negated (λ i. out.place ≢ i) ss h, apart_negated ss g) (apart_pairs out ss h)

apart_never : (out : Sign) → NoneTwice (never out)
apart_never out = All-cons HasNoPlaceTwice (negated out ∷ []) [] (on_nil (λ i. out.place ≢ i), tt) (All-nil HasNoPlaceTwice)

other_place : (s u : Sign) → sign_eq s u ≡ false → sign_eq (negated s) u ≡ false → s.place ≢ u.place
other_place s u h k e =
    let same : nat_eq s.place u.place ≡ true = eq-eqb s.place u.place e in
    signs s.positive u.positive (sym (ap (λ b. b && bool_eq s.positive u.positive) same) ∙ h) (sym (ap (λ b. b && bool_eq (not s.positive) u.positive) same) ∙ k)
  where
    signs : (p q : Bool) → bool_eq p q ≡ false → bool_eq (not p) q ≡ false → ⊥
    signs true true h k = (let e : true ≡ false = h in cc)
    signs true false h k = (let e : true ≡ false = k in cc)
    signs false true h k = (let e : true ≡ false = k in cc)
    signs false false h k = (let e : true ≡ false = h in cc)

fresh_place : (s : Sign) (ss : List Sign) → is_sign_in s ss ≡ false → is_sign_in (negated s) ss ≡ false → Away s.place ss
fresh_place s [] h k = on_nil (λ i. s.place ≢ i)
fresh_place s (u ∷ us) h k =
    on_cons (λ i. s.place ≢ i) u us
    (other_place s u (or_false_left (sign_eq s u) (is_sign_in s us) h) (or_false_left (sign_eq (negated s) u) (is_sign_in (negated s) us) k))
    (fresh_place s us (or_false_right (sign_eq s u) (is_sign_in s us) h) (or_false_right (sign_eq (negated s) u) (is_sign_in (negated s) us) k))

apart_once : (ss : List Sign) → clashes ss ≡ false → HasNoPlaceTwice (once ss)
apart_once [] h = tt
apart_once (s ∷ ss) h = at (is_sign_in s ss) refl (apart_once ss (or_false_right (is_sign_in (negated s) ss) (clashes ss) h))
  where
    at : (b : Bool) → is_sign_in s ss ≡ b → HasNoPlaceTwice (once ss) → HasNoPlaceTwice (if b then once ss else s ∷ once ss)
    at true e rest = rest
    at false e rest = (on_once (λ i. s.place ≢ i) ss (fresh_place s ss e (or_false_left (is_sign_in (negated s) ss) (clashes ss) h)), rest)

apart_all_of : (out : Sign) (ss : List Sign) → Away out.place ss → NoneTwice (all_of out ss)
apart_all_of out ss h = at (clashes ss) refl
  where
    at : (b : Bool) → clashes ss ≡ b → NoneTwice (if b then never out else conjunction out (once ss))
    at true e = apart_never out
    at false e = apart_conjunction out (once ss) (on_once (λ i. out.place ≢ i) ss h) (apart_once ss e)

-- ---- one of two, and choices

unequal : (x y : ℕ) → nat_eq x y ≡ false → x ≢ y
unequal x y h e = (let k : true ≡ false = sym (eq-eqb x y e) ∙ h in cc)

apart_one_of_two : (out : Sign) (x y : ℕ) → out.place ≢ x → out.place ≢ y → NoneTwice (one_of_two out x y)
apart_one_of_two out x y hx hy = at (nat_eq x y) refl
  where
    at : (b : Bool) → nat_eq x y ≡ b → NoneTwice (if b then never out else parity out x y)
    at true e = apart_never out
    at false e =
        All-cons HasNoPlaceTwice (negated out ∷ yes x ∷ yes y ∷ []) ((negated out ∷ no x ∷ no y ∷ []) ∷ (out ∷ no x ∷ yes y ∷ []) ∷ (out ∷ yes x ∷ no y ∷ []) ∷ []) (three_apart (negated out) (yes x) (yes y) hx hy (unequal x y e))
        (All-cons HasNoPlaceTwice (negated out ∷ no x ∷ no y ∷ []) ((out ∷ no x ∷ yes y ∷ []) ∷ (out ∷ yes x ∷ no y ∷ []) ∷ []) (three_apart (negated out) (no x) (no y) hx hy (unequal x y e))
        (All-cons HasNoPlaceTwice (out ∷ no x ∷ yes y ∷ []) ((out ∷ yes x ∷ no y ∷ []) ∷ []) (three_apart out (no x) (yes y) hx hy (unequal x y e))
        (All-cons HasNoPlaceTwice (out ∷ yes x ∷ no y ∷ []) [] (three_apart out (yes x) (no y) hx hy (unequal x y e)) (All-nil HasNoPlaceTwice))))

apart_choices : (t c x y : ℕ) → t ≢ c → t ≢ x → t ≢ y → c ≢ x → c ≢ y → x ≢ y → NoneTwice (choices t c x y)
apart_choices t c x y tc tx ty cx cy xy =
    All-cons HasNoPlaceTwice (no c ∷ no x ∷ yes t ∷ []) ((no c ∷ yes x ∷ no t ∷ []) ∷ (yes c ∷ no y ∷ yes t ∷ []) ∷ (yes c ∷ yes y ∷ no t ∷ []) ∷ (no x ∷ no y ∷ yes t ∷ []) ∷ (yes x ∷ yes y ∷ no t ∷ []) ∷ [])
    (three_apart (no c) (no x) (yes t) cx (λ e. tc (sym e)) (λ e. tx (sym e)))
    (All-cons HasNoPlaceTwice (no c ∷ yes x ∷ no t ∷ []) ((yes c ∷ no y ∷ yes t ∷ []) ∷ (yes c ∷ yes y ∷ no t ∷ []) ∷ (no x ∷ no y ∷ yes t ∷ []) ∷ (yes x ∷ yes y ∷ no t ∷ []) ∷ [])
    (three_apart (no c) (yes x) (no t) cx (λ e. tc (sym e)) (λ e. tx (sym e)))
    (All-cons HasNoPlaceTwice (yes c ∷ no y ∷ yes t ∷ []) ((yes c ∷ yes y ∷ no t ∷ []) ∷ (no x ∷ no y ∷ yes t ∷ []) ∷ (yes x ∷ yes y ∷ no t ∷ []) ∷ [])
    (three_apart (yes c) (no y) (yes t) cy (λ e. tc (sym e)) (λ e. ty (sym e)))
    (All-cons HasNoPlaceTwice (yes c ∷ yes y ∷ no t ∷ []) ((no x ∷ no y ∷ yes t ∷ []) ∷ (yes x ∷ yes y ∷ no t ∷ []) ∷ []) (three_apart (yes c) (yes y) (no t) cy (λ e. tc (sym e)) (λ e. ty (sym e)))
    (All-cons HasNoPlaceTwice (no x ∷ no y ∷ yes t ∷ []) ((yes x ∷ yes y ∷ no t ∷ []) ∷ []) (three_apart (no x) (no y) (yes t) xy (λ e. tx (sym e)) (λ e. ty (sym e)))
    (All-cons HasNoPlaceTwice (yes x ∷ yes y ∷ no t ∷ []) [] (three_apart (yes x) (yes y) (no t) xy (λ e. tx (sym e)) (λ e. ty (sym e))) (All-nil HasNoPlaceTwice))))))

away_two : (t : ℕ) (s u : Sign) → t ≢ s.place → t ≢ u.place → Away t (s ∷ u ∷ [])
away_two t s u h k = on_cons (λ i. t ≢ i) s (u ∷ []) h (on_cons (λ i. t ≢ i) u [] k (on_nil (λ i. t ≢ i)))

one_apart : (t x : ℕ) → t ≢ x → NoneTwice (conjunction (yes t) (yes x ∷ []))
one_apart t x h = apart_conjunction (yes t) (yes x ∷ []) (on_cons (λ i. t ≢ i) (yes x) [] h (on_nil (λ i. t ≢ i))) (on_nil (λ i. x ≢ i), tt)

apart_chosen : (t c x y : ℕ) → t ≢ c → t ≢ x → t ≢ y → NoneTwice (chosen t c x y)
apart_chosen t c x y tc tx ty = first (nat_eq x y) refl
  where
    third : (b : Bool) → nat_eq x y ≡ false → nat_eq c x ≡ false → nat_eq c y ≡ b → NoneTwice (if b then conjunction (yes t) (yes c ∷ yes x ∷ []) else choices t c x y)
    third true xy cx h = apart_conjunction (yes t) (yes c ∷ yes x ∷ []) (away_two t (yes c) (yes x) tc tx) (two_apart (yes c) (yes x) (unequal c x cx))
    third false xy cx h = apart_choices t c x y tc tx ty (unequal c x cx) (unequal c y h) (unequal x y xy)

    second : (b : Bool) → nat_eq x y ≡ false → nat_eq c x ≡ b → NoneTwice (if b then conjunction (no t) (no c ∷ no y ∷ []) else (if nat_eq c y then conjunction (yes t) (yes c ∷ yes x ∷ []) else choices t c x y))
    second true xy h = apart_conjunction (no t) (no c ∷ no y ∷ []) (away_two t (no c) (no y) tc ty) (two_apart (no c) (no y) (λ e. unequal x y xy (sym (eqb-true c x h) ∙ e)))
    second false xy h = third (nat_eq c y) xy h refl

    first : (b : Bool) → nat_eq x y ≡ b
        → NoneTwice (if b then conjunction (yes t) (yes x ∷ []) else (if nat_eq c x then conjunction (no t) (no c ∷ no y ∷ []) else (if nat_eq c y then conjunction (yes t) (yes c ∷ yes x ∷ []) else choices t c x y)))
    first true h = one_apart t x tx
    first false h = second (nat_eq c x) h refl

-- ---- operators

other : (t : ℕ) (xs : List ℕ) → (Contains xs t → ⊥) → All (λ i. t ≢ i) xs
other t xs h = All-weaker (Contains xs) (λ i. t ≢ i) (λ i c e. h (at i c (sym e))) xs (All-contains_itself xs)
  where
    at : (i : ℕ) → Contains xs i → i ≡ t → Contains xs t
    at i c e = rw (← e) c

pub apart : (o : Operator) (t : ℕ) (xs : List ℕ) → All (λ i. t ≢ i) xs → NoneTwice (node_clauses o t xs)
apart True t xs all = apart_all_of (yes t) [] (on_nil (λ i. t ≢ i))
apart False t xs all = apart_all_of (no t) [] (on_nil (λ i. t ≢ i))
apart Not t (x ∷ []) all = apart_all_of (yes t) (no x ∷ []) (on_signs (λ i. t ≢ i) false (x ∷ []) all)
apart And t (x ∷ xs) all = apart_all_of (yes t) (map yes (x ∷ xs)) (on_signs (λ i. t ≢ i) true (x ∷ xs) all)
apart Or t (x ∷ xs) all = apart_all_of (no t) (map no (x ∷ xs)) (on_signs (λ i. t ≢ i) false (x ∷ xs) all)
apart Implies t (x ∷ y ∷ ys) all = apart_all_of (no t) (premises (x ∷ y ∷ ys)) (on_premises (λ i. t ≢ i) x (y ∷ ys) (all 0 x (omega arith)) (λ k d h. all (suc k) d (omega (arith, h))))
apart Ite t (c ∷ x ∷ y ∷ []) all = apart_chosen t c x y (all 0 c (omega arith)) (all 1 x (omega arith)) (all 2 y (omega arith))
apart Xor t (x ∷ y ∷ []) all = apart_one_of_two (yes t) x y (all 0 x (omega arith)) (all 1 y (omega arith))
apart Distinct t (x ∷ y ∷ []) all = apart_one_of_two (yes t) x y (all 0 x (omega arith)) (all 1 y (omega arith))
apart Equal t (x ∷ y ∷ []) all = apart_one_of_two (no t) x y (all 0 x (omega arith)) (all 1 y (omega arith))
apart o t xs all = All-nil HasNoPlaceTwice

pub node_apart : (o : Operator) (t : ℕ) (xs : List ℕ) → (Contains xs t → ⊥) → NoneTwice (node_clauses o t xs)
node_apart o t xs h = apart o t xs (other t xs h)

-- ---- the wide clauses

apart_round : (out first s : Sign) (us : List Sign) → out.place ≢ first.place → first.place ≢ s.place → out.place ≢ s.place → Away out.place us → Away first.place us → HasNoPlaceTwice (s ∷ us)
    → NoneTwice (round out first s us)
apart_round out first s [] of fs os o f h = All-cons HasNoPlaceTwice (negated out ∷ negated s ∷ first ∷ []) [] (three_apart (negated out) (negated s) first os of (λ e. fs (sym e))) (All-nil HasNoPlaceTwice)
apart_round out first s (u ∷ us) of fs os o f h =
    All-cons HasNoPlaceTwice (negated out ∷ negated s ∷ u ∷ []) (round out first u us)
    (three_apart (negated out) (negated s) u os (on_head (λ i. out.place ≢ i) u us o) (on_head (λ i. s.place ≢ i) u us h.0))
    (apart_round out first u us of (on_head (λ i. first.place ≢ i) u us f) (on_head (λ i. out.place ≢ i) u us o) (on_tail (λ i. out.place ≢ i) u us o) (on_tail (λ i. first.place ≢ i) u us f) h.1)

apart_alike : (out : Sign) (ss : List Sign) → Away out.place ss → HasNoPlaceTwice ss → NoneTwice (alike out ss)
apart_alike out [] o h = All-nil HasNoPlaceTwice
apart_alike out (s ∷ []) o h = All-cons HasNoPlaceTwice (out ∷ []) [] (on_nil (λ i. out.place ≢ i), tt) (All-nil HasNoPlaceTwice)
apart_alike out (s ∷ u ∷ us) o h =
    let ss : List Sign = s ∷ u ∷ us in
    let os : out.place ≢ s.place = on_head (λ i. out.place ≢ i) s (u ∷ us) o in
    let later : Away out.place (u ∷ us) = on_tail (λ i. out.place ≢ i) s (u ∷ us) o in
    let ou : out.place ≢ u.place = on_head (λ i. out.place ≢ i) u us later in
    let su : s.place ≢ u.place = on_head (λ i. s.place ≢ i) u us h.0 in
    All-cons HasNoPlaceTwice (out ∷ map negated ss) ((out ∷ ss) ∷ round out s s (u ∷ us)) (on_negated (λ i. out.place ≢ i) ss o, apart_negated ss h)
    (All-cons HasNoPlaceTwice (out ∷ ss) (round out s s (u ∷ us)) (o, h)
    (All-cons HasNoPlaceTwice (negated out ∷ negated s ∷ u ∷ []) (round out s u us) (three_apart (negated out) (negated s) u os ou su)
    (apart_round out s u us os su ou (on_tail (λ i. out.place ≢ i) u us later) (on_tail (λ i. s.place ≢ i) u us h.0) h.1)))

-- places that all stand positive never clash
none_negative : (x : ℕ) (xs : List ℕ) → is_sign_in (no x) (map yes xs) ≡ false
none_negative x [] = refl
none_negative x (y ∷ ys) = step (nat_eq x y) (is_sign_in (no x) (map yes ys)) (none_negative x ys)
  where
    step : (b c : Bool) → c ≡ false → ((b && false) || c) ≡ false
    step true c h = h
    step false c h = h

pub no_clash_of_yes : (xs : List ℕ) → clashes (map yes xs) ≡ false
no_clash_of_yes [] = refl
no_clash_of_yes (x ∷ xs) = ap (λ b. b || clashes (map yes xs)) (none_negative x (xs)) ∙ no_clash_of_yes xs

apart_excluding : (t x y z : ℕ) (p q r : Bool) → t ≢ x → t ≢ y → t ≢ z → x ≢ y → x ≢ z → y ≢ z → HasNoPlaceTwice (excluding t x y z p q r)
apart_excluding t x y z p q r tx ty tz xy xz yz =
    let last : Sign = sign t (xor (xor p q) r) in (
      on_cons (λ i. x ≢ i) (sign y (not q)) (sign z (not r) ∷ last ∷ []) xy (away_two x (sign z (not r)) last xz (λ e. tx (sym e))),
      three_apart (sign y (not q)) (sign z (not r)) last yz (λ e. ty (sym e)) (λ e. tz (sym e)),
    )

apart_odd : (t x y z : ℕ) → t ≢ x → t ≢ y → t ≢ z → NoneTwice (odd_of_three t x y z)
apart_odd t x y z tx ty tz = at (nat_eq x y) (nat_eq x z) (nat_eq y z) refl refl refl
  where
    at : (p q r : Bool) → nat_eq x y ≡ p → nat_eq x z ≡ q → nat_eq y z ≡ r → NoneTwice
        (if p then conjunction (yes t) (yes z ∷ []) else (if q then conjunction (yes t) (yes y ∷ []) else (if r then conjunction (yes t) (yes x ∷ []) else parity_of_three t x y z)))
    at true q r xy xz yz = one_apart t z tz
    at false true r xy xz yz = one_apart t y ty
    at false false true xy xz yz = one_apart t x tx
    at false false false xy xz yz = each_excluding HasNoPlaceTwice t x y z (λ p q r. apart_excluding t x y z p q r tx ty tz (unequal x y xy) (unequal x z xz) (unequal y z yz))

wide : (o : Operator) (t : ℕ) (xs : List ℕ) → All (λ i. t ≢ i) xs → NoneTwice (wide_clauses o t xs)
wide Equal t (x ∷ y ∷ z ∷ zs) all =
    let ss : List Sign = map yes (x ∷ y ∷ z ∷ zs) in
    apart_alike (yes t) (once ss) (on_once (λ i. t ≢ i) ss (on_signs (λ i. t ≢ i) true (x ∷ y ∷ z ∷ zs) all)) (apart_once ss (no_clash_of_yes (x ∷ y ∷ z ∷ zs)))
wide Distinct t (x ∷ y ∷ z ∷ zs) all = apart_never (yes t)
wide Xor t (x ∷ y ∷ z ∷ []) all = apart_odd t x y z (all 0 x (omega arith)) (all 1 y (omega arith)) (all 2 z (omega arith))
wide o t xs all = All-nil HasNoPlaceTwice

pub wide_apart : (o : Operator) (t : ℕ) (xs : List ℕ) → (Contains xs t → ⊥) → NoneTwice (wide_clauses o t xs)
wide_apart o t xs h = wide o t xs (other t xs h)
