-- The sum of summands, none of whose leaves stands twice, has them in the order of their leaves.
use Rattle.std.proofs.Common.{◌≡◌, ℕ, ℤ, pos, negsuc, ◌+◌, ◌*◌, ◌<◌, ◌≤◌, List, [], ◌∷◌, ap, sym, subst, ◌∙◌, refl, arith, Bool, true, false, not, ◌&&◌, ◌||◌, nat_eq, nat_lt}
use Rattle.std.specs.Prelude.{if◌then◌else◌}
use Rattle.std.specs.List.Sorted.{IsPermutation}
use Rattle.std.proofs.lemmas.Bool.Decides.{nat_tests}
use Rattle.smt_meaning.specs.declared.clauses.Summand.{Summand}
use Rattle.smt_meaning.specs.Linear.{is_zero, summand, unless_zero, placed, with_term, sums_added}
use Rattle.proof_read.specs.ReadParts.{every}
use Rattle.proof_read.proofs.ReadApartLemmas.{total, totals_alike}
use Rattle.proof_read.specs.ReadSums.{stands_in, are_apart, are_above, are_rising, no_zero, terms_of}

-- ---- one more summand

kept : (i : ℕ) (c : ℤ) (qs : List Summand) → is_zero c ≡ false → unless_zero i c qs ≡ summand i c ∷ qs
kept i c qs h = ap (λ b. if b then qs else summand i c ∷ qs) h

-- where the leaf is before, at or behind the first one
with_cases : (i : ℕ) (c : ℤ) (q : Summand) (qs : List Summand) (P : List Summand → Type 0) → is_zero c ≡ false → (nat_eq i q.term || stands_in i (terms_of qs)) ≡ false
    → (nat_lt i q.term ≡ true → P (summand i c ∷ q ∷ qs)) → (nat_lt i q.term ≡ false → P (q ∷ with_term i c qs)) → P (with_term i c (q ∷ qs))
with_cases i c q qs P z h first later = go (nat_lt i q.term) (nat_eq i q.term) refl h
  where
    go : (a b : Bool) → nat_lt i q.term ≡ a → (b || stands_in i (terms_of qs)) ≡ false → P (placed a b i c q qs (with_term i c qs))
    go true b e f = subst P (sym (kept i c (q ∷ qs) z)) (first e)
    go false true e f = absurd (cc)
    go false false e f = later e

absent_behind : (i : ℕ) (q : Summand) (qs : List Summand) → (nat_eq i q.term || stands_in i (terms_of qs)) ≡ false → stands_in i (terms_of qs) ≡ false
absent_behind i q qs h = go (nat_eq i q.term) h
  where
    go : (b : Bool) → (b || stands_in i (terms_of qs)) ≡ false → stands_in i (terms_of qs) ≡ false
    go true e = absurd (cc)
    go false e = e

swapped : (a b c : Bool) → (a && (b && c)) ≡ (b && (a && c))
swapped true b c = refl
swapped false true c = refl
swapped false false c = refl

-- a test of all
every_with : (f : Summand → Bool) (i : ℕ) (c : ℤ) (qs : List Summand) → is_zero c ≡ false → stands_in i (terms_of qs) ≡ false → every f (with_term i c qs) ≡ (f (summand i c) && every f qs)
every_with f i c [] z h = ap (every f) (kept i c [] z)
every_with f i c (q ∷ qs) z h =
    with_cases i c q qs (λ xs. every f xs ≡ (f (summand i c) && (f q && every f qs))) z h (λ e. refl)
    (λ e. ap (λ b. f q && b) (every_with f i c qs z (absent_behind i q qs h)) ∙ swapped (f q) (f (summand i c)) (every f qs))

or_swapped : (a b c : Bool) → (a || (b || c)) ≡ (b || (a || c))
or_swapped false b c = refl
or_swapped true true c = refl
or_swapped true false c = refl

stands_with : (t i : ℕ) (c : ℤ) (qs : List Summand) → is_zero c ≡ false → stands_in i (terms_of qs) ≡ false → stands_in t (terms_of (with_term i c qs)) ≡ (nat_eq t i || stands_in t (terms_of qs))
stands_with t i c [] z h = ap (λ xs. stands_in t (terms_of xs)) (kept i c [] z)
stands_with t i c (q ∷ qs) z h =
    with_cases i c q qs (λ xs. stands_in t (terms_of xs) ≡ (nat_eq t i || (nat_eq t q.term || stands_in t (terms_of qs)))) z h (λ e. refl)
    (λ e. ap (λ b. nat_eq t q.term || b) (stands_with t i c qs z (absent_behind i q qs h)) ∙ or_swapped (nat_eq t q.term) (nat_eq t i) (stands_in t (terms_of qs)))

-- what is told apart by a leaf and a coefficient
code : ℤ → ℕ
code (pos n) = 2 * n + 1
code (negsuc n) = 2 * n + 2

code_apart : (a b : ℤ) → code a ≡ code b → a ≡ b
unfolding code
code_apart (pos m) (pos n) e = ap pos (omega (arith, e))
code_apart (negsuc m) (negsuc n) e = ap negsuc (omega (arith, e))
code_apart (pos m) (negsuc n) e = absurd (omega (arith, e))
code_apart (negsuc m) (pos n) e = absurd (omega (arith, e))

code_above : (a : ℤ) → 1 ≤ code a
unfolding code
code_above (pos n) = omega arith
code_above (negsuc n) = omega arith

abbrev part : ℕ → Summand → ℕ
part t p = if nat_eq t p.term then code p.coefficient else 0

abbrev weight : ℕ → List Summand → ℕ
weight t = total (part t)

weights_alike : (ps qs : List Summand) → IsPermutation ps qs → (t : ℕ) → weight t ps ≡ weight t qs
weights_alike ps qs h t = totals_alike (part t) ps qs h

weight_with : (t i : ℕ) (c : ℤ) (qs : List Summand) → is_zero c ≡ false → stands_in i (terms_of qs) ≡ false → weight t (with_term i c qs) ≡ part t (summand i c) + weight t qs
weight_with t i c [] z h = ap (weight t) (kept i c [] z)
weight_with t i c (q ∷ qs) z h =
    with_cases i c q qs (λ xs. weight t xs ≡ part t (summand i c) + (part t q + weight t qs)) z h (λ e. refl)
    (λ e. let rest = weight_with t i c qs z (absent_behind i q qs h) in omega (arith, rest))

above_with : (n i : ℕ) (c : ℤ) (qs : List Summand) → is_zero c ≡ false → stands_in i (terms_of qs) ≡ false → n < i → are_above n (terms_of qs) ≡ true → are_above n (terms_of (with_term i c qs)) ≡ true
above_with n i c [] z h l e = ap (λ xs. are_above n (terms_of xs)) (kept i c [] z) ∙ ap (λ b. b && true) (let up : nat_lt n i ≡ true = grind (arith, nat_tests) in up)
above_with n i c (q ∷ qs) z h l e =
    with_cases i c q qs (λ xs. are_above n (terms_of xs) ≡ true) z h
    (λ f. let up : nat_lt n i ≡ true = grind (arith, nat_tests) in ap (λ b. b && (nat_lt i q.term && are_above q.term (terms_of qs))) up ∙ ap (λ b. b && are_above q.term (terms_of qs)) f ∙ behind (nat_lt n q.term) e)
    (λ f.
    let up : q.term < i = past (nat_eq i q.term) refl h f in
    ap (λ b. b && are_above q.term (terms_of (with_term i c qs))) (before (nat_lt n q.term) e) ∙ above_with q.term i c qs z (absent_behind i q qs h) up (behind (nat_lt n q.term) e))
  where
    behind : (b : Bool) → (b && are_above q.term (terms_of qs)) ≡ true → are_above q.term (terms_of qs) ≡ true
    behind true f = f
    behind false f = absurd (cc)

    before : (b : Bool) → (b && are_above q.term (terms_of qs)) ≡ true → b ≡ true
    before true f = refl
    before false f = absurd (cc)

    past : (b : Bool) → nat_eq i q.term ≡ b → (b || stands_in i (terms_of qs)) ≡ false → nat_lt i q.term ≡ false → q.term < i
    past true f g k = absurd (cc)
    past false f g k = grind (arith, nat_tests)

rising_with : (i : ℕ) (c : ℤ) (qs : List Summand) → is_zero c ≡ false → stands_in i (terms_of qs) ≡ false → are_rising (terms_of qs) ≡ true → are_rising (terms_of (with_term i c qs)) ≡ true
rising_with i c [] z h e = ap (λ xs. are_rising (terms_of xs)) (kept i c [] z)
rising_with i c (q ∷ qs) z h e =
    with_cases i c q qs (λ xs. are_rising (terms_of xs) ≡ true) z h (λ f. ap (λ b. b && are_above q.term (terms_of qs)) f ∙ e)
    (λ f. above_with q.term i c qs z (absent_behind i q qs h) (past (nat_eq i q.term) refl h f) e)
  where
    past : (b : Bool) → nat_eq i q.term ≡ b → (b || stands_in i (terms_of qs)) ≡ false → nat_lt i q.term ≡ false → q.term < i
    past true f g k = absurd (cc)
    past false f g k = grind (arith, nat_tests)

-- ---- sums

-- summands that may be added up
pub record AreGood (ps : List Summand) : Type 0 where
  pub apart : are_apart (terms_of ps) ≡ true
  pub nonzero : no_zero ps ≡ true

first_of : (a b : Bool) → (not a && b) ≡ true → a ≡ false
first_of true b h = absurd (cc)
first_of false b h = refl

last_of : (a b : Bool) → (not a && b) ≡ true → b ≡ true
last_of true b h = absurd (cc)
last_of false b h = h

behind_good : (p : Summand) (ps : List Summand) → AreGood (p ∷ ps) → AreGood ps
behind_good p ps h = record { apart = last_of (stands_in p.term (terms_of ps)) (are_apart (terms_of ps)) h.apart; nonzero = last_of (is_zero p.coefficient) (no_zero ps) h.nonzero }

stands_added : (t : ℕ) (ps : List Summand) → AreGood ps → stands_in t (terms_of (sums_added ps [])) ≡ stands_in t (terms_of ps)
stands_added t [] h = refl
stands_added t (p ∷ ps) h =
    let rest = behind_good p ps h in
    stands_with t p.term p.coefficient (sums_added ps []) (first_of (is_zero p.coefficient) (no_zero ps) h.nonzero)
    (stands_added p.term ps rest ∙ first_of (stands_in p.term (terms_of ps)) (are_apart (terms_of ps)) h.apart)
    ∙ ap (λ b. nat_eq t p.term || b) (stands_added t ps rest)

new_leaf : (p : Summand) (ps : List Summand) → AreGood (p ∷ ps) → stands_in p.term (terms_of (sums_added ps [])) ≡ false
new_leaf p ps h = stands_added p.term ps (behind_good p ps h) ∙ first_of (stands_in p.term (terms_of ps)) (are_apart (terms_of ps)) h.apart

not_zero : (p : Summand) (ps : List Summand) → AreGood (p ∷ ps) → is_zero p.coefficient ≡ false
not_zero p ps h = first_of (is_zero p.coefficient) (no_zero ps) h.nonzero

pub every_added : (f : Summand → Bool) (ps : List Summand) → AreGood ps → every f (sums_added ps []) ≡ every f ps
every_added f [] h = refl
every_added f (p ∷ ps) h =
    every_with f p.term p.coefficient (sums_added ps []) (not_zero p ps h) (new_leaf p ps h) ∙ ap (λ b. f p && b) (every_added f ps (behind_good p ps h))

weight_added : (t : ℕ) (ps : List Summand) → AreGood ps → weight t (sums_added ps []) ≡ weight t ps
weight_added t [] h = refl
weight_added t (p ∷ ps) h =
    weight_with t p.term p.coefficient (sums_added ps []) (not_zero p ps h) (new_leaf p ps h) ∙ ap (λ k. part t p + k) (weight_added t ps (behind_good p ps h))

rising_added : (ps : List Summand) → AreGood ps → are_rising (terms_of (sums_added ps [])) ≡ true
rising_added [] h = refl
rising_added (p ∷ ps) h = rising_with p.term p.coefficient (sums_added ps []) (not_zero p ps h) (new_leaf p ps h) (rising_added ps (behind_good p ps h))

-- ---- two lists in order that weigh alike

weightless : (n : ℕ) (ps : List Summand) → are_above n (terms_of ps) ≡ true → (t : ℕ) → t ≤ n → weight t ps ≡ 0
weightless n [] h t l = refl
weightless n (p ∷ ps) h t l = go (λ e. weightless p.term ps e t) (nat_lt n p.term) refl h
  where
    go : (are_above p.term (terms_of ps) ≡ true → t ≤ p.term → weight t ps ≡ 0) → (b : Bool) → nat_lt n p.term ≡ b → (b && are_above p.term (terms_of ps)) ≡ true → part t p + weight t ps ≡ 0
    go more false e f = absurd (cc)
    go more true e f =
        let up : n < p.term = grind (arith, nat_tests) in
        let differs : nat_eq t p.term ≡ false = grind (arith, nat_tests) in
        let none : part t p ≡ 0 = ap (λ b. if b then code p.coefficient else 0) differs in
        omega (arith, none, more f (omega (arith, l, up)))

part_own : (p : Summand) → part p.term p ≡ code p.coefficient
part_own p = let same : nat_eq p.term p.term ≡ true = grind (arith, nat_tests) in ap (λ b. if b then code p.coefficient else 0) same

part_other : (t : ℕ) (p : Summand) → t < p.term → part t p ≡ 0
part_other t p h = let differs : nat_eq t p.term ≡ false = grind (arith, nat_tests) in ap (λ b. if b then code p.coefficient else 0) differs

before_all : (t : ℕ) (p : Summand) (ps : List Summand) → are_above p.term (terms_of ps) ≡ true → t < p.term → weight t (p ∷ ps) ≡ 0
before_all t p ps h l = omega (arith, part_other t p l, weightless p.term ps h t (omega (arith, l)))

same_order : (ps qs : List Summand) → are_rising (terms_of ps) ≡ true → are_rising (terms_of qs) ≡ true → ((t : ℕ) → weight t ps ≡ weight t qs) → ps ≡ qs
same_order [] [] h k e = refl
same_order [] (q ∷ qs) h k e = absurd (omega (arith, e q.term, part_own q, code_above q.coefficient))
same_order (p ∷ ps) [] h k e = absurd (omega (arith, e p.term, part_own p, code_above p.coefficient))
same_order (p ∷ ps) (q ∷ qs) h k e = go (same_order ps qs) (nat_lt p.term q.term) (nat_lt q.term p.term) refl refl
  where
    tail : (ns : List Summand) (n : ℕ) → are_above n (terms_of ns) ≡ true → are_rising (terms_of ns) ≡ true
    tail [] n f = refl
    tail (m ∷ ns) n f = inner (nat_lt n m.term) f
      where
        inner : (b : Bool) → (b && are_above m.term (terms_of ns)) ≡ true → are_above m.term (terms_of ns) ≡ true
        inner true g = g
        inner false g = absurd (cc)

    equal : (are_rising (terms_of ps) ≡ true → are_rising (terms_of qs) ≡ true → ((t : ℕ) → weight t ps ≡ weight t qs) → ps ≡ qs) → p.term ≡ q.term → p ∷ ps ≡ q ∷ qs
    equal more f =
        let left : weight p.term ps ≡ 0 = weightless p.term ps h p.term (omega arith) in
        let right : weight p.term qs ≡ 0 = weightless q.term qs k p.term (omega (arith, f)) in
        let own : part p.term q ≡ code q.coefficient = ap (λ t. part t q) f ∙ part_own q in
        let c : p.coefficient ≡ q.coefficient = code_apart p.coefficient q.coefficient (omega (arith, e p.term, left, right, own, part_own p)) in
        let same : p ≡ q = ap (λ t. summand t p.coefficient) f ∙ ap (λ z. summand q.term z) c in
        ap (λ x. x ∷ ps) same ∙ ap (λ xs. q ∷ xs) (more (tail ps p.term h) (tail qs q.term k) (λ t. omega (arith, e t, ap (part t) same)))

    go : (are_rising (terms_of ps) ≡ true → are_rising (terms_of qs) ≡ true → ((t : ℕ) → weight t ps ≡ weight t qs) → ps ≡ qs) → (a b : Bool) → nat_lt p.term q.term ≡ a → nat_lt q.term p.term ≡ b
        → p ∷ ps ≡ q ∷ qs
    go more true b f g =
        let up : p.term < q.term = grind (arith, nat_tests) in
        absurd (omega (arith, e p.term, part_own p, code_above p.coefficient, before_all p.term q qs k up))
    go more false true f g =
        let up : q.term < p.term = grind (arith, nat_tests) in
        absurd (omega (arith, e q.term, part_own q, code_above q.coefficient, before_all q.term p ps h up))
    go more false false f g = equal more (grind (arith, nat_tests))

-- the sum is any order of the summands that rises
pub sum_is : (ps qs : List Summand) → IsPermutation ps qs → AreGood ps → are_rising (terms_of qs) ≡ true → qs ≡ sums_added ps []
sum_is ps qs h g e = same_order qs (sums_added ps []) e (rising_added ps g) (λ t. sym (weights_alike ps qs h t) ∙ sym (weight_added t ps g))
