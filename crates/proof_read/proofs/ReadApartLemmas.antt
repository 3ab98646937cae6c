-- Numbers of which none stands twice, in order.
use Rattle.std.proofs.Common.{◌≡◌, ℕ, zero, suc, ◌+◌, ◌<◌, ◌≤◌, List, [], ◌∷◌, length, get_or, map, ap, sym, ◌∙◌, refl, arith, Bool, true, false, not, ◌&&◌, ◌||◌, nat_eq, nat_lt}
use Rattle.std.specs.Prelude.{if◌then◌else◌}
use Rattle.std.specs.List.{sum_by}
use Rattle.std.specs.List.Sorted.{IsPermutation, IsNonDecreasing, IsNonDecreasingBy}
use Rattle.std.proofs.lemmas.List.{get_or-map, length-map}
use Rattle.std.proofs.lemmas.List.Sums.{sum_by-cons}
use Rattle.std.proofs.lemmas.List.Sorted.{sum_by-IsPermutation, IsPermutation-map}
use Rattle.std.proofs.lemmas.Bool.Decides.{nat_tests}
use Rattle.proof_read.specs.ReadSums.{stands_in, are_apart, are_above, are_rising}

abbrev one : ℕ → ℕ → ℕ
one t n = if nat_eq t n then 1 else 0

-- what the items of a list come to
abbrev pub total : {A : Type 0} → (A → ℕ) → List A → ℕ
total f [] = 0
total f (x ∷ xs) = f x + total f xs

total_is : {A : Type 0} (f : A → ℕ) (xs : List A) → total f xs ≡ sum_by f xs
total_is {A = A} f [] = refl
total_is {A = A} f (x ∷ xs) = ap (λ k. f x + k) (total_is f xs) ∙ sym (sum_by-cons f x xs)

pub totals_alike : {A : Type 0} (f : A → ℕ) (xs ys : List A) → IsPermutation xs ys → total f xs ≡ total f ys
totals_alike {A = A} f xs ys h = total_is f xs ∙ sym (sum_by-IsPermutation f xs ys h) ∙ sym (total_is f ys)

-- how often a number stands in a list
abbrev count : ℕ → List ℕ → ℕ
count t = total (one t)

counts_alike : (ns ms : List ℕ) → IsPermutation ns ms → (t : ℕ) → count t ns ≡ count t ms
counts_alike ns ms h t = totals_alike (one t) ns ms h

stands_counts : (t : ℕ) (ns : List ℕ) → stands_in t ns ≡ true → 1 ≤ count t ns
stands_counts t [] h = absurd (cc)
stands_counts t (n ∷ ns) h = go (stands_counts t ns) (nat_eq t n) h
  where
    go : (stands_in t ns ≡ true → 1 ≤ count t ns) → (b : Bool) → (b || stands_in t ns) ≡ true → 1 ≤ (if b then 1 else 0) + count t ns
    go more true e = omega arith
    go more false e = omega (arith, more e)

absent : (m : ℕ) (ms : List ℕ) → stands_in m ms ≡ false → count m ms ≡ 0
absent m [] e = refl
absent m (k ∷ ms) e = inner (absent m ms) (nat_eq m k) e
  where
    inner : (stands_in m ms ≡ false → count m ms ≡ 0) → (b : Bool) → (b || stands_in m ms) ≡ false → (if b then 1 else 0) + count m ms ≡ 0
    inner more true f = absurd (cc)
    inner more false f = omega (arith, more f)

apart_once : (ns : List ℕ) → are_apart ns ≡ true → (t : ℕ) → count t ns ≤ 1
apart_once [] h t = omega arith
apart_once (n ∷ ns) h t = go (λ e. apart_once ns e t) (stands_in n ns) refl h
  where
    this : (b : Bool) → nat_eq t n ≡ b → stands_in n ns ≡ false → count t ns ≤ 1 → (if b then 1 else 0) + count t ns ≤ 1
    this true e f k = let same : t ≡ n = grind (arith, nat_tests) in omega (arith, absent n ns f, ap (λ m. count m ns) same)
    this false e f k = omega (arith, k)

    go : (are_apart ns ≡ true → count t ns ≤ 1) → (b : Bool) → stands_in n ns ≡ b → (not b && are_apart ns) ≡ true → one t n + count t ns ≤ 1
    go more true e f = absurd (cc)
    go more false e f = this (nat_eq t n) refl e (more f)

apart_twice : (ns : List ℕ) → are_apart ns ≡ false → (t : ℕ) × (2 ≤ count t ns)
apart_twice [] h = absurd (cc)
apart_twice (n ∷ ns) h = go (apart_twice ns) (stands_in n ns) refl h
  where
    itself : (m : ℕ) → one m m ≡ 1
    itself m = grind (arith, nat_tests)

    more : (t : ℕ) × (2 ≤ count t ns) → (t : ℕ) × (2 ≤ one t n + count t ns)
    more w = (w.0, omega (arith, w.1))

    go : (are_apart ns ≡ false → (t : ℕ) × (2 ≤ count t ns)) → (b : Bool) → stands_in n ns ≡ b → (not b && are_apart ns) ≡ false → (t : ℕ) × (2 ≤ one t n + count t ns)
    go again true e f = (n, omega (arith, itself n, stands_counts n ns e))
    go again false e f = more (again f)

apart_alike : (ns ms : List ℕ) → IsPermutation ns ms → are_apart ns ≡ are_apart ms
apart_alike ns ms h = go (are_apart ns) (are_apart ms) refl refl
  where
    go : (a b : Bool) → are_apart ns ≡ a → are_apart ms ≡ b → a ≡ b
    go true true e f = refl
    go false false e f = refl
    go true false e f = let w = apart_twice ms f in absurd (omega (arith, w.1, counts_alike ns ms h w.0, apart_once ns e w.0))
    go false true e f = let w = apart_twice ns e in absurd (omega (arith, w.1, counts_alike ns ms h w.0, apart_once ms f w.0))

below_all : (n : ℕ) (ms : List ℕ) → ((k : ℕ) → k < length ms → n < get_or ms k 0) → stands_in n ms ≡ false
below_all n [] h = refl
below_all n (m ∷ ms) h =
    let first : n < m = h 0 (omega arith) in
    let differs : nat_eq n m ≡ false = grind (arith, nat_tests) in
    ap (λ b. b || stands_in n ms) differs ∙ below_all n ms (λ k l. h (suc k) (omega (arith, l)))

sorted_apart : (ms : List ℕ) → IsNonDecreasing ms → are_apart ms ≡ are_rising ms
sorted_apart [] h = refl
sorted_apart (n ∷ []) h = refl
sorted_apart (n ∷ m ∷ ms) h = go (sorted_apart (m ∷ ms) (λ i j d l k. h (suc i) (suc j) d (omega (arith, l)) (omega (arith, k)))) (nat_lt n m) refl
  where
    go : are_apart (m ∷ ms) ≡ are_above m ms → (b : Bool) → nat_lt n m ≡ b → (not (stands_in n (m ∷ ms)) && are_apart (m ∷ ms)) ≡ (b && are_above m ms)
    go rest true e =
        let up : n < m = grind (arith, nat_tests) in
        ap (λ b. not b && are_apart (m ∷ ms)) (below_all n (m ∷ ms) (λ k l. let from : m ≤ get_or (m ∷ ms) k 0 = h 1 (suc k) 0 (omega arith) (omega (arith, l)) in omega (arith, from, up))) ∙ rest
    go rest false e =
        let up : n ≤ m = h 0 1 0 (omega arith) (omega arith) in
        let same : nat_eq n m ≡ true = grind (arith, nat_tests) in
        ap (λ b. not (b || stands_in n ms) && are_apart (m ∷ ms)) same

-- a list in order has the answer of its permutations
pub apart_by_sorting : (ns ms : List ℕ) → IsPermutation ns ms → IsNonDecreasing ms → are_apart ns ≡ are_rising ms
apart_by_sorting ns ms h k = apart_alike ns ms h ∙ sorted_apart ms k

pub apart_by_key : {X : Type 0} (n : X → ℕ) (xs ys : List X) → IsPermutation xs ys → IsNonDecreasingBy n ys → are_apart (map n xs) ≡ are_rising (map n ys)
apart_by_key {X = X} n xs ys h k = apart_by_sorting (map n xs) (map n ys) (IsPermutation-map n xs ys h) (numbers ys k)
  where
    numbers : (zs : List X) → IsNonDecreasingBy n zs → IsNonDecreasing (map n zs)
    numbers [] g = λ i j d a b. absurd (omega arith)
    numbers (z ∷ zs) g =
        λ i j d a b.
        let lt : j < length (z ∷ zs) = omega (arith, b, length-map (z ∷ zs) n) in
        let li : i < length (z ∷ zs) = omega (arith, a, lt) in
        let ei : get_or (map n (z ∷ zs)) i d ≡ n (get_or (z ∷ zs) i z) = get_or-map n (z ∷ zs) i z d li in
        let ej : get_or (map n (z ∷ zs)) j d ≡ n (get_or (z ∷ zs) j z) = get_or-map n (z ∷ zs) j z d lt in
        omega (arith, g i j z a lt, ei, ej)

rising_from : (n : ℕ) (ms : List ℕ) → are_above n ms ≡ true → (k : ℕ) → k < length ms → n < get_or ms k 0
rising_from n [] h k l = absurd (omega arith)
rising_from n (m ∷ ms) h k l = go (rising_from m ms) (nat_lt n m) refl h k l
  where
    go : (are_above m ms ≡ true → (k : ℕ) → k < length ms → m < get_or ms k 0) → (b : Bool) → nat_lt n m ≡ b → (b && are_above m ms) ≡ true → (k : ℕ) → k < length (m ∷ ms) → n < get_or (m ∷ ms) k 0
    go more false e f i j = absurd (cc)
    go more true e f zero j = grind (arith, nat_tests)
    go more true e f (suc i) j = let up : n < m = grind (arith, nat_tests) in omega (arith, up, more f i (omega (arith, j)))

-- numbers that rise are apart
pub rising_apart : (ms : List ℕ) → are_rising ms ≡ true → are_apart ms ≡ true
rising_apart [] h = refl
rising_apart (n ∷ []) h = refl
rising_apart (n ∷ m ∷ ms) h =
    ap (λ b. not b && are_apart (m ∷ ms)) (below_all n (m ∷ ms) (rising_from n (m ∷ ms) h)) ∙ rising_apart (m ∷ ms) (tail (nat_lt n m) h)
  where
    tail : (b : Bool) → (b && are_above m ms) ≡ true → are_above m ms ≡ true
    tail true e = e
    tail false e = absurd (cc)

pub apart_by_rising : {X : Type 0} (n : X → ℕ) (xs ys : List X) → IsPermutation xs ys → are_rising (map n ys) ≡ true → are_apart (map n xs) ≡ true
apart_by_rising {X = X} n xs ys h e = apart_alike (map n xs) (map n ys) (IsPermutation-map n xs ys h) ∙ rising_apart (map n ys) e
