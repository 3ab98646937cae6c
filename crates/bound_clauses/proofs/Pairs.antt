-- Chains of two lists: what holds of each link, and of each two.
use Rattle.std.proofs.Common.{◌≡◌, ◌≢◌, ℕ, suc, ◌+◌, ◌*◌, ◌≤◌, Bool, true, false, List, [], ◌∷◌, ◌++◌, map, length, All, refl, sym, ap, arith, length-append}
use Rattle.std.specs.Prelude.{if◌then◌else◌, ℤ, negsuc, ◌-ℤ◌, int_le, int_lt, ◌≤ℤ◌, ◌<ℤ◌}
use Rattle.std.proofs.lemmas.Int.{ints}
use Rattle.std.proofs.lemmas.List.Elements.{All-cons, All-nil, All-head, All-tail, All-push, All-map, All-weaker}
use Rattle.bound_clauses.specs.declared.axioms.Bound.{Bound}
use Rattle.bound_clauses.specs.declared.axioms.Link.{Link}
use Rattle.bound_clauses.specs.Chain.{of_sum, of_sums, of_negation, of_negations, merged, chain_of, implication, between, between_neighbours, chain_clauses}
use Rattle.bound_clauses.specs.Laws.{Pairwise, IsAscending, numbers_of, AxiomsAreFew}
use Rattle.bound_clauses.proofs.Whole.{true_lt, false_lt}

-- ---- of each

All-if : {A : Type 0} (P : A → Type 0) (b : Bool) (xs ys : List A) → (b ≡ true → All P xs) → (b ≡ false → All P ys) → All P (if b then xs else ys)
All-if P true xs ys f g = f refl
All-if P false xs ys f g = g refl

if-All : {A : Type 0} (P : A → Type 0) (C : Type 0) (b : Bool) (xs ys : List A) → (b ≡ true → All P xs → C) → (b ≡ false → All P ys → C) → All P (if b then xs else ys) → C
if-All P C true xs ys f g h = f refl h
if-All P C false xs ys f g h = g refl h

module _ (P : Link → Type 0) where
  All-merged : (xs ys : List Link) → All P xs → All P ys → All P (merged xs ys)
  All-merged [] ys hx hy = hy
  All-merged (x ∷ xs) [] hx hy = All-cons P x (merged xs []) (All-head P x xs hx) (All-merged xs [] (All-tail P x xs hx) hy)
  All-merged (x ∷ xs) (y ∷ ys) hx hy =
      All-if P (int_lt y.threshold x.threshold) (y ∷ merged (x ∷ xs) ys) (x ∷ merged xs (y ∷ ys))
      (λ e. All-cons P y (merged (x ∷ xs) ys) (All-head P y ys hy) (All-merged (x ∷ xs) ys hx (All-tail P y ys hy)))
      (λ e. All-cons P x (merged xs (y ∷ ys)) (All-head P x xs hx) (All-merged xs (y ∷ ys) (All-tail P x xs hx) hy))

  All-parts : (xs ys : List Link) → All P (merged xs ys) → All P xs × All P ys
  All-parts [] ys h = (All-nil P, h)
  All-parts (x ∷ xs) [] h =
      let later : All P xs × All P [] = All-parts xs [] (All-tail P x (merged xs []) h) in (All-cons P x xs (All-head P x (merged xs []) h) later.0, All-nil P)
  All-parts (x ∷ xs) (y ∷ ys) h =
      if-All P (All P (x ∷ xs) × All P (y ∷ ys)) (int_lt y.threshold x.threshold) (y ∷ merged (x ∷ xs) ys) (x ∷ merged xs (y ∷ ys))
      (λ e k. (let later : All P (x ∷ xs) × All P ys = All-parts (x ∷ xs) ys (All-tail P y (merged (x ∷ xs) ys) k) in
      (later.0, All-cons P y ys (All-head P y (merged (x ∷ xs) ys) k) later.1)))
      (λ e k. (let later : All P xs × All P (y ∷ ys) = All-parts xs (y ∷ ys) (All-tail P x (merged xs (y ∷ ys)) k) in
      (All-cons P x xs (All-head P x (merged xs (y ∷ ys)) k) later.0, later.1)))
      h

  All-negations : (bs : List Bound) → All (λ b. P (of_negation b)) bs → All P (of_negations bs)
  All-negations [] h = All-nil P
  All-negations (b ∷ bs) h =
      All-push P (of_negations bs) (of_negation b) (All-negations bs (All-tail (λ c. P (of_negation c)) b bs h)) (All-head (λ c. P (of_negation c)) b bs h)

  pub All-chain : (bounds negated : List Bound) → All (λ b. P (of_sum b)) bounds → All (λ b. P (of_negation b)) negated → All P (chain_of bounds negated)
  unfolding chain_of
  All-chain bounds negated hb hn = All-merged (of_sums bounds) (of_negations negated) (All-map P of_sum bounds hb) (All-negations negated hn)

pub All-unmap : {A B : Type 0} (P : B → Type 0) (f : A → B) (xs : List A) → All P (map f xs) → All (λ x. P (f x)) xs
All-unmap P f [] h = All-nil (λ x. P (f x))
All-unmap P f (x ∷ xs) h = All-cons (λ y. P (f y)) x xs (All-head P (f x) (map f xs) h) (All-unmap P f xs (All-tail P (f x) (map f xs) h))

All-of_push : {A : Type 0} (P : A → Type 0) (xs : List A) (x : A) → All P (xs ++ x ∷ []) → All P xs × P x
All-of_push P [] x h = (All-nil P, All-head P x [] h)
All-of_push P (y ∷ ys) x h =
    let later : All P ys × P x = All-of_push P ys x (All-tail P y (ys ++ x ∷ []) h) in (All-cons P y ys (All-head P y (ys ++ x ∷ []) h) later.0, later.1)

All-of_negations : (P : Link → Type 0) (bs : List Bound) → All P (of_negations bs) → All (λ b. P (of_negation b)) bs
All-of_negations P [] h = All-nil (λ b. P (of_negation b))
All-of_negations P (b ∷ bs) h =
    let later : All P (of_negations bs) × P (of_negation b) = All-of_push P (of_negations bs) (of_negation b) h in
    All-cons (λ c. P (of_negation c)) b bs later.1 (All-of_negations P bs later.0)

pub All-of_chain : (P : Link → Type 0) (bounds negated : List Bound) → All P (chain_of bounds negated) → All (λ b. P (of_sum b)) bounds × All (λ b. P (of_negation b)) negated
unfolding chain_of
All-of_chain P bounds negated h =
    let parts : All P (of_sums bounds) × All P (of_negations negated) = All-parts P (of_sums bounds) (of_negations negated) h in
    (All-unmap P of_sum bounds parts.0, All-of_negations P negated parts.1)

-- ---- of each two

module _ {A : Type 0} (R : A → A → Type 0) where
  Pairwise-push : (xs : List A) (y : A) → Pairwise R xs → All (λ x. R x y) xs → Pairwise R (xs ++ y ∷ [])
  Pairwise-push [] y h k = (All-nil (R y), tt)
  Pairwise-push (x ∷ xs) y h k = (All-push (R x) xs y h.0 (All-head (λ z. R z y) x xs k), Pairwise-push xs y h.1 (All-tail (λ z. R z y) x xs k))

  All-left : (P : A → Type 0) (xs ys : List A) → All P (xs ++ ys) → All P xs
  All-left P [] ys h = All-nil P
  All-left P (x ∷ xs) ys h = All-cons P x xs (All-head P x (xs ++ ys) h) (All-left P xs ys (All-tail P x (xs ++ ys) h))

  All-right : (P : A → Type 0) (xs ys : List A) → All P (xs ++ ys) → All P ys
  All-right P [] ys h = h
  All-right P (x ∷ xs) ys h = All-right P xs ys (All-tail P x (xs ++ ys) h)

  pub Pairwise-left : (xs ys : List A) → Pairwise R (xs ++ ys) → Pairwise R xs
  Pairwise-left [] ys h = tt
  Pairwise-left (x ∷ xs) ys h = (All-left (R x) xs ys h.0, Pairwise-left xs ys h.1)

  pub Pairwise-right : (xs ys : List A) → Pairwise R (xs ++ ys) → Pairwise R ys
  Pairwise-right [] ys h = h
  Pairwise-right (x ∷ xs) ys h = Pairwise-right xs ys h.1

  pub Pairwise-across : (xs ys : List A) → Pairwise R (xs ++ ys) → All (λ x. All (R x) ys) xs
  Pairwise-across [] ys h = All-nil (λ x. All (R x) ys)
  Pairwise-across (x ∷ xs) ys h = All-cons (λ z. All (R z) ys) x xs (All-right (R x) xs ys h.0) (Pairwise-across xs ys h.1)

pub Pairwise-map : {A B : Type 0} (R : B → B → Type 0) (f : A → B) (xs : List A) → Pairwise (λ x y. R (f x) (f y)) xs → Pairwise R (map f xs)
Pairwise-map R f [] h = tt
Pairwise-map R f (x ∷ xs) h = (All-map (R (f x)) f xs h.0, Pairwise-map R f xs h.1)

pub Pairwise-unmap : {A B : Type 0} (R : B → B → Type 0) (f : A → B) (xs : List A) → Pairwise R (map f xs) → Pairwise (λ x y. R (f x) (f y)) xs
Pairwise-unmap R f [] h = tt
Pairwise-unmap R f (x ∷ xs) h = (All-unmap (R (f x)) f xs h.0, Pairwise-unmap R f xs h.1)

-- ---- in order

abbrev pub NotAfter : Link → Link → Type 0
NotAfter x y = x.threshold ≤ℤ y.threshold

le_trans : (a b c : ℤ) → a ≤ℤ b → b ≤ℤ c → a ≤ℤ c
le_trans a b c h k = omega (arith, ints)

lt_le : (a b : ℤ) → a <ℤ b → a ≤ℤ b
lt_le a b h = omega (arith, ints)

after : (x y : Link) (zs : List Link) → NotAfter x y → All (NotAfter y) zs → All (NotAfter x) zs
after x y zs h all = All-weaker (NotAfter y) (NotAfter x) (λ z k. le_trans x.threshold y.threshold z.threshold h k) zs all

Pairwise-if : (R : Link → Link → Type 0) (b : Bool) (xs ys : List Link) → (b ≡ true → Pairwise R xs) → (b ≡ false → Pairwise R ys) → Pairwise R (if b then xs else ys)
Pairwise-if R true xs ys f g = f refl
Pairwise-if R false xs ys f g = g refl

merged_ascending : (xs ys : List Link) → Pairwise NotAfter xs → Pairwise NotAfter ys → Pairwise NotAfter (merged xs ys)
merged_ascending [] ys hx hy = hy
merged_ascending (x ∷ xs) [] hx hy = (All-merged (NotAfter x) xs [] hx.0 (All-nil (NotAfter x)), merged_ascending xs [] hx.1 tt)
merged_ascending (x ∷ xs) (y ∷ ys) hx hy =
    Pairwise-if NotAfter (int_lt y.threshold x.threshold) (y ∷ merged (x ∷ xs) ys) (x ∷ merged xs (y ∷ ys))
    (λ e. (let le : NotAfter y x = lt_le y.threshold x.threshold (true_lt y.threshold x.threshold e) in
    (All-merged (NotAfter y) (x ∷ xs) ys (All-cons (NotAfter y) x xs le (after y x xs le hx.0)) hy.0, merged_ascending (x ∷ xs) ys hx hy.1)))
    (λ e. (let le : NotAfter x y = false_lt y.threshold x.threshold e in
    (All-merged (NotAfter x) xs (y ∷ ys) hx.0 (All-cons (NotAfter x) y ys le (after x y ys le hy.0)), merged_ascending xs (y ∷ ys) hx.1 hy)))

turned : (a b : ℤ) → a ≤ℤ b → (negsuc 0 -ℤ b) ≤ℤ (negsuc 0 -ℤ a)
turned a b h = omega (arith, ints)

negations_ascending : (bs : List Bound) → IsAscending bs → Pairwise NotAfter (of_negations bs)
negations_ascending [] h = tt
negations_ascending (b ∷ bs) h =
    Pairwise-push NotAfter (of_negations bs) (of_negation b) (negations_ascending bs h.1)
    (All-negations (λ x. NotAfter x (of_negation b)) bs
    (All-weaker (λ (c : Bound). b.threshold ≤ℤ c.threshold) (λ c. NotAfter (of_negation c) (of_negation b)) (λ c k. turned b.threshold c.threshold k) bs h.0))

pub chain_ascending : (bounds negated : List Bound) → IsAscending bounds → IsAscending negated → Pairwise NotAfter (chain_of bounds negated)
unfolding chain_of
chain_ascending bounds negated hb hn =
    merged_ascending (of_sums bounds) (of_negations negated) (Pairwise-map NotAfter of_sum bounds hb) (negations_ascending negated hn)

-- ---- apart

abbrev pub Differ : Link → Link → Type 0
Differ x y = x.literal.atom ≢ y.literal.atom

turned_around : (x : Link) (ys : List Link) → All (Differ x) ys → All (λ y. Differ y x) ys
turned_around x ys h = All-weaker (Differ x) (λ y. Differ y x) (λ y ne e. ne (sym e)) ys h

merged_apart : (xs ys : List Link) → Pairwise Differ xs → Pairwise Differ ys → All (λ x. All (Differ x) ys) xs → Pairwise Differ (merged xs ys)
merged_apart [] ys hx hy across = hy
merged_apart (x ∷ xs) [] hx hy across = (All-merged (Differ x) xs [] hx.0 (All-nil (Differ x)), merged_apart xs [] hx.1 tt (All-tail (λ z. All (Differ z) []) x xs across))
merged_apart (x ∷ xs) (y ∷ ys) hx hy across =
    Pairwise-if Differ (int_lt y.threshold x.threshold) (y ∷ merged (x ∷ xs) ys) (x ∷ merged xs (y ∷ ys))
    (λ e. (
      All-merged (Differ y) (x ∷ xs) ys
          (All-weaker (λ z. All (Differ z) (y ∷ ys)) (Differ y) (λ z all e. All-head (Differ z) y ys all (sym e)) (x ∷ xs) across) hy.0,
      merged_apart (x ∷ xs) ys hx hy.1 (All-weaker (λ z. All (Differ z) (y ∷ ys)) (λ z. All (Differ z) ys) (λ z all. All-tail (Differ z) y ys all) (x ∷ xs) across),
    ))
    (λ e. (
      All-merged (Differ x) xs (y ∷ ys) hx.0 (All-head (λ z. All (Differ z) (y ∷ ys)) x xs across),
      merged_apart xs (y ∷ ys) hx.1 hy (All-tail (λ z. All (Differ z) (y ∷ ys)) x xs across),
    ))

abbrev number : Bound → ℕ
number b = b.number

abbrev HaveDifferent : Bound → Bound → Type 0
HaveDifferent b c = number b ≢ number c

negations_apart : (bs : List Bound) → Pairwise HaveDifferent bs → Pairwise Differ (of_negations bs)
negations_apart [] h = tt
negations_apart (b ∷ bs) h =
    Pairwise-push Differ (of_negations bs) (of_negation b) (negations_apart bs h.1)
    (All-negations (λ x. Differ x (of_negation b)) bs (All-weaker (HaveDifferent b) (λ c. Differ (of_negation c) (of_negation b)) (λ c ne e. ne (sym e)) bs h.0))

pub chain_apart : (bounds negated : List Bound) → Pairwise (λ (m n : ℕ). m ≢ n) (numbers_of bounds negated) → Pairwise Differ (chain_of bounds negated)
unfolding chain_of
chain_apart bounds negated h =
    merged_apart (of_sums bounds) (of_negations negated)
    (Pairwise-map Differ of_sum bounds (Pairwise-unmap (λ m n. m ≢ n) number bounds (Pairwise-left (λ m n. m ≢ n) (map number bounds) (map number negated) h)))
    (negations_apart negated (Pairwise-unmap (λ m n. m ≢ n) number negated (Pairwise-right (λ m n. m ≢ n) (map number bounds) (map number negated) h)))
    (All-map (λ x. All (Differ x) (of_negations negated)) of_sum bounds
    (All-weaker (λ b. All (λ n. number b ≢ n) (map number negated)) (λ b. All (Differ (of_sum b)) (of_negations negated))
    (λ b all. All-negations (Differ (of_sum b)) negated (All-unmap (λ n. number b ≢ n) number negated all)) bounds
    (All-unmap (λ m. All (λ n. m ≢ n) (map number negated)) number bounds (Pairwise-across (λ m n. m ≢ n) (map number bounds) (map number negated) h))))

pub All-of_append : {A : Type 0} (P : A → Type 0) (xs ys : List A) → All P (xs ++ ys) → All P xs × All P ys
All-of_append P [] ys h = (All-nil P, h)
All-of_append P (x ∷ xs) ys h =
    let later : All P xs × All P ys = All-of_append P xs ys (All-tail P x (xs ++ ys) h) in (All-cons P x xs (All-head P x (xs ++ ys) h) later.0, later.1)

-- ---- how many

length-if : {A : Type 0} (b : Bool) (xs ys : List A) (n : ℕ) → length xs ≡ n → length ys ≡ n → length (if b then xs else ys) ≡ n
length-if true xs ys n h k = h
length-if false xs ys n h k = k

length-merged : (xs ys : List Link) → length (merged xs ys) ≡ length xs + length ys
length-merged [] ys = omega arith
length-merged (x ∷ xs) [] = omega (arith, length-merged xs [])
length-merged (x ∷ xs) (y ∷ ys) =
    length-if (int_lt y.threshold x.threshold) (y ∷ merged (x ∷ xs) ys) (x ∷ merged xs (y ∷ ys)) (suc (length xs) + suc (length ys))
    (omega (arith, length-merged (x ∷ xs) ys)) (omega (arith, length-merged xs (y ∷ ys)))

length-of_negations : (bs : List Bound) → length (of_negations bs) ≡ length bs
length-of_negations [] = refl
length-of_negations (b ∷ bs) = omega (arith, length-append (of_negations bs) (of_negation b ∷ []), length-of_negations bs)

length-of_sums : (bs : List Bound) → length (of_sums bs) ≡ length bs
length-of_sums [] = refl
length-of_sums (b ∷ bs) = ap suc (length-of_sums bs)

short : (x y : Link) (b : Bool) → length (if b then implication y x ∷ [] else []) ≤ 1
short x y true = omega arith
short x y false = omega arith

few : (x : Link) (xs : List Link) → length (between_neighbours x xs) ≤ 2 * length xs
few x [] = omega arith
few x (y ∷ ys) =
    let e : length (between x y ++ between_neighbours y ys) ≡ length (between x y) + length (between_neighbours y ys) = length-append (between x y) (between_neighbours y ys) in
    let two : length (if int_le y.threshold x.threshold then implication y x ∷ [] else []) ≤ 1 = short x y (int_le y.threshold x.threshold) in
    let rest : length (between_neighbours y ys) ≤ 2 * length ys = few y ys in
    omega arith

few_in_chain : (xs : List Link) → length (chain_clauses xs) ≤ 2 * length xs
few_in_chain [] = omega arith
few_in_chain (x ∷ xs) = let h : length (between_neighbours x xs) ≤ 2 * length xs = few x xs in omega arith

pub axioms_few : AxiomsAreFew
unfolding chain_of
axioms_few bounds negated =
    let h : length (chain_clauses (merged (of_sums bounds) (of_negations negated))) ≤ 2 * length (merged (of_sums bounds) (of_negations negated)) =
    few_in_chain (merged (of_sums bounds) (of_negations negated)) in
    omega (arith, h, length-merged (of_sums bounds) (of_negations negated), length-of_sums bounds, length-of_negations negated)
