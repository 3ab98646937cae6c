-- Facts of the elements of a list and of its pairs, where an element is put in or some are taken out.
pub use Rattle.smt_laws.proofs.FrontAndBack.{all_front as All-first, all_back as All-last}
use Rattle.std.proofs.Common.{◌≡◌, ℕ, suc, ◌+◌, ◌≤◌, List, [], ◌∷◌, ◌++◌, length, take, drop, All, sym, ap, ◌∙◌, subst, arith, append_assoc, length-append}
use Rattle.std.specs.Prelude.{AllPairs, insert}
use Rattle.std.proofs.lemmas.List.{length-take, length-drop, length_push, take-append-drop, take-append-le, take-take, take_all, drop_at, drop-take}
use Rattle.std.proofs.lemmas.List.Elements.{All-nil, All-cons, All-head, All-tail, All-append, All-take, All-drop}
use Rattle.std.proofs.lemmas.List.Kept.{AllPairs-cons}

-- ---- pairs

pub AllPairs-tail : {X : Type 0} (R : X → X → Type 0) (x : X) (xs : List X) → AllPairs R (x ∷ xs) → AllPairs R xs
AllPairs-tail R x xs h i j d less short = h (suc i) (suc j) d (omega arith) (omega arith)

pub AllPairs-head : {X : Type 0} (R : X → X → Type 0) (x : X) (xs : List X) → AllPairs R (x ∷ xs) → All (R x) xs
AllPairs-head R x xs h j d short = h 0 (suc j) d (omega arith) (omega arith)

pub AllPairs-nil : {X : Type 0} (R : X → X → Type 0) → AllPairs R []
AllPairs-nil R i j d less short = absurd (omega arith)

pub AllPairs-append : {X : Type 0} (R : X → X → Type 0) (xs ys : List X) → AllPairs R xs → AllPairs R ys → All (λ x. All (R x) ys) xs → AllPairs R (xs ++ ys)
AllPairs-append R [] ys left right across = right
AllPairs-append R (x ∷ xs) ys left right across =
    AllPairs-cons R x (xs ++ ys) (All-append (R x) xs ys (AllPairs-head R x xs left) (All-head (λ z. All (R z) ys) x xs across))
    (AllPairs-append R xs ys (AllPairs-tail R x xs left) right (All-tail (λ z. All (R z) ys) x xs across))

AllPairs-left : {X : Type 0} (R : X → X → Type 0) (xs ys : List X) → AllPairs R (xs ++ ys) → AllPairs R xs
AllPairs-left R [] ys h = AllPairs-nil R
AllPairs-left R (x ∷ xs) ys h =
    AllPairs-cons R x xs (All-first (R x) xs ys (AllPairs-head R x (xs ++ ys) h)) (AllPairs-left R xs ys (AllPairs-tail R x (xs ++ ys) h))

AllPairs-right : {X : Type 0} (R : X → X → Type 0) (xs ys : List X) → AllPairs R (xs ++ ys) → AllPairs R ys
AllPairs-right R [] ys h = h
AllPairs-right R (x ∷ xs) ys h = AllPairs-right R xs ys (AllPairs-tail R x (xs ++ ys) h)

AllPairs-across : {X : Type 0} (R : X → X → Type 0) (xs ys : List X) → AllPairs R (xs ++ ys) → All (λ x. All (R x) ys) xs
AllPairs-across R [] ys h = All-nil (λ x. All (R x) ys)
AllPairs-across R (x ∷ xs) ys h =
    All-cons (λ z. All (R z) ys) x xs (All-last (R x) xs ys (AllPairs-head R x (xs ++ ys) h)) (AllPairs-across R xs ys (AllPairs-tail R x (xs ++ ys) h))

parted : {X : Type 0} (R : X → X → Type 0) (n : ℕ) (xs : List X) → AllPairs R xs → AllPairs R (take n xs ++ drop n xs)
parted R n xs h = subst (AllPairs R) (sym (take-append-drop n xs)) h

pub AllPairs-take : {X : Type 0} (R : X → X → Type 0) (n : ℕ) (xs : List X) → AllPairs R xs → AllPairs R (take n xs)
AllPairs-take R n xs h = AllPairs-left R (take n xs) (drop n xs) (parted R n xs h)

pub AllPairs-drop : {X : Type 0} (R : X → X → Type 0) (n : ℕ) (xs : List X) → AllPairs R xs → AllPairs R (drop n xs)
AllPairs-drop R n xs h = AllPairs-right R (take n xs) (drop n xs) (parted R n xs h)

-- ---- one more

pub All-insert : {X : Type 0} (P : X → Type 0) (xs : List X) (n : ℕ) (y : X) → All P xs → P y → All P (insert xs n y)
All-insert P xs n y h new = All-append P (take n xs) (y ∷ drop n xs) (All-take P n xs h) (All-cons P y (drop n xs) new (All-drop P n xs h))

all_across : {X : Type 0} (R : X → X → Type 0) (y : X) (xs ys : List X) → All (λ x. R x y) xs → All (λ x. All (R x) ys) xs → All (λ x. All (R x) (y ∷ ys)) xs
all_across R y [] ys new old = All-nil (λ x. All (R x) (y ∷ ys))
all_across R y (x ∷ xs) ys new old =
    All-cons (λ z. All (R z) (y ∷ ys)) x xs (All-cons (R x) y ys (All-head (λ z. R z y) x xs new) (All-head (λ z. All (R z) ys) x xs old))
    (all_across R y xs ys (All-tail (λ z. R z y) x xs new) (All-tail (λ z. All (R z) ys) x xs old))

pub AllPairs-insert : {X : Type 0} (R : X → X → Type 0) (xs : List X) (n : ℕ) (y : X) → AllPairs R xs → All (λ x. R x y) (take n xs) → All (R y) (drop n xs) → AllPairs R (insert xs n y)
AllPairs-insert R xs n y h before after =
    AllPairs-append R (take n xs) (y ∷ drop n xs) (AllPairs-take R n xs h) (AllPairs-cons R y (drop n xs) after (AllPairs-drop R n xs h))
    (all_across R y (take n xs) (drop n xs) before (AllPairs-across R (take n xs) (drop n xs) (parted R n xs h)))

insert_split : {X : Type 0} (xs : List X) (n : ℕ) (y : X) → insert xs n y ≡ (take n xs ++ y ∷ []) ++ drop n xs
insert_split xs n y = sym (append_assoc (take n xs) (y ∷ []) (drop n xs))

length_first : {X : Type 0} (xs : List X) (n : ℕ) (y : X) → n ≤ length xs → length (take n xs ++ y ∷ []) ≡ n + 1
length_first xs n y within = omega (arith, length_push (take n xs) y, length-take n xs)

pub take_inserted : {X : Type 0} (xs : List X) (n : ℕ) (y : X) → n ≤ length xs → take (n + 1) (insert xs n y) ≡ take n xs ++ y ∷ []
take_inserted xs n y within =
    let size : length (take n xs ++ y ∷ []) ≡ n + 1 = length_first xs n y within in
    ap (take (n + 1)) (insert_split xs n y) ∙ take-append-le (n + 1) (take n xs ++ y ∷ []) (drop n xs) (omega arith) ∙ take_all (n + 1) (take n xs ++ y ∷ []) (omega arith)

pub drop_inserted : {X : Type 0} (xs : List X) (n : ℕ) (y : X) → n ≤ length xs → drop (n + 1) (insert xs n y) ≡ drop n xs
drop_inserted xs n y within =
    ap (drop (n + 1)) (insert_split xs n y) ∙ drop_at (take n xs ++ y ∷ []) (drop n xs) (n + 1) (length_first xs n y within)

pub take_before : {X : Type 0} (xs : List X) (n : ℕ) (y : X) → n ≤ length xs → take n (insert xs n y) ≡ take n xs
take_before xs n y within =
    let size : length (take n xs) ≡ n = omega (arith, length-take n xs) in
    take-append-le n (take n xs) (y ∷ drop n xs) (omega arith) ∙ take_all n (take n xs) (omega arith)

-- ---- some taken out

pub All-without : {X : Type 0} (P : X → Type 0) (xs : List X) (m n : ℕ) → All P xs → All P (take m xs ++ drop n xs)
All-without P xs m n h = All-append P (take m xs) (drop n xs) (All-take P m xs h) (All-drop P n xs h)

pub AllPairs-without : {X : Type 0} (R : X → X → Type 0) (xs : List X) (m n : ℕ) → m ≤ n → AllPairs R xs → AllPairs R (take m xs ++ drop n xs)
AllPairs-without R xs m n order h =
    AllPairs-append R (take m xs) (drop n xs) (AllPairs-take R m xs h) (AllPairs-drop R n xs h)
    (subst (All (λ x. All (R x) (drop n xs))) (take-take m n xs order)
    (All-take (λ x. All (R x) (drop n xs)) m (take n xs) (AllPairs-across R (take n xs) (drop n xs) (parted R n xs h))))

pub length-without : {X : Type 0} (xs : List X) (m n : ℕ) → m ≤ n → n ≤ length xs → length (take m xs ++ drop n xs) + n ≡ length xs + m
length-without xs m n order within = omega (arith, length-append (take m xs) (drop n xs), length-take m xs, length-drop n xs)

pub take_without : {X : Type 0} (xs : List X) (m n : ℕ) → m ≤ length xs → take m (take m xs ++ drop n xs) ≡ take m xs
take_without xs m n within =
    let size : length (take m xs) ≡ m = omega (arith, length-take m xs) in
    take-append-le m (take m xs) (drop n xs) (omega arith) ∙ take_all m (take m xs) (omega arith)

pub drop_without : {X : Type 0} (xs : List X) (m n : ℕ) → m ≤ length xs → drop m (take m xs ++ drop n xs) ≡ drop n xs
drop_without xs m n within = drop_at (take m xs) (drop n xs) m (omega (arith, length-take m xs))

-- the first of those up to a place, and the others up to another
pub without_first : {X : Type 0} (xs : List X) (b base m : ℕ) → b ≤ base → take b (take (base + m) xs) ++ drop base (take (base + m) xs) ≡ take b (take base xs) ++ take m (drop base xs)
without_first xs b base m order =
    ap (λ ys. ys ++ drop base (take (base + m) xs)) (take-take b (base + m) xs (omega arith) ∙ sym (take-take b base xs order))
    ∙ ap (λ ys. take b (take base xs) ++ ys) (drop-take base m xs)
