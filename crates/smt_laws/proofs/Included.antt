-- A list whose elements another list has too.
use Rattle.std.proofs.Common.{List, [], ◌∷◌, ◌++◌, map, All, Contains, inl, inr, arith}
use Rattle.std.proofs.lemmas.List.Elements.{All-weaker, All-map, All-cons, All-head, All-tail, All-contains, All-contains_itself, Contains-append_left, Contains-append_right, Contains-append_cases}

abbrev pub Included : {X : Type 0} → List X → List X → Type 0
Included {X} xs ys = (x : X) → Contains xs x → Contains ys x

pub All-included : {X : Type 0} (P : X → Type 0) (xs ys : List X) → Included xs ys → All P ys → All P xs
All-included P xs ys inc all =
    All-weaker (Contains xs) P (λ x h. All-contains P ys x all (inc x h)) xs (All-contains_itself xs)

pub included_same : {X : Type 0} (xs : List X) → Included xs xs
included_same xs x h = h

pub included_left : {X : Type 0} (xs ys : List X) → Included xs (xs ++ ys)
included_left xs ys x h = Contains-append_left xs ys x h

pub included_append : {X : Type 0} (xs xs' ys ys' : List X) → Included xs xs' → Included ys ys' → Included (xs ++ ys) (xs' ++ ys')
included_append xs xs' ys ys' f g x h =
    elim (Contains-append_cases xs ys x h) [
      | inl a ↦ Contains-append_left xs' ys' x (f x a)
      | inr b ↦ Contains-append_right xs' ys' x (g x b)
    ]

pub All-unmap : {X Y : Type 0} (P : Y → Type 0) (f : X → Y) (xs : List X) → All P (map f xs) → All (λ x. P (f x)) xs
All-unmap P f [] all = λ k d h. absurd (omega arith)
All-unmap P f (x ∷ xs) all =
    All-cons (λ y. P (f y)) x xs (All-head P (f x) (map f xs) all) (All-unmap P f xs (All-tail P (f x) (map f xs) all))

pub Contains-map : {X Y : Type 0} (f : X → Y) (ys : List X) (x : X) → Contains ys x → Contains (map f ys) (f x)
Contains-map f ys x h =
    All-contains (λ y. Contains (map f ys) (f y)) ys x (All-unmap (Contains (map f ys)) f ys (All-contains_itself (map f ys))) h

pub included_map : {X Y : Type 0} (f : X → Y) (xs ys : List X) → Included xs ys → Included (map f xs) (map f ys)
included_map f xs ys inc y h =
    All-contains (Contains (map f ys)) (map f xs) y
    (All-map (Contains (map f ys)) f xs (All-weaker (Contains xs) (λ x. Contains (map f ys) (f x)) (λ x g. Contains-map f ys x (inc x g)) xs (All-contains_itself xs))) h

pub included_right : {X : Type 0} (xs ys : List X) → Included ys (xs ++ ys)
included_right xs ys x h = Contains-append_right xs ys x h

-- two lists that another has, one after the other
pub included_both : {X : Type 0} (xs ys zs : List X) → Included xs zs → Included ys zs → Included (xs ++ ys) zs
included_both xs ys zs f g x h = elim (Contains-append_cases xs ys x h) [ inl a ↦ f x a | inr b ↦ g x b ]
