-- Lists whose items each have one of another list for themselves, so that they aren't longer than it.
use Rattle.std.proofs.Common.{◌≡◌, inl, inr, suc, ◌≤◌, sym, ap, ◌∙◌, subst, refl, arith, List, [], ◌∷◌, ◌++◌, map, length, Contains}
use Rattle.std.proofs.lemmas.List.Elements.{Contains-append_left, Contains-append_right, Contains-append_cases}
use Rattle.report_laws.proofs.Listed.{in_cons, in_none}

pub record Split {X : Type 0} (xs : List X) (x : X) : Type 0 where
  pub front : List X
  pub back : List X
  pub is : xs ≡ front ++ x ∷ back

pub split_at : {X : Type 0} (xs : List X) (x : X) → Contains xs x → Split xs x
split_at [] x c = absurd (in_none x c)
split_at (y ∷ xs) x c = elim (in_cons y x xs c) [
  | inl e ↦ record { front = []; back = xs; is = ap (λ z. z ∷ xs) (sym e) }
  | inr later ↦ let s : Split xs x = split_at xs x later in record { front = y ∷ s.front; back = s.back; is = ap (λ zs. y ∷ zs) s.is }
]

pub first_in : {X : Type 0} (x : X) (xs : List X) → Contains (x ∷ xs) x
first_in x xs = (0, omega arith, refl)

pub later_in : {X : Type 0} (x y : X) (xs : List X) → Contains xs y → Contains (x ∷ xs) y
later_in x y xs c = Contains-append_right (x ∷ []) xs y c

pub middle_in : {X : Type 0} (front back : List X) (x : X) → Contains (front ++ x ∷ back) x
middle_in front back x = Contains-append_right front (x ∷ back) x (first_in x back)

longer_by_one : {X : Type 0} (front back : List X) (x : X) → length (front ++ x ∷ back) ≡ suc (length (front ++ back))
longer_by_one [] back x = refl
longer_by_one (y ∷ front) back x = ap suc (longer_by_one front back x)

pub without : {X : Type 0} (front back : List X) (x y : X) → (y ≡ x → ⊥) → Contains (front ++ x ∷ back) y → Contains (front ++ back) y
without front back x y other c = elim (Contains-append_cases front (x ∷ back) y c) [
  | inl early ↦ Contains-append_left front back y early
  | inr late ↦ elim (in_cons x y back late) [ inl e ↦ absurd (other e) | inr later ↦ Contains-append_right front back y later ]
]

pub with_middle : {X : Type 0} (front back : List X) (x y : X) → Contains (front ++ back) y → Contains (front ++ x ∷ back) y
with_middle front back x y c = elim (Contains-append_cases front back y c) [
  | inl early ↦ Contains-append_left front (x ∷ back) y early
  | inr late ↦ Contains-append_right front (x ∷ back) y (later_in x y back late)
]

pub in_list : {X Y : Type 0} (f : X → Y) (xs : List X) (x : X) → Contains xs x → Contains (map f xs) (f x)
in_list f [] x c = absurd (in_none x c)
in_list f (y ∷ xs) x c = elim (in_cons y x xs c) [
  | inl e ↦ (0, omega arith, ap f (sym e))
  | inr later ↦ later_in (f y) (f x) (map f xs) (in_list f xs x later)
]

-- an item of a list that f gave
pub from_list : {X Y : Type 0} (f : X → Y) (xs : List X) (y : Y) → Contains (map f xs) y → (x : X) × Contains xs x × (y ≡ f x)
from_list f [] y c = absurd (in_none y c)
from_list f (x ∷ xs) y c = elim (in_cons (f x) y (map f xs) c) [
  | inl e ↦ (x, first_in x xs, e)
  | inr later ↦ let h = from_list f xs y later in (h.0, later_in x h.0 xs h.1, h.2)
]

moved : {X : Type 0} (pre xs : List X) (x : X) → (pre ++ x ∷ []) ++ xs ≡ pre ++ x ∷ xs
moved [] xs x = refl
moved (y ∷ pre) xs x = ap (λ zs. y ∷ zs) (moved pre xs x)

inner : {X : Type 0} (pre front back : List X) (x z : X) → pre ++ x ∷ (front ++ z ∷ back) ≡ (pre ++ x ∷ front) ++ z ∷ back
inner [] front back x z = refl
inner (y ∷ pre) front back x z = ap (λ zs. y ∷ zs) (inner pre front back x z)

module _ {X Y : Type 0} (R : X → Y → Type 0) where
  -- no two have one in common
  abbrev pub AreApart : List X → Type 0
  AreApart [] = Unit {0}
  AreApart (x ∷ xs) = ((z : X) → Contains xs z → (y : Y) → R x y → R z y → ⊥) × AreApart xs

  -- where each has one among these, they aren't more
  pub no_longer : (xs : List X) (ys : List Y) → AreApart xs → ((x : X) → Contains xs x → (y : Y) × Contains ys y × R x y) → length xs ≤ length ys
  no_longer [] ys apart has = omega arith
  no_longer (x ∷ xs) ys apart has =
      let h = has x (first_in x xs) in
      let s : Split ys h.0 = split_at ys h.0 h.1 in
      let rest : length xs ≤ length (s.front ++ s.back) = no_longer xs (s.front ++ s.back) apart.1 (λ z c.
      let k = has z (later_in x z xs c) in
      (k.0, without s.front s.back h.0 k.0 (λ e. apart.0 z c h.0 h.2 (subst (R z) e k.2)) (subst (λ zs. Contains zs k.0) s.is k.1), k.2)) in
      let size : length ys ≡ suc (length (s.front ++ s.back)) = ap length s.is ∙ longer_by_one s.front s.back h.0 in
      omega (arith, rest, size)

  apart_after : (pre xs : List X) → ((before after : List X) (x : X) → pre ++ xs ≡ before ++ x ∷ after → (z : X) → Contains before z → (y : Y) → R z y → R x y → ⊥) → AreApart xs
  apart_after pre [] new = tt
  apart_after pre (x ∷ xs) new = (
    λ z c y k h.
        let s = split_at xs z c in
        new (pre ++ x ∷ s.front) s.back z (ap (λ zs. pre ++ x ∷ zs) s.is ∙ inner pre s.front s.back x z) x (middle_in pre s.front x) y k h,
    apart_after (pre ++ x ∷ []) xs (λ before after z e. new before after z (sym (moved pre xs x) ∙ e)),
  )

  -- where none has one in common with those before it
  pub apart_by : (xs : List X) → ((before after : List X) (x : X) → xs ≡ before ++ x ∷ after → (z : X) → Contains before z → (y : Y) → R z y → R x y → ⊥) → AreApart xs
  apart_by xs new = apart_after [] xs new
