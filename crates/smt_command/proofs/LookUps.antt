-- Looking a name up in one table after another.
use Rattle.std.proofs.Common.{◌≡◌, ℕ, List, [], ◌∷◌, ◌++◌, map, Bool, true, false, cond, Option, Some, None, refl, ap, sym, ◌∙◌}
use Rattle.std.specs.Str.{bytes_eq}
use Rattle.smt_meaning.specs.Signature.{look_up, is_one_of}

abbrev or : {A : Type 0} → Option A → Option A → Option A
or None o = o
or (Some a) o = Some a

or_cond : {A : Type 0} (b : Bool) (a : A) (o p : Option A) → cond b (Some a) (or o p) ≡ or (cond b (Some a) o) p
or_cond true a o p = refl
or_cond false a o p = refl

look_up-append : {A : Type 0} (n : List ℕ) (xs ys : List (List ℕ × A)) → look_up n (xs ++ ys) ≡ or (look_up n xs) (look_up n ys)
look_up-append n [] ys = refl
look_up-append n (x ∷ xs) ys =
    ap (λ o. cond (bytes_eq n x.0) (Some x.1) o) (look_up-append n xs ys) ∙ or_cond (bytes_eq n x.0) x.1 (look_up n xs) (look_up n ys)

-- a name that a table doesn't have is looked up in the next ones
pub past : {A : Type 0} (n : List ℕ) (xs ys : List (List ℕ × A)) → None ≡ look_up n xs → look_up n ys ≡ look_up n (xs ++ ys)
past n xs ys h = ap (λ o. or o (look_up n ys)) h ∙ sym (look_up-append n xs ys)

pub here : {A : Type 0} (n : List ℕ) (xs ys : List (List ℕ × A)) (a : A) → Some a ≡ look_up n xs → Some a ≡ look_up n (xs ++ ys)
here n xs ys a h = ap (λ o. or o (look_up n ys)) h ∙ sym (look_up-append n xs ys)

-- a table of names that stand for one value
one_value : {A : Type 0} (n : List ℕ) (f : List ℕ → List ℕ × A) (a : A) (ns : List (List ℕ)) → ((m : List ℕ) → f m ≡ (m, a))
    → look_up n (map f ns) ≡ cond (is_one_of n ns) (Some a) None
one_value {A = A} n f a [] h = refl
one_value {A = A} n f a (m ∷ ns) h =
    ap (λ (p : List ℕ × A). cond (bytes_eq n p.0) (Some p.1) (look_up n (map f ns))) (h m) ∙ ap (λ o. cond (bytes_eq n m) (Some a) o) (one_value n f a ns h) ∙ inside (bytes_eq n m) (is_one_of n ns)
  where
    inside : (b c : Bool) → cond b (Some a) (cond c (Some a) None) ≡ cond (cond b true c) (Some a) None
    inside true c = refl
    inside false c = refl

pub among : {A : Type 0} (n : List ℕ) (f : List ℕ → List ℕ × A) (a : A) (ns : List (List ℕ)) → ((m : List ℕ) → f m ≡ (m, a)) → true ≡ is_one_of n ns → Some a ≡ look_up n (map f ns)
among n f a ns h e = ap (λ b. cond b (Some a) None) e ∙ sym (one_value n f a ns h)

pub not_among : {A : Type 0} (n : List ℕ) (f : List ℕ → List ℕ × A) (a : A) (ns : List (List ℕ)) → ((m : List ℕ) → f m ≡ (m, a)) → false ≡ is_one_of n ns → None ≡ look_up n (map f ns)
not_among n f a ns h e = ap (λ b. cond b (Some a) None) e ∙ sym (one_value n f a ns h)
