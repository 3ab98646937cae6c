-- Tied points, and the points that are filed.
use Rattle.std.proofs.Common.{◌≡◌, ◌≢◌, ℕ, zero, suc, ◌<◌, ◌≤◌, ◌⊎◌, List, [], ◌∷◌, ◌++◌, length, take, map, get_or, refl, sym, ap, ◌∙◌, subst, inl, inr, arith}
use Rattle.std.proofs.lemmas.Bool.{cases_eq, cases_lt}
use Rattle.std.proofs.lemmas.List.{get_or_push, length_push, take_all, take-take, take-append-le, get_or-take}
use Rattle.point_closure.specs.declared.classes.Union.{Union}
use Rattle.point_closure.specs.declared.shape.Shape.{Shape}
use Rattle.point_closure.specs.Closure.{Point, point_at}
use Rattle.point_closure.specs.Unions.{root_of, after}
use Rattle.point_closure.proofs.UnionLemmas.{root_push, after_other}
use Rattle.point_closure.specs.declared.pending.Pending.{Pending}
use Rattle.point_closure.specs.Signature.{Signature, signature}
use Rattle.point_closure.specs.Rest.{Begins, Respect, AreTied}

-- ---- one list begins another

pub begins_itself : {X : Type 0} (xs : List X) → Begins xs xs
begins_itself xs = take_all (length xs) xs (omega arith)

pub begins_append : {X : Type 0} (xs ys : List X) → Begins xs (xs ++ ys)
begins_append xs ys = take-append-le (length xs) xs ys (omega arith) ∙ take_all (length xs) xs (omega arith)

pub begins_length : {X : Type 0} (xs ys : List X) → Begins xs ys → length xs ≤ length ys
begins_length xs ys b = elim (cases_lt (length ys) (length xs)) [
  | inl short ↦ let e : ys ≡ xs = sym (take_all (length xs) ys (omega arith)) ∙ b in absurd (omega (arith, ap length e))
  | inr long ↦ long
]

pub begins_take : {X : Type 0} (xs ys : List X) (n : ℕ) → Begins xs ys → n ≤ length xs → take n ys ≡ take n xs
begins_take xs ys n b le = sym (take-take n (length xs) ys le) ∙ ap (take n) b

pub begins_get : {X : Type 0} (xs ys : List X) (k : ℕ) (d : X) → Begins xs ys → k < length xs → get_or ys k d ≡ get_or xs k d
begins_get xs ys k d b less = sym (get_or-take (length xs) ys k d less) ∙ ap (λ zs. get_or zs k d) b

pub begins_on : {X : Type 0} (xs ys zs : List X) → Begins xs ys → Begins ys zs → Begins xs zs
begins_on xs ys zs b c = begins_take ys zs (length xs) c (begins_length xs ys b) ∙ b

-- ---- ties

pub respect_less : (us : List Union) (xs ys : List Pending) (class : ℕ → ℕ) → Begins xs ys → Respect us ys class → Respect us xs class
respect_less us xs ys class b r = record {
  roots = r.roots;
  pairs = λ k d less. subst (λ (p : Pending). class p.left ≡ class p.right) (begins_get xs ys k d b less) (r.pairs k d (let h : length xs ≤ length ys = begins_length xs ys b in omega arith));
}

pub tied_more : (us : List Union) (xs ys : List Pending) (i j : ℕ) → Begins xs ys → AreTied us xs i j → AreTied us ys i j
tied_more us xs ys i j b t class r = t class (respect_less us xs ys class b r)

pub tied_root : (us : List Union) (xs : List Pending) (i j : ℕ) → root_of us i ≡ root_of us j → AreTied us xs i j
tied_root us xs i j e class r = r.roots i j e

pub root_tied : (us : List Union) (i j : ℕ) → AreTied us [] i j → root_of us i ≡ root_of us j
root_tied us i j t = t (root_of us) (record { roots = λ a b e. e; pairs = λ k d less. absurd (omega arith) })

pub same_on : (us : List Union) (u : Union) (i j : ℕ) → root_of us i ≡ root_of us j → root_of (us ++ u ∷ []) i ≡ root_of (us ++ u ∷ []) j
same_on us u i j e = root_push us u i ∙ ap (after u) e ∙ sym (root_push us u j)

pub tied_on : (us : List Union) (u : Union) (xs : List Pending) (i j : ℕ) → AreTied us xs i j → AreTied (us ++ u ∷ []) xs i j
tied_on us u xs i j t class r = t class (record { roots = λ a b e. r.roots a b (same_on us u a b e); pairs = r.pairs })

-- once all pending pairs are in one class, tied points are
pub tied_done : (us : List Union) (xs : List Pending) (i j : ℕ) → ((k : ℕ) (d : Pending) → k < length xs → root_of us (get_or xs k d).left ≡ root_of us (get_or xs k d).right)
    → AreTied us xs i j → AreTied us [] i j
tied_done us xs i j done t = tied_root us [] i j (t (root_of us) (record { roots = λ a b e. e; pairs = done }))

pub tied_pending : (us : List Union) (xs : List Pending) (p : Pending) → AreTied us (xs ++ p ∷ []) p.left p.right
tied_pending us xs p class r =
    subst (λ (q : Pending). class q.left ≡ class q.right) (get_or_push xs p p (length xs) refl) (r.pairs (length xs) p (omega (arith, length_push xs p)))

-- ---- signatures after one more union

map_same : (f g : ℕ → ℕ) (is : List ℕ) → ((k : ℕ) → k < length is → f (get_or is k 0) ≡ g (get_or is k 0)) → map f is ≡ map g is
map_same f g [] e = refl
map_same f g (i ∷ is) e = cc (e 0 (omega arith), map_same f g is (λ k less. e (suc k) (omega arith)))

map_on : (us : List Union) (u : Union) (is : List ℕ) → map (root_of (us ++ u ∷ [])) is ≡ map (after u) (map (root_of us) is)
map_on us u [] = refl
map_on us u (i ∷ is) = cc (root_push us u i, map_on us u is)

-- points of one signature have one after one more union
pub signature_on : (ps : List Point) (us : List Union) (u : Union) (i j : ℕ) → signature ps us i ≡ signature ps us j → signature ps (us ++ u ∷ []) i ≡ signature ps (us ++ u ∷ []) j
signature_on ps us u i j e =
    let after_one : Signature → Signature = λ s. record { shape = s.shape; classes = map (after u) s.classes } in
    ap (λ cs. signature_with (point_at ps i).shape cs) (map_on us u (point_at ps i).arguments)
    ∙ ap after_one e
    ∙ sym (ap (λ cs. signature_with (point_at ps j).shape cs) (map_on us u (point_at ps j).arguments))
  where
    signature_with : Shape → List ℕ → Signature
    signature_with s cs = record { shape = s; classes = cs }

-- an argument in this class, or none
pub argument_in : (us : List Union) (g : ℕ) (is : List ℕ) → ((a : ℕ) × (a < length is) × (root_of us (get_or is a 0) ≡ g)) ⊎ ((a : ℕ) → a < length is → root_of us (get_or is a 0) ≢ g)
argument_in us g [] = inr (λ a less. absurd (omega arith))
argument_in us g (i ∷ is) = elim (cases_eq (root_of us i) g) [
  | inl here ↦ inl (0, omega arith, here)
  | inr other ↦ elim (argument_in us g is) [
    | inl h ↦ let less : h.0 < length is = h.1 in inl (suc h.0, omega arith, h.2)
    | inr none ↦ inr (λ a less. all_of us g i is other none a less)
  ]
]
  where
    all_of : (us : List Union) (g i : ℕ) (is : List ℕ) → root_of us i ≢ g → ((a : ℕ) → a < length is → root_of us (get_or is a 0) ≢ g) → (a : ℕ) → a < suc (length is) → root_of us (get_or (i ∷ is) a 0) ≢ g
    all_of us g i is other none zero less = other
    all_of us g i is other none (suc a) less = none a (omega arith)

pub signature_stays : (ps : List Point) (us : List Union) (u : Union) (i : ℕ) → ((a : ℕ) → a < length (point_at ps i).arguments → root_of us (get_or (point_at ps i).arguments a 0) ≢ u.gone)
    → signature ps (us ++ u ∷ []) i ≡ signature ps us i
signature_stays ps us u i none =
    ap (signature_with (point_at ps i).shape) (map_same (root_of (us ++ u ∷ [])) (root_of us) (point_at ps i).arguments
    (λ k less. root_push us u (get_or (point_at ps i).arguments k 0) ∙ after_other u (root_of us (get_or (point_at ps i).arguments k 0)) (λ e. none k less (sym e))))
  where
    signature_with : Shape → List ℕ → Signature
    signature_with s cs = record { shape = s; classes = cs }
