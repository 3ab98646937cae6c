-- Lists that begin alike, what is read of them, and clauses with the same literals.
use Rattle.std.proofs.Common.{◌≡◌, ℕ, zero, suc, ◌<◌, List, [], ◌∷◌, ◌++◌, length, Contains, Option, Some, refl, sym, ap, ◌∙◌, subst, arith}
use Rattle.std.proofs.lemmas.List.{length-append}
use Rattle.smt_meaning.specs.declared.clauses.Literal.{Literal}
use Rattle.smt_meaning.specs.Sexp.{Sexp}
use Rattle.proof_meaning.specs.Reading.{AreRead}
use Rattle.proof_meaning.specs.Rules.{clause_at}

-- ---- lists

pub some_same : {A : Type 0} {a b : A} → Some a ≡ Some b → a ≡ b
some_same e = cc

pub heads_same : {A : Type 0} {a b : A} {xs ys : List A} → a ∷ xs ≡ b ∷ ys → a ≡ b
heads_same e = cc

pub tails_same : {A : Type 0} {a b : A} {xs ys : List A} → a ∷ xs ≡ b ∷ ys → xs ≡ ys
tails_same e = cc

pub same_front : {A : Type 0} (xs ys zs ws : List A) → xs ++ ys ≡ zs ++ ws → length xs ≡ length zs → (xs ≡ zs) × (ys ≡ ws)
same_front [] ys [] ws e h = (refl, e)
same_front [] ys (z ∷ zs) ws e h = absurd (omega (arith, h))
same_front (x ∷ xs) ys [] ws e h = absurd (omega (arith, h))
same_front (x ∷ xs) ys (z ∷ zs) ws e h =
    let t : (xs ≡ zs) × (ys ≡ ws) = same_front xs ys zs ws (tails_same e) (omega (arith, h)) in
    (ap (λ v. v ∷ xs) (heads_same e) ∙ ap (λ v. z ∷ v) t.0, t.1)

pub longer_front : {A : Type 0} (xs : List A) (y : A) (ys zs ws : List A) → xs ++ y ∷ ys ≡ zs ++ ws → length xs < length zs → (mid : List A) × (zs ≡ xs ++ y ∷ mid)
longer_front [] y ys [] ws e h = absurd (omega (arith, h))
longer_front [] y ys (z ∷ zs) ws e h = (zs, ap (λ v. v ∷ zs) (sym (heads_same e)))
longer_front (x ∷ xs) y ys [] ws e h = absurd (omega (arith, h))
longer_front (x ∷ xs) y ys (z ∷ zs) ws e h =
    let t : (mid : List _) × (zs ≡ xs ++ y ∷ mid) = longer_front xs y ys zs ws (tails_same e) (omega (arith, h)) in
    (t.0, ap (λ v. v ∷ zs) (sym (heads_same e)) ∙ ap (λ v. x ∷ v) t.1)

pub not_nothing : {A : Type 0} (xs : List A) (y : A) (ys : List A) → [] ≡ xs ++ y ∷ ys → ⊥
not_nothing xs y ys e = omega (arith, ap length e, length-append xs (y ∷ ys))

pub before_end : {A : Type 0} (xs : List A) (y : A) (ys zs : List A) → xs ++ y ∷ ys ≡ zs ++ [] → length xs < length zs
before_end xs y ys zs e = omega (arith, ap length e, length-append xs (y ∷ ys), length-append zs [])

-- ---- what is read

pub read_same : {A : Type 0} (f : Sexp → Option A) (xs : List Sexp) (us vs : List A) → AreRead f xs us → AreRead f xs vs → us ≡ vs
read_same f [] [] [] h k = refl
read_same f [] (u ∷ us) vs h k = absurd h
read_same f [] [] (v ∷ vs) h k = absurd k
read_same f (x ∷ xs) [] vs h k = absurd h
read_same f (x ∷ xs) (u ∷ us) [] h k = absurd k
read_same f (x ∷ xs) (u ∷ us) (v ∷ vs) h k = ap (λ w. w ∷ us) (some_same (sym h.0 ∙ k.0)) ∙ ap (λ w. v ∷ w) (read_same f xs us vs h.1 k.1)

pub record ReadAt {A : Type 0} (f : Sexp → Option A) (xs : List Sexp) (y : Sexp) (all : List A) : Type 0 where
  pub front : List A
  pub this : A
  pub back : List A
  pub split : all ≡ front ++ this ∷ back
  pub front_read : AreRead f xs front
  pub this_read : f y ≡ Some this

pub read_at : {A : Type 0} (f : Sexp → Option A) (xs : List Sexp) (y : Sexp) (ys : List Sexp) (all : List A) → AreRead f (xs ++ y ∷ ys) all → ReadAt f xs y all
read_at f [] y ys [] h = absurd h
read_at f [] y ys (a ∷ all) h = record { front = []; this = a; back = all; split = refl; front_read = tt; this_read = h.0 }
read_at f (x ∷ xs) y ys [] h = absurd h
read_at f (x ∷ xs) y ys (a ∷ all) h =
    let r : ReadAt f xs y all = read_at f xs y ys all h.1 in
    record { front = a ∷ r.front; this = r.this; back = r.back; split = ap (λ v. a ∷ v) r.split; front_read = (h.0, r.front_read); this_read = r.this_read }

-- ---- clauses with the same literals

pub record SameLiterals (ls ms : List Literal) : Type 0 where
  pub there : (l : Literal) → Contains ls l → Contains ms l
  pub back : (l : Literal) → Contains ms l → Contains ls l

pub same_literals : {ls ms : List Literal} → ls ≡ ms → SameLiterals ls ms
same_literals e = record { there = λ l h. subst (λ v. Contains v l) e h; back = λ l h. subst (λ v. Contains v l) (sym e) h }

pub turned_literals : {ls ms : List Literal} → SameLiterals ls ms → SameLiterals ms ls
turned_literals s = record { there = s.back; back = s.there }

nothing_in : {A : Type 0} (x : A) → Contains [] x → ⊥
nothing_in x h = omega (arith, h.1)

-- a clause with the literals of the empty one is empty
pub empty_same : (ls : List Literal) → SameLiterals ls [] → ls ≡ []
empty_same [] s = refl
empty_same (l ∷ ls) s = absurd (nothing_in l (s.there l (0, omega arith, refl)))

-- one clause for the other
abbrev pub AreAlike : List (List Literal) → List (List Literal) → Type 0
AreAlike [] [] = Unit {0}
AreAlike (c ∷ cs) (d ∷ ds) = SameLiterals c d × AreAlike cs ds
AreAlike _ _ = ⊥

pub turned : (cs ds : List (List Literal)) → AreAlike cs ds → AreAlike ds cs
turned [] [] h = tt
turned [] (d ∷ ds) h = absurd h
turned (c ∷ cs) [] h = absurd h
turned (c ∷ cs) (d ∷ ds) h = (turned_literals h.0, turned cs ds h.1)

pub alike_push : (cs ds : List (List Literal)) (c d : List Literal) → AreAlike cs ds → SameLiterals c d → AreAlike (cs ++ c ∷ []) (ds ++ d ∷ [])
alike_push [] [] c d h s = (s, tt)
alike_push [] (e ∷ ds) c d h s = absurd h
alike_push (b ∷ cs) [] c d h s = absurd h
alike_push (b ∷ cs) (e ∷ ds) c d h s = (h.0, alike_push cs ds c d h.1 s)

pub as_long : (cs ds : List (List Literal)) → AreAlike cs ds → length cs ≡ length ds
as_long [] [] h = refl
as_long [] (d ∷ ds) h = absurd h
as_long (c ∷ cs) [] h = absurd h
as_long (c ∷ cs) (d ∷ ds) h = ap suc (as_long cs ds h.1)

pub alike_at : (cs ds : List (List Literal)) (n : ℕ) → AreAlike cs ds → SameLiterals (clause_at cs n) (clause_at ds n)
alike_at [] [] n h = same_literals refl
alike_at [] (d ∷ ds) n h = absurd h
alike_at (c ∷ cs) [] n h = absurd h
alike_at (c ∷ cs) (d ∷ ds) zero h = h.0
alike_at (c ∷ cs) (d ∷ ds) (suc n) h = alike_at cs ds n h.1

-- where the last is empty, the other's last is
pub alike_end : (cs front : List (List Literal)) → AreAlike cs (front ++ [] ∷ []) → (before : List (List Literal)) × (cs ≡ before ++ [] ∷ [])
alike_end [] [] h = absurd h
alike_end [] (f ∷ front) h = absurd h
alike_end (c ∷ []) [] h = ([], ap (λ v. v ∷ []) (empty_same c h.0))
alike_end (c ∷ d ∷ cs) [] h = absurd h.1
alike_end (c ∷ cs) (f ∷ front) h =
    let r : (before : List (List Literal)) × (cs ≡ before ++ [] ∷ []) = alike_end cs front h.1 in
    (c ∷ r.0, ap (λ v. c ∷ v) r.1)
