-- How long a list of turns can be in which no variable comes back without a greater one.
use Rattle.std.proofs.Common.{◌≡◌, ◌≢◌, ℕ, ℤ, zero, suc, ◌+◌, ◌*◌, ◌^◌, ◌<◌, ◌⊎◌, inl, inr, sym, ap, ◌∙◌, subst, refl, arith, List, [], ◌∷◌, ◌++◌, length, append_assoc, Bool, true, false, eqb, eqb-true, eq-eqb}

-- a variable that leaves the basis, the number that it gets, and the variable that enters
pub record Turn : Type 0 where
  pub leaves : ℕ
  pub number : ℤ
  pub enters : ℕ

-- the turns are of variables below n
abbrev pub AreBelow : ℕ → List Turn → Type 0
AreBelow n [] = Unit {0}
AreBelow n (t ∷ ts) = (t.leaves < n) × (t.enters < n) × AreBelow n ts

abbrev pub Names : ℕ → Turn → Type 0
Names r t = (t.leaves ≡ r) ⊎ (t.enters ≡ r)

-- no turn is of the variable
abbrev pub AreWithout : ℕ → List Turn → Type 0
AreWithout r [] = Unit {0}
AreWithout r (t ∷ ts) = (t.leaves ≢ r) × (t.enters ≢ r) × AreWithout r ts

-- of two turns of r with none of r between them, the first enters r and the other leaves it, where r is the greatest variable of all these
pub record Alternates (ts : List Turn) : Type 0 where
  pub between : (xs ys zs : List Turn) (a b : Turn) (r : ℕ) → ts ≡ xs ++ a ∷ (ys ++ b ∷ zs) → AreWithout r ys → AreBelow (r + 1) (a ∷ (ys ++ b ∷ [])) → Names r a → Names r b → (a.enters ≡ r) × (b.leaves ≡ r)

below_append : (n : ℕ) (xs ys : List Turn) → AreBelow n (xs ++ ys) → AreBelow n xs × AreBelow n ys
below_append n [] ys h = (tt, h)
below_append n (x ∷ xs) ys h = let ih = below_append n xs ys h.2 in ((h.0, h.1, ih.0), ih.1)

append_below : (n : ℕ) (xs ys : List Turn) → AreBelow n xs → AreBelow n ys → AreBelow n (xs ++ ys)
append_below n [] ys p q = q
append_below n (x ∷ xs) ys p q = (p.0, p.1, append_below n xs ys p.2 q)

-- a part alternates too
suffix : (xs ts : List Turn) → Alternates (xs ++ ts) → Alternates ts
suffix xs ts h = record { between = λ ws ys zs a b r e. h.between (xs ++ ws) ys zs a b r (ap (λ l. xs ++ l) e ∙ sym (append_assoc xs ws (a ∷ (ys ++ b ∷ zs)))) }

prefix : (ts zs : List Turn) → Alternates (ts ++ zs) → Alternates ts
prefix ts us h =
    record {
      between = λ xs ys zs a b r e.
          h.between xs ys (zs ++ us) a b r
          (ap (λ l. l ++ us) e ∙ append_assoc xs (a ∷ (ys ++ b ∷ zs)) us ∙ ap (λ l. xs ++ a ∷ l) (append_assoc ys (b ∷ zs) us));
    }

-- the first turn of m, if there is one
abbrev Split : ℕ → List Turn → Type 0
Split m ts = (xs : List Turn) × (a : Turn) × (zs : List Turn) × (ts ≡ xs ++ a ∷ zs) × AreWithout m xs × Names m a

names_or_not : (m : ℕ) (t : Turn) → Names m t ⊎ ((t.leaves ≢ m) × (t.enters ≢ m))
names_or_not m t = by_first (eqb t.leaves m) refl (eqb t.enters m) refl
  where
    differs : (i j : ℕ) → eqb i j ≡ false → i ≢ j
    differs i j e w = let z : true ≡ false = sym (eq-eqb i j w) ∙ e in absurd (cc)

    by_first : (z : Bool) → eqb t.leaves m ≡ z → (w : Bool) → eqb t.enters m ≡ w → Names m t ⊎ ((t.leaves ≢ m) × (t.enters ≢ m))
    by_first true e w f = inl (inl (eqb-true t.leaves m e))
    by_first false e true f = inl (inr (eqb-true t.enters m f))
    by_first false e false f = inr (differs t.leaves m e, differs t.enters m f)

split : (m : ℕ) (ts : List Turn) → Split m ts ⊎ AreWithout m ts
split m [] = inr tt
split m (t ∷ ts) = by_head (names_or_not m t) (split m ts)
  where
    by_head : Names m t ⊎ ((t.leaves ≢ m) × (t.enters ≢ m)) → Split m ts ⊎ AreWithout m ts → Split m (t ∷ ts) ⊎ AreWithout m (t ∷ ts)
    by_head (inl h) r = inl ([], t, ts, refl, tt, h)
    by_head (inr h) (inl s) = inl (t ∷ s.0, s.1, s.2, ap (λ l. t ∷ l) s.3, (h.0, h.1, s.4), s.5)
    by_head (inr h) (inr w) = inr (h.0, h.1, w)

lower : (m : ℕ) (ts : List Turn) → AreBelow (m + 1) ts → AreWithout m ts → AreBelow m ts
lower m [] b w = tt
lower m (t ∷ ts) b w = (let p = b.0 in let q = w.0 in omega (arith, p, q), let p = b.1 in let q = w.1 in omega (arith, p, q), lower m ts b.2 w.2)

-- at the end of the first two, no third turn of m
not_three : (m : ℕ) (ys zs us : List Turn) (a b c : Turn) → Alternates (a ∷ (ys ++ b ∷ (zs ++ c ∷ us))) → AreBelow (m + 1) (a ∷ (ys ++ b ∷ (zs ++ c ∷ us))) → AreWithout m ys → AreWithout m zs
    → Names m a → Names m b → Names m c → ((b.leaves ≡ m) × (b.enters ≡ m) → ⊥) → ⊥
not_three m ys zs us a b c alt below wy wz na nb nc apart =
    let first = alt.between [] ys (zs ++ c ∷ us) a b m refl wy (head_below ys b (zs ++ c ∷ us) below) na nb in
    let rest : AreBelow (m + 1) (b ∷ (zs ++ c ∷ us)) = (below_append (m + 1) ys (b ∷ (zs ++ c ∷ us)) below.2).1 in
    let second = (suffix (a ∷ ys) (b ∷ (zs ++ c ∷ us)) alt).between [] zs us b c m refl wz (rest.0, rest.1, tail_below zs c us rest.2) nb nc in
    apart (first.1, second.0)
  where
    tail_below : (ps : List Turn) (x : Turn) (qs : List Turn) → AreBelow (m + 1) (ps ++ x ∷ qs) → AreBelow (m + 1) (ps ++ x ∷ [])
    tail_below ps x qs h = let both = below_append (m + 1) ps (x ∷ qs) h in append_below (m + 1) ps (x ∷ []) both.0 (both.1.0, both.1.1, tt)

    head_below : (ps : List Turn) (x : Turn) (qs : List Turn) → AreBelow (m + 1) (a ∷ (ps ++ x ∷ qs)) → AreBelow (m + 1) (a ∷ (ps ++ x ∷ []))
    head_below ps x qs h = (h.0, h.1, tail_below ps x qs h.2)

-- in no turn does the variable that leaves enter
abbrev pub AreApart : List Turn → Type 0
AreApart [] = Unit {0}
AreApart (t ∷ ts) = (t.leaves ≢ t.enters) × AreApart ts

apart_append : (xs ys : List Turn) → AreApart (xs ++ ys) → AreApart xs × AreApart ys
apart_append [] ys h = (tt, h)
apart_append (x ∷ xs) ys h = let ih = apart_append xs ys h.1 in ((h.0, ih.0), ih.1)

length_parts : (xs ys : List Turn) → length (xs ++ ys) ≡ length xs + length ys
length_parts [] ys = omega arith
length_parts (x ∷ xs) ys = let ih = length_parts xs ys in omega (arith, ih)

-- what a list of turns of variables below m + 1 has at most, where those of variables below m have fewer than p
step : (m p : ℕ) → ((us : List Turn) → AreBelow m us → Alternates us → AreApart us → length us < p) → (ts : List Turn) → AreBelow (m + 1) ts → Alternates ts → AreApart ts → length ts < 3 * p
step m p few ts below alt apart = by_first (split m ts)
  where
    short : (us : List Turn) → AreBelow (m + 1) us → AreWithout m us → Alternates us → AreApart us → length us < p
    short us b w a q = few us (lower m us b w) a q

    by_second : (xs : List Turn) (a : Turn) (zs : List Turn) → AreBelow (m + 1) (xs ++ a ∷ zs) → Alternates (xs ++ a ∷ zs) → AreApart (xs ++ a ∷ zs) → AreWithout m xs → Names m a
        → Split m zs ⊎ AreWithout m zs → length (xs ++ a ∷ zs) < 3 * p
    by_second xs a zs b l q wx na (inr wz) =
        let bs = below_append (m + 1) xs (a ∷ zs) b in
        let qs = apart_append xs (a ∷ zs) q in
        let one = short xs bs.0 wx (prefix xs (a ∷ zs) l) qs.0 in
        let two = short zs bs.1.2 wz (suffix (a ∷ []) zs (suffix xs (a ∷ zs) l)) qs.1.1 in
        let long = length_parts xs (a ∷ zs) in
        omega (arith, one, two, long)
    by_second xs a zs b l q wx na (inl s) = by_third (split m s.2)
      where
        ys : List Turn
        ys = s.0

        c : Turn
        c = s.1

        us : List Turn
        us = s.2

        b' : AreBelow (m + 1) (a ∷ (ys ++ c ∷ us))
        b' = let bs = (below_append (m + 1) xs (a ∷ zs) b).1 in (bs.0, bs.1, subst (AreBelow (m + 1)) s.3 bs.2)

        l' : Alternates (a ∷ (ys ++ c ∷ us))
        l' = subst (λ w. Alternates (a ∷ w)) s.3 (suffix xs (a ∷ zs) l)

        q' : AreApart (a ∷ (ys ++ c ∷ us))
        q' = let qs = (apart_append xs (a ∷ zs) q).1 in (qs.0, subst AreApart s.3 qs.1)

        by_third : Split m us ⊎ AreWithout m us → length (xs ++ a ∷ zs) < 3 * p
        by_third (inl r) =
            absurd
            (not_three m ys r.0 r.2 a c r.1 (subst (λ w. Alternates (a ∷ (ys ++ c ∷ w))) r.3 l') (subst (λ w. AreBelow (m + 1) (a ∷ (ys ++ c ∷ w))) r.3 b') s.4 r.4 na s.5 r.5
            (λ h. (apart_append ys (c ∷ us) q'.1).1.0 (h.0 ∙ sym h.1)))
        by_third (inr wu) =
            let bs = below_append (m + 1) ys (c ∷ us) b'.2 in
            let qs = apart_append ys (c ∷ us) q'.1 in
            let one = short xs (below_append (m + 1) xs (a ∷ zs) b).0 wx (prefix xs (a ∷ zs) l) (apart_append xs (a ∷ zs) q).0 in
            let two = short ys bs.0 s.4 (prefix ys (c ∷ us) (suffix (a ∷ []) (ys ++ c ∷ us) l')) qs.0 in
            let three = short us bs.1.2 wu (suffix (c ∷ []) us (suffix ys (c ∷ us) (suffix (a ∷ []) (ys ++ c ∷ us) l'))) qs.1.1 in
            let long = length_parts xs (a ∷ zs) ∙ ap (λ w. length xs + length (a ∷ w)) s.3 in
            let more = length_parts ys (c ∷ us) in
            omega (arith, one, two, three, long, more)

    by_first : Split m ts ⊎ AreWithout m ts → length ts < 3 * p
    by_first (inr w) = let h = short ts below w alt apart in omega (arith, h)
    by_first (inl s) =
        subst (λ w. length w < 3 * p) (sym s.3) (by_second s.0 s.1 s.2 (subst (AreBelow (m + 1)) s.3 below) (subst Alternates s.3 alt) (subst AreApart s.3 apart) s.4 s.5 (split m s.2))

-- turns of variables below n are fewer than 3^n
pub few_turns : (n : ℕ) (ts : List Turn) → AreBelow n ts → Alternates ts → AreApart ts → length ts < 3 ^ n
few_turns zero [] below alt apart = omega arith
few_turns zero (t ∷ ts) below alt apart = absurd (let h = below.0 in omega (arith, h))
few_turns (suc m) ts below alt apart =
    let all : AreBelow (m + 1) ts = subst (λ k. AreBelow k ts) (let e : suc m ≡ m + 1 = omega arith in e) below in
    let power : 3 * 3 ^ m ≡ 3 ^ suc m = omega arith in
    subst (λ k. length ts < k) power (step m (3 ^ m) (λ us b a p. few_turns m us b a p) ts all alt apart)
