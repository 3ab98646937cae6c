-- What one call after another comes to, of what a source or a sink tells.
use Rattle.std.proofs.Common.{◌≡◌, ◌∙◌, ℕ, ◌+◌, ◌≤◌, List, [], ◌++◌, append_assoc, append-nil, arith, refl, sym, ap, subst, Option, Some, None}
use Rattle.std.specs.Io.KnownBytes.{Appends, Consumes, Keeps}
use Rattle.ports.specs.Flow.{Rose, RoseBy, raised_by}

-- ---- bytes

pub Consumes-twice : (a b c : Option (List ℕ)) (xs ys : List ℕ) → Consumes a b xs → Consumes b c ys → Consumes a c (xs ++ ys)
Consumes-twice None b c xs ys p q = tt
Consumes-twice (Some a) None c xs ys p q = absurd p
Consumes-twice (Some a) (Some b) None xs ys p q = absurd q
Consumes-twice (Some a) (Some b) (Some c) xs ys p q = rw (p, q, append_assoc) refl

pub Consumes-Keeps : (a b c : Option (List ℕ)) (xs : List ℕ) → Consumes a b xs → Keeps b c → Consumes a c xs
Consumes-Keeps None b c xs p q = tt
Consumes-Keeps (Some a) None c xs p q = absurd p
Consumes-Keeps (Some a) (Some b) None xs p q = absurd q
Consumes-Keeps (Some a) (Some b) (Some c) xs p q = rw q p

pub Consumes-none : (a b : Option (List ℕ)) → Consumes a b [] → Keeps a b
Consumes-none None b p = tt
Consumes-none (Some a) None p = absurd p
Consumes-none (Some a) (Some b) p = sym p

pub Consumes-still : (a : Option (List ℕ)) → Consumes a a []
Consumes-still None = tt
Consumes-still (Some a) = refl

pub Appends-twice : (before old new : Option (List ℕ)) (xs ys : List ℕ) → Appends before old xs → Appends old new ys → Appends before new (xs ++ ys)
Appends-twice None old new xs ys p q = tt
Appends-twice (Some b) None new xs ys p q = absurd p
Appends-twice (Some b) (Some o) None xs ys p q = absurd q
Appends-twice (Some b) (Some o) (Some n) xs ys p q = rw (q, p, append_assoc) refl

pub Appends-none : (a : Option (List ℕ)) → Appends a a []
Appends-none None = tt
Appends-none (Some a) = sym (append-nil a)

-- ---- counts

raised-twice : (j k a : ℕ) → raised_by k (raised_by j a) ≡ raised_by (j + k) a
raised-twice j k a = omega arith

-- a count that rose twice rose by both
pub RoseBy-twice : (j k : ℕ) (a b c : Option ℕ) → RoseBy j a b → RoseBy k b c → RoseBy (j + k) a c
RoseBy-twice j k None b c p q = tt
RoseBy-twice j k (Some a) b c p q = let q' : RoseBy k (Some (raised_by j a)) c = subst (λ x. RoseBy k x c) p q in q' ∙ ap Some (raised-twice j k a)

raised-none : (a : ℕ) → a ≡ raised_by 0 a
raised-none a = omega arith

-- a count that stays rose by none
pub RoseBy-none : (a : Option ℕ) → RoseBy 0 a a
RoseBy-none None = tt
RoseBy-none (Some a) = ap Some (raised-none a)

pub Rose-later : (a b c : ℕ) → a ≤ b → Rose b c → Rose a c
Rose-later a b c l r = omega (arith, r)
