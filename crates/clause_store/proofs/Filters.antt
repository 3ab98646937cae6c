-- Elements of a list, and of a filtered one.
use Rattle.std.proofs.Common.{◌≡◌, Bool, true, false, cond, List, [], ◌∷◌, Contains, filter, nat_le, ℕ, refl, subst, ap, ◌∙◌, inl, inr, ◌⊎◌, arith}
use Rattle.std.proofs.lemmas.List.Elements.{Contains-push, Contains-push_cases, Contains-append_right, Contains-append_left, Contains-append_cases}
use Rattle.literals.specs.Signed.{Signed}
use Rattle.clause_store.specs.Trail.{Assigns, up_to, literals}
use Rattle.clause_store.specs.declared.trail.Step.{Step}

pub none_in : {X : Type 0} (x : X) → Contains [] x → ⊥
none_in x (k, lt, is) = absurd (omega (arith, lt))

pub in_head : {X : Type 0} (x : X) (xs : List X) → Contains (x ∷ xs) x
in_head x xs = Contains-append_left (x ∷ []) xs x (Contains-push [] x)

pub in_tail : {X : Type 0} (x y : X) (xs : List X) → Contains xs y → Contains (x ∷ xs) y
in_tail x y xs c = Contains-append_right (x ∷ []) xs y c

pub in_cases : {X : Type 0} (x y : X) (xs : List X) → Contains (x ∷ xs) y → (x ≡ y) ⊎ Contains xs y
in_cases x y xs c = elim (Contains-append_cases (x ∷ []) xs y c) [
  | inl here ↦ elim (Contains-push_cases [] x y here) [ inl none ↦ absurd (none_in y none) | inr e ↦ inl e ]
  | inr later ↦ inr later
]

pub one_in : {X : Type 0} (x y : X) → Contains (x ∷ []) y → x ≡ y
one_in x y h = elim (in_cases x y [] h) [ inl e ↦ e | inr none ↦ absurd (none_in y none) ]

-- ---- filtered lists

pub kept_by : {X : Type 0} (p : X → Bool) (xs : List X) (s : X) → Contains xs s → p s ≡ true → Contains (filter p xs) s
kept_by p [] s c on = absurd (none_in s c)
kept_by p (t ∷ ts) s c on = elim (in_cases t s ts c) [
  | inl e ↦ let now : p t ≡ true = ap p e ∙ on in rw now (subst (Contains (t ∷ filter p ts)) e (in_head t (filter p ts)))
  | inr rest ↦ by_cond (p t) (kept_by p ts s rest on)
]
  where
    by_cond : (b : Bool) → Contains (filter p ts) s → Contains (cond b (t ∷ filter p ts) (filter p ts)) s
    by_cond true h = in_tail t s (filter p ts) h
    by_cond false h = h

-- a step of a lower depth is a step
by_test : (d : ℕ) (s : Step) (steps : List Step) (l : Signed) (b : Bool) → nat_le s.depth d ≡ b → (Assigns (up_to d steps) l → Assigns steps l) → Assigns (up_to d (s ∷ steps)) l → Assigns (s ∷ steps) l
by_test d s steps l true e rest h =
    let h' : Contains (s.literal ∷ literals (up_to d steps)) l = rw e at h in
    elim (in_cases s.literal l (literals (up_to d steps)) h') [
      | inl here ↦ subst (Contains (s.literal ∷ literals steps)) here (in_head s.literal (literals steps))
      | inr later ↦ in_tail s.literal l (literals steps) (rest later)
    ]
by_test d s steps l false e rest h = in_tail s.literal l (literals steps) (rest (rw e at h))

pub up_to-assigns : (d : ℕ) (steps : List Step) (l : Signed) → Assigns (up_to d steps) l → Assigns steps l
up_to-assigns d [] l h = h
up_to-assigns d (s ∷ steps) l h = by_test d s steps l (nat_le s.depth d) refl (up_to-assigns d steps l) h
