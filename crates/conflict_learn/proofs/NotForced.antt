-- A clause with one literal open on a trail, and the rest false, isn't forced by clauses that are quiet on that trail.
use Rattle.std.proofs.Common.{◌≡◌, List, [], ◌∷◌, ◌++◌, map, All, Contains, get_or, subst, sym, refl, inl, inr, ◌⊎◌, arith}
use Rattle.std.proofs.lemmas.List.Elements.{Contains-append_left, Contains-append_right, Contains-append_cases, All-map, All-contains, Contains-get_or, Contains-push, Contains-push_cases}
use Rattle.literals.specs.Signed.{Signed, opposite}
use Rattle.clause_store.specs.declared.trail.Step.{Step}
use Rattle.clause_store.specs.Trail.{Assigns, IsOpen}
use Rattle.clause_store.specs.Stored.{IsFalseOn, IsUnit, IsQuiet}
use Rattle.smt_meaning.specs.Forced.{Reaches, Forces}
use Rattle.smt_meaning.specs.Forced.Reaches.{start, unit}

-- no atom has both signs
abbrev pub IsConsistent : List Step → Type 0
IsConsistent steps = (l : Signed) → Assigns steps l → Assigns steps (opposite l) → ⊥

-- each literal is true, false or open
abbrev pub IsDecidable : List Step → Type 0
IsDecidable steps = (l : Signed) → Assigns steps l ⊎ (Assigns steps (opposite l) ⊎ IsOpen steps l)

abbrev pub AllQuiet : List Step → List (List Signed) → Type 0
AllQuiet steps clauses = (c : List Signed) → Contains clauses c → IsQuiet steps c

-- All from what holds of each element
pub all_of : {X : Type 0} (P : X → Type 0) (xs : List X) → ((x : X) → Contains xs x → P x) → All P xs
all_of P xs h k d lt = h (get_or xs k d) (Contains-get_or xs k d lt)

one_of : {X : Type 0} (l m : X) → Contains (l ∷ []) m → l ≡ m
one_of l m h = elim (Contains-push_cases [] l m h) [ inl none ↦ absurd (omega (arith, none.1)) | inr e ↦ e ]

unit_at : (steps : List Step) (before after : List Signed) (l : Signed) → ((m : Signed) → Contains (before ++ after) m → IsFalseOn steps m) → IsUnit steps (before ++ l ∷ after) l
unit_at steps before after l h = (
  Contains-append_right before (l ∷ after) l (Contains-append_left (l ∷ []) after l (Contains-push [] l)),
  all_of (λ m. (m ≡ l) ⊎ IsFalseOn steps m) (before ++ l ∷ after) (λ m c. elim (Contains-append_cases before (l ∷ after) m c) [
    | inl b ↦ inr (h m (Contains-append_left before after m b))
    | inr a ↦ elim (Contains-append_cases (l ∷ []) after m a) [
      | inl here ↦ inl (sym (one_of l m here))
      | inr later ↦ inr (h m (Contains-append_right before after m later))
    ]
  ]),
)

from_map : (steps : List Step) (ls : List Signed) (m : Signed) → ((x : Signed) → Contains ls x → IsFalseOn steps x) → Contains (map opposite ls) m → Assigns steps m
from_map steps ls m rest h =
    let all : All (Assigns steps) (map opposite ls) = All-map (Assigns steps) opposite ls (all_of (λ x. Assigns steps (opposite x)) ls rest) in
    All-contains (Assigns steps) (map opposite ls) m all h

-- what quiet clauses reach from literals of the trail is on the trail
pub reached_on : (steps : List Step) (clauses : List (List Signed)) (given : List Signed) → IsConsistent steps → IsDecidable steps → AllQuiet steps clauses
    → ((l : Signed) → Contains given l → Assigns steps l) → (l : Signed) → Reaches opposite clauses given l → Assigns steps l
reached_on steps clauses given con dec quiet on l (start c) = on l c
reached_on steps clauses given con dec quiet on l (unit before after c others) =
    let false_rest : (m : Signed) → Contains (before ++ after) m → IsFalseOn steps m = λ m h. reached_on steps clauses given con dec quiet on (opposite m) (others m h) in
    let u : IsUnit steps (before ++ l ∷ after) l = unit_at steps before after l false_rest in
    let q : IsQuiet steps (before ++ l ∷ after) = quiet (before ++ l ∷ after) c in
    elim (dec l) [
      | inl t ↦ t
      | inr r ↦ elim r [
        | inl f ↦ absurd (q.not_false (λ k d lt. elim (u.1 k d lt) [ inl e ↦ subst (IsFalseOn steps) (sym e) f | inr g ↦ g ]))
        | inr o ↦ absurd (q.not_unit l o u)
      ]
    ]

-- the lemma: one literal of the clause is open, the others are false on the trail
pub not_forced : (steps : List Step) (clauses : List (List Signed)) (before after : List Signed) (l : Signed) → IsConsistent steps → IsDecidable steps → AllQuiet steps clauses
    → IsOpen steps l → ((m : Signed) → Contains (before ++ after) m → IsFalseOn steps m) → Forces opposite clauses (before ++ l ∷ after) → ⊥
not_forced steps clauses before after l con dec quiet o rest forces =
    let on : (m : Signed) → Contains (map opposite (before ++ after)) m → Assigns steps m = λ m h. from_map steps (before ++ after) m rest h in
    elim (forces before after l refl) [
      | inl r ↦ o.0 (reached_on steps clauses (map opposite (before ++ after)) con dec quiet on l r)
      | inr k ↦ (quiet k.clause k.kept).not_false (all_of (IsFalseOn steps) k.clause (λ m h. reached_on steps clauses (map opposite (before ++ after)) con dec quiet on (opposite m) (k.all_false m h)))
    ]
