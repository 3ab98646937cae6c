-- A clause whose literals are false but one, which isn't true, where the kept clauses are quiet.
use Rattle.std.proofs.Common.{◌≡◌, ◌≢◌, ℕ, ◌<◌, List, [], ◌∷◌, ◌++◌, map, All, Contains, subst, sym, ap, refl, inl, inr, ◌⊎◌, arith}
use Rattle.std.proofs.lemmas.List.Elements.{All-contains, All-map, Contains-append_left, Contains-append_right, Contains-append_cases}
use Rattle.literals.specs.Signed.{Signed, opposite}
use Rattle.clause_store.specs.declared.trail.Step.{Step}
use Rattle.clause_store.specs.Trail.{Assigns, up_to}
use Rattle.clause_store.specs.Stored.{Kept, Stored, IsFalseOn, IsQuiet}
use Rattle.clause_store.proofs.Filters.{in_head, in_tail, in_cases}
use Rattle.smt_meaning.specs.Forced.{Forces}
use Rattle.conflict_learn.specs.Learning.{HaveOwnAtoms}
use Rattle.conflict_learn.proofs.NotForced.{IsConsistent, all_of, reached_on}
use Rattle.conflict_learn.proofs.Concluding.{decidable}
use Rattle.cdcl_core.specs.Search.{IsNarrow, IsSearched, literal_lists}
use Rattle.cdcl_core.proofs.Spans.{apart-up-to}

-- where a literal stands
record Standing (ls : List Signed) (l : Signed) : Type 0 where
  before : List Signed
  after : List Signed
  is : ls ≡ before ++ l ∷ after

standing : (ls : List Signed) (l : Signed) → Contains ls l → Standing ls l
standing [] l c = absurd (omega (arith, c.1))
standing (x ∷ xs) l c = elim (in_cases x l xs c) [
  | inl e ↦ record { before = []; after = xs; is = ap (λ y. y ∷ xs) e }
  | inr later ↦ let s = standing xs l later in record { before = x ∷ s.before; after = s.after; is = ap (λ ys. x ∷ ys) s.is }
]

-- it stands nowhere else
once : (before after : List Signed) (l : Signed) → HaveOwnAtoms (before ++ l ∷ after) → Contains (before ++ after) l → ⊥
once [] after l own c = All-contains (λ (m : Signed). m.atom ≢ l.atom) after l own.0 c refl
once (x ∷ before) after l own c = elim (in_cases x l (before ++ after) c) [
  | inl e ↦ All-contains (λ (m : Signed). m.atom ≢ x.atom) (before ++ l ∷ after) l own.0 (Contains-append_right before (l ∷ after) l (in_head l after)) (sym (ap (λ (m : Signed). m.atom) e))
  | inr later ↦ once before after l own.1 later
]

within : (before after : List Signed) (l m : Signed) → Contains (before ++ after) m → Contains (before ++ l ∷ after) m
within before after l m c = elim (Contains-append_cases before after m c) [
  | inl b ↦ Contains-append_left before (l ∷ after) m b
  | inr a ↦ Contains-append_right before (l ∷ after) m (in_tail l m after a)
]

-- the others are false
rest-false : (steps : List Step) (ls before after : List Signed) (l : Signed) → HaveOwnAtoms ls → ls ≡ before ++ l ∷ after → All (λ m. (m ≡ l) ⊎ IsFalseOn steps m) ls → (m : Signed) → Contains (before ++ after) m → IsFalseOn steps m
rest-false steps ls before after l own is others m c =
    elim (All-contains (λ y. (y ≡ l) ⊎ IsFalseOn steps y) ls m others (subst (λ xs. Contains xs m) (sym is) (within before after l m c))) [
      | inl same ↦ absurd (once before after l (subst HaveOwnAtoms is own) (subst (λ y. Contains (before ++ after) y) same c))
      | inr f ↦ f
    ]

-- propagation from quiet clauses doesn't give it
unforced-on : (steps : List Step) (known : List (List Signed)) (ls : List Signed) → IsConsistent steps → All (IsQuiet steps) known → HaveOwnAtoms ls → IsNarrow steps ls → Forces opposite known ls → ⊥
unforced-on steps known ls con quiet own h forces =
    let s : Standing ls h.literal = standing ls h.literal h.stands in
    let rest : (m : Signed) → Contains (s.before ++ s.after) m → IsFalseOn steps m = rest-false steps ls s.before s.after h.literal own s.is h.others in
    let given : All (Assigns steps) (map opposite (s.before ++ s.after)) = All-map (Assigns steps) opposite (s.before ++ s.after) (all_of (λ x. Assigns steps (opposite x)) (s.before ++ s.after) rest) in
    let on : (m : Signed) → Contains (map opposite (s.before ++ s.after)) m → Assigns steps m = λ m c. All-contains (Assigns steps) (map opposite (s.before ++ s.after)) m given c in
    let all : (c : List Signed) → Contains known c → IsQuiet steps c = λ c k. All-contains (IsQuiet steps) known c quiet k in
    elim (forces s.before s.after h.literal s.is) [
      | inl r ↦ h.untrue (reached_on steps known (map opposite (s.before ++ s.after)) con (decidable steps) all on h.literal r)
      | inr k ↦ (all k.clause k.kept).not_false (all_of (IsFalseOn steps) k.clause (λ m c. reached_on steps known (map opposite (s.before ++ s.after)) con (decidable steps) all on (opposite m) (k.all_false m c)))
    ]

pub unforced-narrow : (s : Stored) (d : ℕ) (ls : List Signed) → ((l : Signed) → Assigns s.trail.steps l → Assigns s.trail.steps (opposite l) → ⊥) → IsSearched s → d < s.trail.depth → HaveOwnAtoms ls → IsNarrow (up_to d s.trail.steps) ls
    → Forces opposite (literal_lists s.clauses) ls → ⊥
unforced-narrow s d ls apart h lt own narrow =
    unforced-on (up_to d s.trail.steps) (literal_lists s.clauses) ls (apart-up-to s.trail.steps d apart)
    (All-map (IsQuiet (up_to d s.trail.steps)) (λ (x : Kept). x.literals) s.clauses (h.quiet d lt)) own narrow
