-- From which depth on a literal is on a trail.
use Rattle.std.proofs.Common.{◌≡◌, ℕ, ◌+◌, ◌<◌, ◌≤◌, nat_le, not, Bool, true, false, List, [], ◌∷◌, ◌++◌, filter, length, take, drop, get_or, Contains, All, None, refl, add-zero, subst, sym, ap, ◌∙◌, inl, inr, ◌⊎◌, arith}
use Rattle.std.proofs.lemmas.Bool.{le-leb, leb-true}
use Rattle.std.proofs.lemmas.Bool.Decides.{nat_tests}
use Rattle.std.proofs.lemmas.List.Filters.{length-filter_both}
use Rattle.std.specs.List.Sorted.{IsNonDecreasingBy}
use Rattle.std.proofs.lemmas.List.{append-nil, get_or-drop, length-drop, take-append-drop, get_or-map, length-map, get_or_default, get_or-take, length-take-le}
use Rattle.std.proofs.lemmas.List.Elements.{All-filter, All-head, All-tail, All-contains_itself, filter-append, filter_passes, Contains-get_or}
use Rattle.literals.specs.Signed.{Signed}
use Rattle.clause_store.specs.declared.trail.Step.{Step}
use Rattle.clause_store.specs.Each.{EachAfter}
use Rattle.clause_store.specs.TrailInvariant.{IsFresh}
use Rattle.clause_store.specs.Trail.{Assigns, up_to}
use Rattle.clause_store.specs.From.{IsFrom, AreLast}
use Rattle.clause_store.proofs.Filters.{kept_by}

-- in place of a step that isn't there
abbrev pub no_step : Step
no_step = record { literal = record { atom = 0; positive = true }; depth = 0; reason = None }

abbrev pub step_at : List Step → ℕ → Step
step_at steps k = get_or steps k no_step

-- a step's literal is on the trail
pub assigns_at : (steps : List Step) (k : ℕ) → k < length steps → Assigns steps (step_at steps k).literal
assigns_at steps k lt =
    (k, omega (arith, length-map steps (λ (s : Step). s.literal)), get_or-map (λ (s : Step). s.literal) steps k no_step (step_at steps k).literal lt)

-- and each literal on it is a step's
pub place_at : (steps : List Step) (l : Signed) → Assigns steps l → (k : ℕ) × (k < length steps) × ((step_at steps k).literal ≡ l)
place_at steps l (k, lt, is) =
    let near : k < length steps = omega (arith, length-map steps (λ (s : Step). s.literal)) in
    (k, near, sym (get_or-map (λ (s : Step). s.literal) steps k no_step l near) ∙ is)

-- a step below this place is on the trail before it
pub assigns_before : (steps : List Step) (j k : ℕ) → j < k → k < length steps → Assigns (take k steps) (step_at steps j).literal
assigns_before steps j k lt in' =
    subst (λ (s : Step). Assigns (take k steps) s.literal) (get_or-take k steps j no_step lt) (assigns_at (take k steps) j (omega (arith, length-take-le k steps (omega arith))))

before_apart : (steps : List Step) (j k : ℕ) → EachAfter IsFresh steps → j < k → k < length steps → (step_at steps j).literal ≡ (step_at steps k).literal → ⊥
before_apart steps j k fresh lt in' e =
    (fresh k no_step in').0 (subst (Assigns (take k steps)) e (assigns_before steps j k lt in'))

pub by_order : (j k : ℕ) → (j < k) ⊎ ((k < j) ⊎ (j ≡ k))
by_order j k = grind arith

-- a literal has one step
pub same_place : (steps : List Step) (j k : ℕ) → EachAfter IsFresh steps → j < length steps → k < length steps → (step_at steps j).literal ≡ (step_at steps k).literal → j ≡ k
same_place steps j k fresh lj lk e = elim (by_order j k) [
  | inl lt ↦ absurd (before_apart steps j k fresh lt lk e)
  | inr o ↦ elim o [ inl gt ↦ absurd (before_apart steps k j fresh gt lj (sym e)) | inr same ↦ same ]
]

pub record IsStepUpTo (steps : List Step) (d : ℕ) (l : Signed) : Type 0 where
  pub place : ℕ
  pub within : place < length steps
  pub literal : (step_at steps place).literal ≡ l
  pub shallow : (step_at steps place).depth ≤ d

record IsAmong (steps : List Step) (d : ℕ) (s : Step) : Type 0 where
  here : Contains steps s
  shallow : s.depth ≤ d

all_among : (steps : List Step) (d : ℕ) → All (IsAmong steps d) (up_to d steps)
all_among steps d =
    let in' : All (Contains steps) (up_to d steps) = All-filter (λ (s : Step). nat_le s.depth d) (Contains steps) steps (All-contains_itself steps) in
    let le : All (λ (s : Step). nat_le s.depth d ≡ true) (up_to d steps) = filter_passes (λ (s : Step). nat_le s.depth d) steps in
    λ k x lt. record { here = in' k x lt; shallow = leb-true _ d (le k x lt) }

-- what is on the trail up to a depth is a step of at most that depth
pub step_up_to : (steps : List Step) (d : ℕ) (l : Signed) → Assigns (up_to d steps) l → IsStepUpTo steps d l
step_up_to steps d l on =
    let p = place_at (up_to d steps) l on in
    let a : IsAmong steps d (step_at (up_to d steps) p.0) = all_among steps d p.0 no_step p.1 in
    let c = a.here in
    let same : step_at steps c.0 ≡ step_at (up_to d steps) p.0 = get_or_default steps c.0 no_step (step_at (up_to d steps) p.0) c.1 ∙ c.2 in
    record {
      place = c.0;
      within = c.1;
      literal = ap (λ (s : Step). s.literal) same ∙ p.2;
      shallow = subst (λ (s : Step). s.depth ≤ d) (sym same) a.shallow;
    }

literal_on : (steps : List Step) (s : Step) → Contains steps s → Assigns steps s.literal
literal_on steps s c = subst (λ (t : Step). Assigns steps t.literal) (get_or_default steps c.0 no_step s c.1 ∙ c.2) (assigns_at steps c.0 c.1)

-- and such a step is on it
pub on_up_to : (steps : List Step) (d : ℕ) (s : Step) → Contains steps s → s.depth ≤ d → Assigns (up_to d steps) s.literal
on_up_to steps d s c le =
    literal_on (up_to d steps) s (kept_by (λ (t : Step). nat_le t.depth d) steps s c (le-leb _ d le))

pub is-from : (steps : List Step) (k : ℕ) (l : Signed) → EachAfter IsFresh steps → k < length steps → (step_at steps k).literal ≡ l → IsFrom steps l (step_at steps k).depth
is-from steps k l fresh lt e = record {
  before = λ d deep on.
      let p = step_up_to steps d l on in
      let same : p.place ≡ k = same_place steps p.place k fresh p.within lt (p.literal ∙ sym e) in
      let le : (step_at steps k).depth ≤ d = subst (λ j. (step_at steps j).depth ≤ d) same p.shallow in
      absurd (omega arith);
  after = λ d le. subst (Assigns (up_to d steps)) e (on_up_to steps d (step_at steps k) (Contains-get_or steps k no_step lt) le);
}

-- ---- steps of lower depths

filter_few : {X : Type 0} (p : X → Bool) (xs : List X) → length (filter p xs) ≤ length xs
filter_few p xs = omega (arith, length-filter_both p (λ x. not (p x)) (λ x. refl) xs)

not_below : (a b : ℕ) → b < a → nat_le a b ≡ false
not_below a b h = grind (arith, nat_tests)

-- where the step at a place is of this depth, those of lower depths are before it
ordered : (steps : List Step) (start k depth : ℕ) → IsNonDecreasingBy (λ (s : Step). s.depth) steps → start ≤ k → k < length steps → (step_at steps start).depth ≡ depth → depth ≤ (step_at steps k).depth
ordered steps start k depth order le lt e = let o : (step_at steps start).depth ≤ (step_at steps k).depth = order start k no_step le lt in omega arith

up_to-before : (steps : List Step) (start depth d : ℕ) → d < depth → All (λ (s : Step). depth ≤ s.depth) (drop start steps) → up_to d steps ≡ up_to d (take start steps)
up_to-before steps start depth d lt h =
    ap (up_to d) (sym (take-append-drop start steps))
    ∙ (filter-append (λ (s : Step). nat_le s.depth d) (take start steps) (drop start steps)
    ∙ (ap (λ xs. up_to d (take start steps) ++ xs) (none (drop start steps) h) ∙ append-nil (up_to d (take start steps))))
  where
    none : (xs : List Step) → All (λ (s : Step). depth ≤ s.depth) xs → up_to d xs ≡ []
    none [] k = refl
    none (s ∷ xs) k =
        let here : depth ≤ s.depth = All-head (λ (s : Step). depth ≤ s.depth) s xs k in
        let deeper : nat_le s.depth d ≡ false = not_below s.depth d (omega arith) in
        rw deeper (none xs (All-tail (λ (s : Step). depth ≤ s.depth) s xs k))

pub last-from : (steps : List Step) (depth start : ℕ) → IsNonDecreasingBy (λ (s : Step). s.depth) steps → start < length steps → (step_at steps start).depth ≡ depth → AreLast steps depth start
last-from steps depth start order lt e = λ d below.
    let deep : All (λ (s : Step). depth ≤ s.depth) (drop start steps) = λ k x in'.
    let at : get_or (drop start steps) k x ≡ get_or steps (start + k) x = get_or-drop start steps k x in
    let within : start + k < length steps = omega (arith, length-drop start steps) in
    subst (λ (s : Step). depth ≤ s.depth) (get_or_default steps (start + k) no_step x within ∙ sym at) (ordered steps start (start + k) depth order (omega arith) within e) in
    let few : length (up_to d (take start steps)) ≤ length (take start steps) = filter_few (λ (s : Step). nat_le s.depth d) (take start steps) in
    omega (arith, ap (λ (xs : List Step). length xs) (up_to-before steps start depth d below deep), length-take-le start steps (omega arith))

pub last-none : (steps : List Step) (depth start : ℕ) → length steps ≤ start → AreLast steps depth start
last-none steps depth start le = λ d below.
    let few : length (up_to d steps) ≤ length steps = filter_few (λ (s : Step). nat_le s.depth d) steps in
    omega arith

pub not-last : (steps : List Step) (depth start : ℕ) → start < length steps → All (λ (s : Step). s.depth ≡ depth) (drop start steps) → (step_at steps start).depth ≡ depth
not-last steps depth start lt h =
    let at : get_or (drop start steps) 0 no_step ≡ step_at steps start = get_or-drop start steps 0 no_step ∙ ap (λ n. get_or steps n no_step) (add-zero start) in
    ap (λ (s : Step). s.depth) (sym at) ∙ h 0 no_step (omega (arith, length-drop start steps))
