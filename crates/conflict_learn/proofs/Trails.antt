-- Steps by their places: each literal has one, and a clause found by its id is the one that forced a step.
use Rattle.std.proofs.Common.{◌≡◌, ℕ, ◌<◌, ◌≤◌, List, length, take, get_or, All, Some, None, subst, sym, ap, ◌∙◌, inl, inr, ◌⊎◌, arith}
use Rattle.std.proofs.lemmas.List.{get_or-take, length-take-le}
use Rattle.std.proofs.lemmas.List.Elements.{All-weaker}
use Rattle.std.specs.List.Sorted.{IsNonDecreasingBy}
use Rattle.literals.specs.Signed.{Signed, opposite}
use Rattle.clause_store.specs.declared.trail.Step.{Step}
use Rattle.clause_store.specs.Each.{EachAfter}
use Rattle.clause_store.specs.TrailInvariant.{IsDecided}
use Rattle.clause_store.specs.Trail.{Assigns}
use Rattle.clause_store.specs.Stored.{Kept, IsForced, IsJustified, IsFalseOn, HaveOwnIds}
use Rattle.clause_store.specs.Found.{HasKept}
use Rattle.conflict_learn.specs.Analysing.{no_step, step_at, IsFalseBelow, FollowsAt}
use Rattle.clause_store.proofs.Froms.{place_at}

pub same_some : {X : Type 0} (x y : X) → Some x ≡ Some y → x ≡ y
same_some x y e = cc

at_take : (steps : List Step) (n k : ℕ) → k < n → step_at (take n steps) k ≡ step_at steps k
at_take steps n k lt = get_or-take n steps k no_step lt

-- the steps before a place are no deeper than the step there
pub shallower : (steps : List Step) (j k : ℕ) → IsNonDecreasingBy (λ (s : Step). s.depth) steps → j ≤ k → k < length steps → (step_at steps j).depth ≤ (step_at steps k).depth
shallower steps j k ordered le lt = ordered j k no_step le lt

-- a literal that is false before a place is false by a step below it
pub false_below : (steps : List Step) (k : ℕ) (m : Signed) → IsNonDecreasingBy (λ (s : Step). s.depth) steps → k < length steps → IsFalseOn (take k steps) m → IsFalseBelow steps k (step_at steps k).depth m
false_below steps k m ordered lt on =
    let p = place_at (take k steps) (opposite m) on in
    let near : p.0 < k = let le : p.0 < length (take k steps) = p.1 in omega (arith, length-take-le k steps (omega arith)) in
    record {
      place = p.0;
      within = near;
      literal = subst (λ (s : Step). s.literal ≡ opposite m) (at_take steps k p.0 near) p.2;
      shallow = shallower steps p.0 k ordered (omega arith) lt;
    }

-- ---- clauses by their ids

-- the clause kept under an id has what is said of that clause
pub by_id : (clauses : List Kept) (id : ℕ) (ls : List Signed) (P : List Signed → Type 0) → HaveOwnIds clauses → HasKept clauses id P → HasKept clauses id (λ ms. ls ≡ ms) → P ls
by_id clauses id ls P own f h =
    let same : f.0 ≡ h.0 = own f.0 h.0 f.1 h.1 (f.2 ∙ sym h.2) in
    subst P (ap (λ (k : Kept). k.literals) same ∙ sym h.3) f.3

pub forced_at : (clauses : List Kept) (steps : List Step) (k r : ℕ) → EachAfter (IsJustified clauses) steps → k < length steps → (step_at steps k).reason ≡ Some r → IsForced clauses (take k steps) (step_at steps k)
forced_at clauses steps k r each lt e = each k no_step lt r e

pub has_reason : (clauses : List Kept) (before : List Step) (s : Step) (r : ℕ) → s.reason ≡ Some r → IsForced clauses before s → HasKept clauses r (λ ls. Unit {0})
has_reason clauses before s r e f = (f.by, f.kept, same_some f.by.id r (sym f.reason ∙ e), tt)

pub reason_others : (clauses : List Kept) (steps : List Step) (k r : ℕ) (ls : List Signed) → HaveOwnIds clauses → EachAfter (IsJustified clauses) steps → IsNonDecreasingBy (λ (s : Step). s.depth) steps
    → k < length steps → (step_at steps k).reason ≡ Some r → HasKept clauses r (λ ms. ls ≡ ms)
    → All (λ m. (Some (step_at steps k).literal ≡ Some m) ⊎ IsFalseBelow steps k (step_at steps k).depth m) ls
reason_others clauses steps k r ls own each ordered lt e h =
    let f : IsForced clauses (take k steps) (step_at steps k) = forced_at clauses steps k r each lt e in
    let unit : All (λ m. (m ≡ (step_at steps k).literal) ⊎ IsFalseOn (take k steps) m) ls =
    by_id clauses r ls (All (λ m. (m ≡ (step_at steps k).literal) ⊎ IsFalseOn (take k steps) m)) own (f.by, f.kept, same_some f.by.id r (sym f.reason ∙ e), f.unit.1) h in
    All-weaker (λ m. (m ≡ (step_at steps k).literal) ⊎ IsFalseOn (take k steps) m) (λ m. (Some (step_at steps k).literal ≡ Some m) ⊎ IsFalseBelow steps k (step_at steps k).depth m)
    (λ m o. elim o [ inl same ↦ inl (ap (λ x. Some x) (sym same)) | inr on ↦ inr (false_below steps k m ordered lt on) ]) ls unit

pub as_kept : (clauses : List Kept) (id : ℕ) (P : List Signed → Type 0) → HasKept clauses id P → HasKept clauses id (λ ls. Unit {0})
as_kept clauses id P h = (h.0, h.1, h.2, tt)

-- what is on the trail has a known atom
pub known_on : (steps : List Step) (n : ℕ) (l : Signed) → All (λ (s : Step). s.literal.atom < n) steps → Assigns steps l → l.atom < n
known_on steps n l h on =
    let p = place_at steps l on in
    subst (λ (x : Signed). x.atom < n) p.2 (h p.0 no_step p.1)

-- a step that isn't the first of its depth, or is of depth 0, has a reason
pub has_a_reason : (steps : List Step) (k : ℕ) → k < length steps → EachAfter IsDecided steps → FollowsAt steps k → (step_at steps k).reason ≡ None → ⊥
has_a_reason steps k lt decided h none =
    let d = decided k no_step lt none in
    elim h [
      | inl top ↦ absurd (omega (arith, d.0))
      | inr (j, below, same) ↦
          let shallower : (get_or (take k steps) j no_step).depth < (step_at steps k).depth = d.1 j no_step (omega (arith, length-take-le k steps (omega arith))) in
          let is : get_or (take k steps) j no_step ≡ step_at steps j = get_or-take k steps j no_step below in
          absurd (omega (arith, ap (λ (s : Step). s.depth) is))
    ]
