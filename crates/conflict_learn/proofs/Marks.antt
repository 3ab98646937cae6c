-- Marks as one of them changes, and how many wait.
use Rattle.std.proofs.Common.{◌≡◌, ◌≢◌, ℕ, ◌+◌, ◌<◌, ◌≤◌, suc, zero, Bool, true, false, ◌&&◌, cond, eqb, eq-eqb, eqb-true, List, length, set, ap, sym, subst, refl, inl, inr, ◌⊎◌, arith}
use Rattle.std.specs.List.{count_by}
use Rattle.std.proofs.lemmas.List.{get_or-set_same, get_or-set_other, get_or_past}
use Rattle.std.proofs.lemmas.List.Sums.{sum_by-set}
use Rattle.clause_store.specs.declared.trail.Step.{Step}
use Rattle.conflict_learn.specs.declared.analysis.Mark.{Mark}
use Rattle.conflict_learn.specs.declared.analysis.Mark.TheVariants.{Unseen, Waiting, Resolved}
use Rattle.conflict_learn.specs.Analysing.{is_unseen, is_seen, is_waiting, is_resolved, mark_at, step_at, pending}

pub same_or_apart : (a b : ℕ) → (a ≡ b) ⊎ (a ≢ b)
same_or_apart a b = grind arith

-- the mark after a change: the new one at its place, else the old
pub set_cases : (marks : List Mark) (p k : ℕ) (m : Mark) → p < length marks → ((k ≡ p) × (mark_at (set marks p m) k ≡ m)) ⊎ ((k ≢ p) × (mark_at (set marks p m) k ≡ mark_at marks k))
set_cases marks p k m lt = elim (same_or_apart k p) [
  | inl e ↦ inl (e, subst (λ j. mark_at (set marks p m) j ≡ m) (sym e) (get_or-set_same marks p m Unseen lt))
  | inr ne ↦ inr (ne, get_or-set_other marks p k m Unseen ne)
]

-- a seen mark is within the list
pub seen_within : (marks : List Mark) (k : ℕ) → is_seen (mark_at marks k) ≡ true → k < length marks
seen_within marks k on = elim (below_or_past k (length marks)) [
  | inl lt ↦ lt
  | inr past ↦ let e : is_seen (mark_at marks k) ≡ false = ap is_seen (get_or_past marks k Unseen past) in cc
]
  where
    below_or_past : (k n : ℕ) → (k < n) ⊎ (n ≤ k)
    below_or_past k n = grind arith

pub seen_where_waiting : (m : Mark) → is_waiting m ≡ true → is_seen m ≡ true
seen_where_waiting Unseen h = cc
seen_where_waiting Waiting h = refl
seen_where_waiting Resolved h = cc

pub seen_where_resolved : (m : Mark) → is_resolved m ≡ true → is_seen m ≡ true
seen_where_resolved Unseen h = cc
seen_where_resolved Waiting h = cc
seen_where_resolved Resolved h = refl

pub waiting_or_resolved : (m : Mark) → is_seen m ≡ true → (is_waiting m ≡ true) ⊎ (is_resolved m ≡ true)
waiting_or_resolved Unseen h = cc
waiting_or_resolved Waiting h = inl refl
waiting_or_resolved Resolved h = inr refl

pub unseen_or_seen : (m : Mark) → (is_unseen m ≡ true) ⊎ (is_seen m ≡ true)
unseen_or_seen Unseen = inl refl
unseen_or_seen Waiting = inr refl
unseen_or_seen Resolved = inr refl

pub not_both : (m : Mark) → is_unseen m ≡ true → is_seen m ≡ true → ⊥
not_both Unseen h k = cc
not_both Waiting h k = cc
not_both Resolved h k = cc

pub not_unseen : (m : Mark) → is_unseen m ≡ false → is_seen m ≡ true
not_unseen Unseen h = cc
not_unseen Waiting h = refl
not_unseen Resolved h = refl

pub not_waiting_and_resolved : (m : Mark) → is_waiting m ≡ true → is_resolved m ≡ true → ⊥
not_waiting_and_resolved Unseen h k = cc
not_waiting_and_resolved Waiting h k = cc
not_waiting_and_resolved Resolved h k = cc

-- ---- how many are unseen

count_set : (marks : List Mark) (p : ℕ) (m : Mark) → p < length marks → count_by is_unseen (set marks p m) + cond (is_unseen (mark_at marks p)) 1 0 ≡ count_by is_unseen marks + cond (is_unseen m) 1 0
count_set marks p m lt = sum_by-set (λ x. cond (is_unseen x) 1 0) marks p m Unseen lt

pub unseen-seen : (marks : List Mark) (p : ℕ) → p < length marks → is_unseen (mark_at marks p) ≡ true → count_by is_unseen (set marks p Waiting) + 1 ≡ count_by is_unseen marks
unseen-seen marks p lt on = let h = count_set marks p Waiting lt in let k = rw on at h in omega (arith, k)

pub unseen-resolved : (marks : List Mark) (p : ℕ) → p < length marks → is_unseen (mark_at marks p) ≡ false → count_by is_unseen (set marks p Resolved) ≡ count_by is_unseen marks
unseen-resolved marks p lt off = let h = count_set marks p Resolved lt in let k = rw off at h in omega (arith, k)

-- ---- how many wait at a depth

below_or_at : (a n : ℕ) → a < suc n → (a < n) ⊎ (a ≡ n)
below_or_at a n h = grind arith

and_true : (b c : Bool) → b ≡ true → c ≡ true → (b && c) ≡ true
and_true b c h k = cc

-- a change past the end of the count changes nothing
pub pending-above : (d : ℕ) (steps : List Step) (marks : List Mark) (p : ℕ) (m : Mark) (i : ℕ) → i ≤ p → pending d steps (set marks p m) i ≡ pending d steps marks i
unfolding pending
pending-above d steps marks p m zero le = refl
pending-above d steps marks p m (suc i) le =
    let ne : i ≢ p = omega arith in
    rw (get_or-set_other marks p i m Unseen ne, pending-above d steps marks p m i (omega arith)) refl

-- nor does one at another depth
pub pending-other : (d : ℕ) (steps : List Step) (marks : List Mark) (p : ℕ) (m : Mark) (i : ℕ) → p < length marks → eqb (step_at steps p).depth d ≡ false → pending d steps (set marks p m) i ≡ pending d steps marks i
unfolding pending
pending-other d steps marks p m zero lt off = refl
pending-other d steps marks p m (suc i) lt off = elim (same_or_apart i p) [
  | inl e ↦
      let off' : eqb (step_at steps i).depth d ≡ false = subst (λ j. eqb (step_at steps j).depth d ≡ false) (sym e) off in
      rw (off', pending-other d steps marks p m i lt off) (ap (λ n. n + pending d steps marks i) (no_one (is_waiting (mark_at (set marks p m) i)) (is_waiting (mark_at marks i))))
  | inr ne ↦ rw (get_or-set_other marks p i m Unseen ne, pending-other d steps marks p m i lt off) refl
]
  where
    no_one : (b c : Bool) → ◌≡◌ {A = ℕ} (cond (b && false) 1 0) (cond (c && false) 1 0)
    no_one true true = refl
    no_one true false = refl
    no_one false true = refl
    no_one false false = refl

-- one more where an unseen step of that depth is to wait
pub pending-seen : (d : ℕ) (steps : List Step) (marks : List Mark) (p i : ℕ) → p < i → p < length marks → is_unseen (mark_at marks p) ≡ true → eqb (step_at steps p).depth d ≡ true
    → pending d steps (set marks p Waiting) i ≡ pending d steps marks i + 1
unfolding pending
pending-seen d steps marks p zero lt in' off on = absurd (omega arith)
pending-seen d steps marks p (suc i) lt in' off on = elim (below_or_at p i lt) [
  | inl less ↦
      let ne : i ≢ p = omega arith in
      let h : pending d steps (set marks p Waiting) i ≡ pending d steps marks i + 1 = pending-seen d steps marks p i less in' off on in
      rw (get_or-set_other marks p i Waiting Unseen ne) (omega arith)
  | inr at ↦
      let below : pending d steps (set marks p Waiting) i ≡ pending d steps marks i = pending-above d steps marks p Waiting i (omega arith) in
      let new : mark_at (set marks p Waiting) i ≡ Waiting = subst (λ j. mark_at (set marks p Waiting) j ≡ Waiting) at (get_or-set_same marks p Waiting Unseen in') in
      let old : is_waiting (mark_at marks i) ≡ false = idle (mark_at marks i) (subst (λ j. is_unseen (mark_at marks j) ≡ true) at off) in
      let deep : eqb (step_at steps i).depth d ≡ true = subst (λ j. eqb (step_at steps j).depth d ≡ true) at on in
      rw (new, old, deep) (omega arith)
]
  where
    idle : (m : Mark) → is_unseen m ≡ true → is_waiting m ≡ false
    idle Unseen h = refl
    idle Waiting h = cc
    idle Resolved h = cc

-- none waits where the count is 0
pub pending-none : (d : ℕ) (steps : List Step) (marks : List Mark) (i : ℕ) → pending d steps marks i ≡ 0 → (k : ℕ) → k < i → is_waiting (mark_at marks k) ≡ true → (step_at steps k).depth ≡ d → ⊥
unfolding pending
pending-none d steps marks zero e k lt on deep = omega arith
pending-none d steps marks (suc i) e k lt on deep = elim (below_or_at k i lt) [
  | inl less ↦ pending-none d steps marks i (omega arith) k less on deep
  | inr at ↦
      let here : is_waiting (mark_at marks i) ≡ true = subst (λ j. is_waiting (mark_at marks j) ≡ true) at on in
      let level : eqb (step_at steps i).depth d ≡ true = eq-eqb (step_at steps i).depth d (subst (λ j. (step_at steps j).depth ≡ d) at deep) in
      let e' = rw (here, level) at e in
      absurd (omega (arith, e'))
]

-- where some wait, one of that depth does
pub pending-some : (d : ℕ) (steps : List Step) (marks : List Mark) (i : ℕ) → 0 < pending d steps marks i → (k : ℕ) × (k < i) × ((step_at steps k).depth ≡ d)
unfolding pending
pending-some d steps marks zero lt = absurd (omega arith)
pending-some d steps marks (suc i) lt = elim (true_or_false (is_waiting (mark_at marks i) && eqb (step_at steps i).depth d)) [
  | inl on ↦ (i, omega arith, eqb-true (step_at steps i).depth d (second _ _ on))
  | inr off ↦
      let rest = rw off at lt in
      let h = pending-some d steps marks i (omega (arith, rest)) in
      (h.0, omega (arith, h.1), h.2)
]
  where
    true_or_false : (b : Bool) → (b ≡ true) ⊎ (b ≡ false)
    true_or_false true = inl refl
    true_or_false false = inr refl

    second : (b c : Bool) → (b && c) ≡ true → c ≡ true
    second true c h = h
    second false c h = cc

-- the last one counts where it waits at that depth, and else doesn't
pub pending-here : (d : ℕ) (steps : List Step) (marks : List Mark) (i : ℕ) → is_waiting (mark_at marks i) ≡ true → (step_at steps i).depth ≡ d → pending d steps marks (i + 1) ≡ pending d steps marks i + 1
unfolding pending
pending-here d steps marks i on deep =
    let e : i + 1 ≡ suc i = omega arith in
    let level : eqb (step_at steps i).depth d ≡ true = eq-eqb (step_at steps i).depth d deep in
    subst (λ n. pending d steps marks n ≡ pending d steps marks i + 1) (sym e) (rw (on, level) (omega arith))

pub pending-not_here : (d : ℕ) (steps : List Step) (marks : List Mark) (i : ℕ) → (is_waiting (mark_at marks i) && eqb (step_at steps i).depth d) ≡ false → pending d steps marks (i + 1) ≡ pending d steps marks i
unfolding pending
pending-not_here d steps marks i off =
    let e : i + 1 ≡ suc i = omega arith in
    subst (λ n. pending d steps marks n ≡ pending d steps marks i) (sym e) (rw off (omega arith))

-- no more than there are places
pub pending-le : (d : ℕ) (steps : List Step) (marks : List Mark) (i : ℕ) → pending d steps marks i ≤ i
unfolding pending
pending-le d steps marks zero = omega arith
pending-le d steps marks (suc i) = let h : pending d steps marks i ≤ i = pending-le d steps marks i in one_more (is_waiting (mark_at marks i) && eqb (step_at steps i).depth d) (pending d steps marks i) i h
  where
    one_more : (b : Bool) (n i : ℕ) → n ≤ i → cond b 1 0 + n ≤ suc i
    one_more true n i h = omega arith
    one_more false n i h = omega arith
