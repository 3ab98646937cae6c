-- Each step seen below the greatest depth is resolved or kept, one after the other.
use Rattle.std.proofs.Common.{◌≡◌, ◌≢◌, ℕ, ◌+◌, ◌<◌, ◌≤◌, suc, zero, nat_le, cond, Bool, true, false, List, [], ◌∷◌, ◌++◌, length, take, set, get_or, Contains, All, subst, sym, ap, ◌∙◌, refl, inl, inr, ◌⊎◌, arith}
use Rattle.std.specs.List.Sorted.{IsNonDecreasingBy}
use Rattle.std.proofs.lemmas.List.{take_more, take_all, take-append-le, length-set}
use Rattle.std.proofs.lemmas.List.Elements.{All-push, All-weaker, All-take, All-contains, Contains-append_left, Contains-push, Contains-push_cases, Contains-get_or}
use Rattle.std.proofs.lemmas.Bool.{leb-true}
use Rattle.std.proofs.lemmas.Bool.Decides.{nat_tests}
use Rattle.clause_store.specs.declared.trail.Step.{Step}
use Rattle.clause_store.specs.Stored.{Kept}
use Rattle.conflict_learn.specs.declared.analysis.Mark.TheVariants.{Resolved}
use Rattle.conflict_learn.specs.Analysing.{State, is_seen, is_waiting, is_resolved, mark_at, step_at, with_place, AreApart, IsHeaded, IsSplit, IsSound, IsOnly, IsGrounded, Resolves, Shrinks}
use Rattle.conflict_learn.proofs.Descent.{grounded_stays, resolves_stays}
use Rattle.conflict_learn.proofs.Trails.{shallower}
use Rattle.conflict_learn.proofs.Marks.{set_cases, unseen_or_seen, seen_where_waiting, seen_where_resolved, seen_within}
use Rattle.conflict_learn.proofs.Places.{AreApart-push}
use Rattle.clause_store.proofs.Filters.{none_in, in_head, in_tail, in_cases}

-- ---- one place more

not_le : (a b : ℕ) → nat_le a b ≡ false → b ≤ a
not_le a b h = grind (arith, nat_tests)

pub place_cases : (steps : List Step) (p : ℕ) (ks : List ℕ) (q : ℕ) → Contains (with_place steps p ks) q → (q ≡ p) ⊎ Contains ks q
place_cases steps p [] q c = elim (in_cases p q [] c) [ inl e ↦ inl (sym e) | inr none ↦ absurd (none_in q none) ]
place_cases steps p (k ∷ ks) q c = by_test (nat_le (step_at steps p).depth (step_at steps k).depth) c
  where
    by_test : (b : Bool) → Contains (cond b (k ∷ ks ++ p ∷ []) (p ∷ ks ++ k ∷ [])) q → (q ≡ p) ⊎ Contains (k ∷ ks) q
    by_test true c = elim (Contains-push_cases (k ∷ ks) p q c) [ inl old ↦ inr old | inr e ↦ inl (sym e) ]
    by_test false c = elim (in_cases p q (ks ++ k ∷ []) c) [
      | inl e ↦ inl (sym e)
      | inr rest ↦ elim (Contains-push_cases ks k q rest) [ inl old ↦ inr (in_tail k q ks old) | inr e ↦ inr (subst (Contains (k ∷ ks)) e (in_head k ks)) ]
    ]

pub place_new : (steps : List Step) (p : ℕ) (ks : List ℕ) → Contains (with_place steps p ks) p
place_new steps p [] = in_head p []
place_new steps p (k ∷ ks) = by_test (nat_le (step_at steps p).depth (step_at steps k).depth)
  where
    by_test : (b : Bool) → Contains (cond b (k ∷ ks ++ p ∷ []) (p ∷ ks ++ k ∷ [])) p
    by_test true = Contains-push (k ∷ ks) p
    by_test false = in_head p (ks ++ k ∷ [])

pub place_old : (steps : List Step) (p : ℕ) (ks : List ℕ) (q : ℕ) → Contains ks q → Contains (with_place steps p ks) q
place_old steps p [] q c = absurd (none_in q c)
place_old steps p (k ∷ ks) q c = by_test (nat_le (step_at steps p).depth (step_at steps k).depth)
  where
    by_test : (b : Bool) → Contains (cond b (k ∷ ks ++ p ∷ []) (p ∷ ks ++ k ∷ [])) q
    by_test true = Contains-append_left (k ∷ ks) (p ∷ []) q c
    by_test false = elim (in_cases k q ks c) [
      | inl e ↦ subst (Contains (p ∷ ks ++ k ∷ [])) e (in_tail p k (ks ++ k ∷ []) (Contains-push ks k))
      | inr rest ↦ in_tail p q (ks ++ k ∷ []) (Contains-append_left ks (k ∷ []) q rest)
    ]

place_apart : (steps : List Step) (p : ℕ) (ks : List ℕ) → AreApart ks → (Contains ks p → ⊥) → AreApart (with_place steps p ks)
place_apart steps p [] h off = (none_in p, tt)
place_apart steps p (k ∷ ks) h off = by_test (nat_le (step_at steps p).depth (step_at steps k).depth)
  where
    by_test : (b : Bool) → AreApart (cond b (k ∷ ks ++ p ∷ []) (p ∷ ks ++ k ∷ []))
    by_test true = AreApart-push (k ∷ ks) p h off
    by_test false = (
      (λ c. elim (Contains-push_cases ks k p c) [ inl old ↦ off (in_tail k p ks old) | inr e ↦ off (subst (Contains (k ∷ ks)) e (in_head k ks)) ]),
      AreApart-push ks k h.1 h.0,
    )

place_headed : (steps : List Step) (p : ℕ) (ks : List ℕ) → IsHeaded steps ks → IsHeaded steps (with_place steps p ks)
place_headed steps p [] h = λ j d lt. absurd (omega (arith, lt))
place_headed steps p (k ∷ ks) h = by_test (nat_le (step_at steps p).depth (step_at steps k).depth) refl
  where
    by_test : (b : Bool) → nat_le (step_at steps p).depth (step_at steps k).depth ≡ b → IsHeaded steps (cond b (k ∷ ks ++ p ∷ []) (p ∷ ks ++ k ∷ []))
    by_test true t = All-push (λ q. (step_at steps q).depth ≤ (step_at steps k).depth) ks p h (leb-true _ _ t)
    by_test false t =
        let le : (step_at steps k).depth ≤ (step_at steps p).depth = not_le _ _ t in
        All-push (λ q. (step_at steps q).depth ≤ (step_at steps p).depth) ks k
        (All-weaker (λ q. (step_at steps q).depth ≤ (step_at steps k).depth) (λ q. (step_at steps q).depth ≤ (step_at steps p).depth) (λ q b. omega arith) ks h) le

-- ---- the lower places, in order

-- the next of places that are apart isn't among those before
next_apart : (ks : List ℕ) (j d : ℕ) → AreApart ks → j < length ks → Contains (take j ks) (get_or ks j d) → ⊥
next_apart [] j d h lt c = absurd (omega arith)
next_apart (k ∷ ks) zero d h lt c = none_in _ c
next_apart (k ∷ ks) (suc j) d h lt c = elim (in_cases k (get_or ks j d) (take j ks) c) [
  | inl e ↦ h.0 (subst (Contains ks) (sym e) (Contains-get_or ks j d (omega arith)))
  | inr rest ↦ next_apart ks j d h.1 (omega arith) rest
]

take_step : (ks : List ℕ) (j p : ℕ) → j < length ks → ((d : ℕ) → get_or ks j d ≡ p) → take (j + 1) ks ≡ take j ks ++ p ∷ []
take_step ks j p lt is = take_more ks j 0 lt ∙ ap (λ x. take j ks ++ x ∷ []) (is 0)

more_of : (ks : List ℕ) (j p : ℕ) (qs : List ℕ) → All (Contains (take j ks)) qs → All (Contains (take j ks ++ p ∷ [])) qs
more_of ks j p qs h = All-weaker (Contains (take j ks)) (Contains (take j ks ++ p ∷ [])) (λ q c. Contains-append_left (take j ks) (p ∷ []) q c) qs h

pub split-start : (steps : List Step) (s : State) → IsSplit steps s 0 []
split-start steps s = record { apart = tt; of_lower = λ k d lt. absurd (omega (arith, lt)); headed = tt; settled = λ k d lt. absurd (omega (arith, lt)) }

pub split-kept : (steps : List Step) (s : State) (j p : ℕ) (kept new : List ℕ) → AreApart s.lower → j < length s.lower → ((d : ℕ) → get_or s.lower j d ≡ p) → new ≡ with_place steps p kept
    → IsSplit steps s j kept → IsSplit steps s (j + 1) new
split-kept steps s j p kept new apart lt is e h =
    let t : take (j + 1) s.lower ≡ take j s.lower ++ p ∷ [] = take_step s.lower j p lt is in
    let off : Contains (take j s.lower) p → ⊥ = λ c. next_apart s.lower j 0 apart lt (subst (Contains (take j s.lower)) (sym (is 0)) c) in
    let kept_off : Contains kept p → ⊥ = λ c. off (All-contains (Contains (take j s.lower)) kept p h.of_lower c) in
    subst (IsSplit steps s (j + 1)) (sym e) record {
      apart = place_apart steps p kept h.apart kept_off;
      of_lower = rw t (λ k d in'. elim (place_cases steps p kept (get_or (with_place steps p kept) k d) (Contains-get_or (with_place steps p kept) k d in')) [
        | inl same ↦ subst (Contains (take j s.lower ++ p ∷ [])) (sym same) (Contains-push (take j s.lower) p)
        | inr old ↦ Contains-append_left (take j s.lower) (p ∷ []) _ (All-contains (Contains (take j s.lower)) kept _ h.of_lower old)
      ]);
      headed = place_headed steps p kept h.headed;
      settled = rw t (All-push (λ k. (is_resolved (mark_at s.marks k) ≡ true) ⊎ Contains (with_place steps p kept) k) (take j s.lower) p
          (All-weaker (λ k. (is_resolved (mark_at s.marks k) ≡ true) ⊎ Contains kept k) (λ k. (is_resolved (mark_at s.marks k) ≡ true) ⊎ Contains (with_place steps p kept) k)
          (λ k o. elim o [ inl r ↦ inl r | inr c ↦ inr (place_old steps p kept k c) ]) (take j s.lower) h.settled)
          (inr (place_new steps p kept)));
    }

-- ---- a step that isn't needed is resolved

marks_after : (clauses : List Kept) (steps : List Step) (p k : ℕ) (s new : State) (r : Resolves clauses steps p s new) → p < length new.marks
    → ((k ≡ p) × (mark_at new.marks k ≡ Resolved)) ⊎ ((k ≢ p) × (mark_at new.marks k ≡ mark_at (r.between).marks k))
marks_after clauses steps p k s new r lt =
    let e : new.marks ≡ set (r.between).marks p Resolved = ap (λ (x : State). x.marks) r.marked in
    let near : p < length (r.between).marks = omega (arith, ap length e, length-set (r.between).marks p Resolved) in
    elim (set_cases (r.between).marks p k Resolved near) [
      | inl (same, is) ↦ inl (same, ap (λ ms. mark_at ms k) e ∙ is)
      | inr (ne, is) ↦ inr (ne, ap (λ ms. mark_at ms k) e ∙ is)
    ]

-- what was resolved stays so
resolved_stays : (clauses : List Kept) (steps : List Step) (p k : ℕ) (s new : State) (r : Resolves clauses steps p s new) → p < length new.marks → is_resolved (mark_at s.marks k) ≡ true → is_resolved (mark_at new.marks k) ≡ true
resolved_stays clauses steps p k s new r lt on = elim (marks_after clauses steps p k s new r lt) [
  | inl (same, is) ↦ ap is_resolved is
  | inr (ne, is) ↦ ap is_resolved is ∙ (ap is_resolved (r.grew.stays k (seen_where_resolved (mark_at s.marks k) on)) ∙ on)
]

pub split-resolved : (clauses : List Kept) (steps : List Step) (s new : State) (j p : ℕ) (kept : List ℕ) → p < length new.marks → j < length s.lower → ((d : ℕ) → get_or s.lower j d ≡ p) → Resolves clauses steps p s new
    → IsSplit steps s j kept → IsSplit steps new (j + 1) kept
split-resolved clauses steps s new j p kept in' lt is r h =
    let lower : new.lower ≡ s.lower ++ r.grew.more = ap (λ (x : State). x.lower) r.marked ∙ r.grew.lower in
    let t : take (j + 1) new.lower ≡ take j s.lower ++ p ∷ [] = ap (take (j + 1)) lower ∙ (take-append-le (j + 1) s.lower r.grew.more (omega arith) ∙ take_step s.lower j p lt is) in
    record {
      apart = h.apart;
      of_lower = subst (λ qs. All (Contains qs) kept) (sym t) (more_of s.lower j p kept h.of_lower);
      headed = h.headed;
      settled = subst (λ qs. All (λ k. (is_resolved (mark_at new.marks k) ≡ true) ⊎ Contains kept k) qs) (sym t)
          (All-push (λ k. (is_resolved (mark_at new.marks k) ≡ true) ⊎ Contains kept k) (take j s.lower) p
          (All-weaker (λ k. (is_resolved (mark_at s.marks k) ≡ true) ⊎ Contains kept k) (λ k. (is_resolved (mark_at new.marks k) ≡ true) ⊎ Contains kept k)
          (λ k o. elim o [ inl on ↦ inl (resolved_stays clauses steps p k s new r in' on) | inr c ↦ inr c ]) (take j s.lower) h.settled)
          (inl (elim (marks_after clauses steps p p s new r in') [ inl (same, on) ↦ ap is_resolved on | inr (ne, on) ↦ absurd (ne refl) ])));
    }

pub only-resolved : (clauses : List Kept) (steps : List Step) (s new : State) (p uip : ℕ) → IsNonDecreasingBy (λ (x : Step). x.depth) steps → p < length steps → p < length new.marks → (step_at steps p).depth < s.deepest → Resolves clauses steps p s new
    → IsOnly steps s uip → IsOnly steps new uip
only-resolved clauses steps s new p uip ordered lt in' low r h =
    let depth : new.deepest ≡ s.deepest = ap (λ (x : State). x.deepest) r.marked ∙ r.grew.deepest in
    record {
      within = h.within;
      waits = elim (marks_after clauses steps p uip s new r in') [
        | inl (same, is) ↦ let d : (step_at steps p).depth ≡ s.deepest = subst (λ k. (step_at steps k).depth ≡ s.deepest) same h.deep in absurd (omega arith)
        | inr (ne, is) ↦ ap is_waiting is ∙ (ap is_waiting (r.grew.stays uip (seen_where_waiting (mark_at s.marks uip) h.waits)) ∙ h.waits)
      ];
      deep = h.deep ∙ sym depth;
      only = λ k w d. elim (marks_after clauses steps p k s new r in') [
        | inl (same, is) ↦ let off : false ≡ true = sym (ap is_waiting is) ∙ w in cc
        | inr (ne, is) ↦
            let m : is_waiting (mark_at (r.between).marks k) ≡ true = sym (ap is_waiting is) ∙ w in
            elim (unseen_or_seen (mark_at s.marks k)) [
              | inl unseen ↦
                  let news = r.grew.news k unseen (seen_where_waiting (mark_at (r.between).marks k) m) in
                  let le : (step_at steps k).depth ≤ (step_at steps p).depth = shallower steps k p ordered (omega (arith, news.0)) lt in
                  absurd (omega (arith, le, d, depth))
              | inr seen ↦ h.only k (sym (ap is_waiting (r.grew.stays k seen)) ∙ m) (d ∙ depth)
            ]
      ];
    }

-- ---- the whole

pub low_at : (clauses : List Kept) (steps : List Step) (s : State) (j p : ℕ) → IsSound clauses steps s → j < length s.lower → ((d : ℕ) → get_or s.lower j d ≡ p) → (is_seen (mark_at s.marks p) ≡ true) × ((step_at steps p).depth < s.deepest)
low_at clauses steps s j p h lt is = subst (λ k. (is_seen (mark_at s.marks k) ≡ true) × ((step_at steps k).depth < s.deepest)) (is 0) (h.low j 0 lt)

pub low_within : (clauses : List Kept) (steps : List Step) (s : State) (j p : ℕ) → IsSound clauses steps s → j < length s.lower → ((d : ℕ) → get_or s.lower j d ≡ p) → p < length steps
low_within clauses steps s j p h lt is = let lt' : p < length s.marks = seen_within s.marks p (low_at clauses steps s j p h lt is).0 in let r : length s.marks ≡ length steps = h.room in omega arith

pub kept_within : (clauses : List Kept) (steps : List Step) (s : State) (j : ℕ) (kept : List ℕ) → IsSound clauses steps s → IsSplit steps s j kept → All (λ k. k < length steps) kept
kept_within clauses steps s j kept h split =
    All-weaker (Contains (take j s.lower)) (λ k. k < length steps)
    (λ k c.
    let low = All-contains (λ k. (is_seen (mark_at s.marks k) ≡ true) × ((step_at steps k).depth < s.deepest)) (take j s.lower) k (All-take (λ k. (is_seen (mark_at s.marks k) ≡ true) × ((step_at steps k).depth < s.deepest)) j s.lower h.low) c in
    let lt' : k < length s.marks = seen_within s.marks k low.0 in let r : length s.marks ≡ length steps = h.room in omega arith)
    kept split.of_lower

-- what the loop keeps
pub record Shrinking (clauses : List Kept) (steps : List Step) (id uip : ℕ) (old now : State) (j : ℕ) (kept : List ℕ) : Type 0 where
  pub sound : IsSound clauses steps now
  pub grounded : IsGrounded clauses steps id now
  pub only : IsOnly steps now uip
  pub split : IsSplit steps now j kept
  pub deepest : now.deepest ≡ old.deepest

pub shrinking-kept : (clauses : List Kept) (steps : List Step) (id uip : ℕ) (old now : State) (j p : ℕ) (kept new : List ℕ) → j < length now.lower → ((d : ℕ) → get_or now.lower j d ≡ p) → new ≡ with_place steps p kept
    → Shrinking clauses steps id uip old now j kept → Shrinking clauses steps id uip old now (j + 1) new
shrinking-kept clauses steps id uip old now j p kept new lt is e h = record {
  sound = h.sound;
  grounded = h.grounded;
  only = h.only;
  deepest = h.deepest;
  split = split-kept steps now j p kept new (h.sound).apart lt is e h.split;
}

pub shrinking-resolved : (clauses : List Kept) (steps : List Step) (id uip : ℕ) (old now new : State) (j p : ℕ) (kept : List ℕ) → IsNonDecreasingBy (λ (x : Step). x.depth) steps → j < length now.lower → ((d : ℕ) → get_or now.lower j d ≡ p)
    → Resolves clauses steps p now new → Shrinking clauses steps id uip old now j kept → Shrinking clauses steps id uip old new (j + 1) kept
shrinking-resolved clauses steps id uip old now new j p kept ordered lt is r h =
    let low = low_at clauses steps now j p h.sound lt is in
    let in' : p < length steps = low_within clauses steps now j p h.sound lt is in
    let room : length now.marks ≡ length steps = (h.sound).room in
    let new_room : length new.marks ≡ length steps = (r.sound).room in
    record {
      sound = r.sound;
      grounded = grounded_stays clauses steps id now new (resolves_stays clauses steps p now new (omega arith) (omega arith) r) r.premises h.grounded;
      only = only-resolved clauses steps now new p uip ordered in' (omega arith) low.1 r h.only;
      split = split-resolved clauses steps now new j p kept (omega arith) lt is r h.split;
      deepest = ap (λ (x : State). x.deepest) r.marked ∙ (r.grew.deepest ∙ h.deepest);
    }

pub shrunk : (clauses : List Kept) (steps : List Step) (id uip : ℕ) (old now : State) (j : ℕ) (kept : List ℕ) → length now.lower ≤ j → Shrinking clauses steps id uip old now j kept → Shrinks clauses steps id uip old now kept
shrunk clauses steps id uip old now j kept le h =
    let t : take j now.lower ≡ take (length now.lower) now.lower = take_all j now.lower le ∙ sym (take_all (length now.lower) now.lower (omega arith)) in
    record {
      sound = h.sound;
      grounded = h.grounded;
      only = h.only;
      split = record {
        apart = h.split.apart;
        of_lower = subst (λ ks. All (Contains ks) kept) t h.split.of_lower;
        headed = h.split.headed;
        settled = subst (All (λ k. (is_resolved (mark_at now.marks k) ≡ true) ⊎ Contains kept k)) t h.split.settled;
      };
      deepest = h.deepest;
    }
