-- What an analysis keeps as steps are seen, premises counted and steps resolved.
use Rattle.std.proofs.Common.{◌≡◌, ℕ, ◌+◌, ◌<◌, ◌≤◌, max, Bool, true, false, eqb, eqb-true, List, [], ◌∷◌, ◌++◌, length, set, Contains, subst, sym, ap, ◌∙◌, refl, inl, inr, ◌⊎◌, arith, append_assoc}
use Rattle.std.proofs.lemmas.List.{length-set, length_push, append-nil}
use Rattle.std.proofs.lemmas.List.Elements.{All-push, All-weaker, All-contains, Contains-push, Contains-push_cases, Contains-append_left}
use Rattle.std.proofs.lemmas.Bool.Decides.{nat_tests}
use Rattle.literals.specs.Signed.{Signed, opposite}
use Rattle.clause_store.specs.declared.trail.Step.{Step}
use Rattle.clause_store.specs.Stored.{Kept}
use Rattle.clause_store.specs.Found.{HasKept, HasLevel}
use Rattle.conflict_learn.specs.declared.analysis.Mark.{Mark}
use Rattle.conflict_learn.specs.declared.analysis.Mark.TheVariants.{Unseen, Waiting, Resolved}
use Rattle.conflict_learn.specs.Analysing.{State, is_unseen, is_seen, is_waiting, is_resolved, mark_at, step_at, falsified, with_mark, with_premise, seen_by, seen, SeenAt, StandsIn, IsResolvedAt, IsSound, Grew, pending}
use Rattle.conflict_learn.proofs.Marks.{set_cases, seen_within, unseen_or_seen, not_both, not_unseen, unseen-seen, unseen-resolved, pending-other, pending-seen}
use Rattle.conflict_learn.proofs.Places.{AreApart-push}

-- ---- marks that grew

abbrev pub Stays : List Mark → List Mark → Type 0
Stays old new = (k : ℕ) → is_seen (mark_at old k) ≡ true → is_seen (mark_at new k) ≡ true

pub SeenAt-stays : (steps : List Step) (old new : List Mark) (i : ℕ) (l : Signed) → Stays old new → SeenAt steps old i l → SeenAt steps new i l
SeenAt-stays steps old new i l stays h = record { place = h.place; below = h.below; is_seen = stays h.place h.is_seen; literal = h.literal }

pub IsResolvedAt-stays : (clauses : List Kept) (steps : List Step) (old new : List Mark) (ids : List ℕ) (k : ℕ) → Stays old new → IsResolvedAt clauses steps old ids k → IsResolvedAt clauses steps new ids k
IsResolvedAt-stays clauses steps old new ids k stays h = record {
  by = h.by;
  kept = h.kept;
  among = h.among;
  covers = All-weaker (λ m. (m ≡ (step_at steps k).literal) ⊎ SeenAt steps old k (opposite m)) (λ m. (m ≡ (step_at steps k).literal) ⊎ SeenAt steps new k (opposite m))
      (λ m o. elim o [ inl e ↦ inl e | inr at ↦ inr (SeenAt-stays steps old new k (opposite m) stays at) ]) h.by.literals h.covers;
}

pub Stays-set : (marks : List Mark) (p : ℕ) (m : Mark) → p < length marks → is_seen m ≡ true → Stays marks (set marks p m)
Stays-set marks p m lt on k old = elim (set_cases marks p k m lt) [
  | inl (e, is) ↦ ap is_seen is ∙ on
  | inr (ne, is) ↦ ap is_seen is ∙ old
]

-- ---- a step is seen

part : (a b c n : ℕ) → a + b + c ≤ n → c ≤ n
part a b c n h = omega arith

-- what is said of each seen step, where one more waits
resolved_each : (clauses : List Kept) (steps : List Step) (marks : List Mark) (ids : List ℕ) (p : ℕ) → p < length marks
    → ((k : ℕ) → is_resolved (mark_at marks k) ≡ true → IsResolvedAt clauses steps marks ids k)
    → (k : ℕ) → is_resolved (mark_at (set marks p Waiting) k) ≡ true → IsResolvedAt clauses steps (set marks p Waiting) ids k
resolved_each clauses steps marks ids p lt h k on = elim (set_cases marks p k Waiting lt) [
  | inl (e, is) ↦ let off : false ≡ true = sym (ap is_resolved is) ∙ on in cc
  | inr (ne, is) ↦ IsResolvedAt-stays clauses steps marks (set marks p Waiting) ids k (Stays-set marks p Waiting lt refl) (h k (sym (ap is_resolved is) ∙ on))
]

seen_each : (P : ℕ → Type 0) (marks : List Mark) (p : ℕ) → p < length marks → ((k : ℕ) → is_seen (mark_at marks k) ≡ true → P k) → P p
    → (k : ℕ) → is_seen (mark_at (set marks p Waiting) k) ≡ true → P k
seen_each P marks p lt h here k on = elim (set_cases marks p k Waiting lt) [
  | inl (e, is) ↦ subst P (sym e) here
  | inr (ne, is) ↦ h k (sym (ap is_seen is) ∙ on)
]

waiting_each : (P : ℕ → Type 0) (marks : List Mark) (p : ℕ) → p < length marks → ((k : ℕ) → is_waiting (mark_at marks k) ≡ true → P k) → P p
    → (k : ℕ) → is_waiting (mark_at (set marks p Waiting) k) ≡ true → P k
waiting_each P marks p lt h here k on = elim (set_cases marks p k Waiting lt) [
  | inl (e, is) ↦ subst P (sym e) here
  | inr (ne, is) ↦ h k (sym (ap is_waiting is) ∙ on)
]

below_where_ne : (a b : ℕ) → a ≤ b → eqb a b ≡ false → a < b
below_where_ne a b le ne = grind (arith, nat_tests)

pub sound-seen_by : (clauses : List Kept) (steps : List Step) (s : State) (p : ℕ) (u deep : Bool) → IsSound clauses steps s → p < length steps → (step_at steps p).depth ≤ s.deepest
    → StandsIn clauses s.premises (falsified steps p) → is_unseen (mark_at s.marks p) ≡ u → eqb (step_at steps p).depth s.deepest ≡ deep → IsSound clauses steps (seen_by u deep p s)
sound-seen_by clauses steps s p false deep h lt le drawn off at = h
sound-seen_by clauses steps s p true true h lt le drawn off at =
    let in' : p < length s.marks = let r : length s.marks ≡ length steps = h.room in omega arith in
    record {
      room = length-set s.marks p Waiting ∙ h.room;
      are_kept = h.are_kept;
      within = h.within;
      reached = h.reached;
      resolved = resolved_each clauses steps s.marks s.premises p in' h.resolved;
      drawn = seen_each (λ k. StandsIn clauses s.premises (falsified steps k)) s.marks p in' h.drawn drawn;
      shallow = seen_each (λ k. (step_at steps k).depth ≤ s.deepest) s.marks p in' h.shallow le;
      sorted = waiting_each (λ k. ((step_at steps k).depth ≡ s.deepest) ⊎ Contains s.lower k) s.marks p in' h.sorted (inl (eqb-true _ _ at));
      low = All-weaker (λ k. (is_seen (mark_at s.marks k) ≡ true) × ((step_at steps k).depth < s.deepest)) (λ k. (is_seen (mark_at (set s.marks p Waiting) k) ≡ true) × ((step_at steps k).depth < s.deepest))
          (λ k b. (Stays-set s.marks p Waiting in' refl k b.0, b.1)) s.lower h.low;
      apart = h.apart;
      few = let f : length s.lower + s.count + _ ≤ length steps = h.few in omega (arith, unseen-seen s.marks p in' off, f);
    }
sound-seen_by clauses steps s p true false h lt le drawn off at =
    let in' : p < length s.marks = let r : length s.marks ≡ length steps = h.room in omega arith in
    record {
      room = length-set s.marks p Waiting ∙ h.room;
      are_kept = h.are_kept;
      within = h.within;
      reached = h.reached;
      resolved = resolved_each clauses steps s.marks s.premises p in' h.resolved;
      drawn = seen_each (λ k. StandsIn clauses s.premises (falsified steps k)) s.marks p in' h.drawn drawn;
      shallow = seen_each (λ k. (step_at steps k).depth ≤ s.deepest) s.marks p in' h.shallow le;
      sorted = waiting_each (λ k. ((step_at steps k).depth ≡ s.deepest) ⊎ Contains (s.lower ++ p ∷ []) k) s.marks p in'
          (λ k on. elim (h.sorted k on) [ inl e ↦ inl e | inr c ↦ inr (Contains-append_left s.lower (p ∷ []) k c) ]) (inr (Contains-push s.lower p));
      low = All-push (λ k. (is_seen (mark_at (set s.marks p Waiting) k) ≡ true) × ((step_at steps k).depth < s.deepest)) s.lower p
          (All-weaker (λ k. (is_seen (mark_at s.marks k) ≡ true) × ((step_at steps k).depth < s.deepest)) (λ k. (is_seen (mark_at (set s.marks p Waiting) k) ≡ true) × ((step_at steps k).depth < s.deepest))
          (λ k b. (Stays-set s.marks p Waiting in' refl k b.0, b.1)) s.lower h.low)
          (elim (set_cases s.marks p p Waiting in') [ inl (e, is) ↦ ap is_seen is | inr (ne, is) ↦ absurd (ne refl) ], below_where_ne _ _ le at);
      apart = AreApart-push s.lower p h.apart (λ c. not_both (mark_at s.marks p) off (All-contains (λ k. (is_seen (mark_at s.marks k) ≡ true) × ((step_at steps k).depth < s.deepest)) s.lower p h.low c).0);
      few = let f : length s.lower + s.count + _ ≤ length steps = h.few in omega (arith, unseen-seen s.marks p in' off, length_push s.lower p, f);
    }

pub sound-seen : (clauses : List Kept) (steps : List Step) (s : State) (p : ℕ) → IsSound clauses steps s → p < length steps → (step_at steps p).depth ≤ s.deepest
    → StandsIn clauses s.premises (falsified steps p) → IsSound clauses steps (seen steps p s)
sound-seen clauses steps s p h lt le drawn = sound-seen_by clauses steps s p _ _ h lt le drawn refl refl

-- ---- what grew

pub Grew-none : (steps : List Step) (below : ℕ) (s : State) → Grew steps below s s
Grew-none steps below s = record {
  deepest = refl;
  stays = λ k on. refl;
  news = λ k off on. absurd (not_both (mark_at s.marks k) off on);
  more = [];
  lower = sym (append-nil s.lower);
  more_count = omega arith;
  counted = refl;
}

-- a premise changes no mark
pub Grew-premise : (steps : List Step) (below id level : ℕ) (s : State) → Grew steps below s (with_premise id level s)
Grew-premise steps below id level s = record {
  deepest = refl;
  stays = λ k on. refl;
  news = λ k off on. absurd (not_both (mark_at s.marks k) off on);
  more = [];
  lower = sym (append-nil s.lower);
  more_count = omega arith;
  counted = refl;
}

stays_set : (marks : List Mark) (p : ℕ) → p < length marks → is_unseen (mark_at marks p) ≡ true → (k : ℕ) → is_seen (mark_at marks k) ≡ true → mark_at (set marks p Waiting) k ≡ mark_at marks k
stays_set marks p lt off k on = elim (set_cases marks p k Waiting lt) [
  | inl (e, is) ↦ absurd (not_both (mark_at marks p) off (subst (λ j. is_seen (mark_at marks j) ≡ true) e on))
  | inr (ne, is) ↦ is
]

news_set : (marks : List Mark) (p below : ℕ) → p < length marks → p < below → (k : ℕ) → is_unseen (mark_at marks k) ≡ true → is_seen (mark_at (set marks p Waiting) k) ≡ true
    → (k < below) × (is_waiting (mark_at (set marks p Waiting) k) ≡ true)
news_set marks p below lt in' k off on = elim (set_cases marks p k Waiting lt) [
  | inl (e, is) ↦ (subst (λ j. j < below) (sym e) in', ap is_waiting is)
  | inr (ne, is) ↦ absurd (not_both (mark_at marks k) off (sym (ap is_seen is) ∙ on))
]

pub grew-seen_by : (steps : List Step) (below : ℕ) (s : State) (p : ℕ) (u deep : Bool) → p < length s.marks → p < below → is_unseen (mark_at s.marks p) ≡ u → eqb (step_at steps p).depth s.deepest ≡ deep → Grew steps below s (seen_by u deep p s)
grew-seen_by steps below s p false deep lt in' off at = Grew-none steps below s
grew-seen_by steps below s p true true lt in' off at = record {
  deepest = refl;
  stays = stays_set s.marks p lt off;
  news = news_set s.marks p below lt in';
  more = [];
  lower = sym (append-nil s.lower);
  more_count = omega arith;
  counted = omega (arith, pending-seen s.deepest steps s.marks p below in' lt off at);
}
grew-seen_by steps below s p true false lt in' off at = record {
  deepest = refl;
  stays = stays_set s.marks p lt off;
  news = news_set s.marks p below lt in';
  more = p ∷ [];
  lower = refl;
  more_count = omega arith;
  counted = omega (arith, pending-other s.deepest steps s.marks p Waiting below lt at);
}

pub grew-seen : (steps : List Step) (below : ℕ) (s : State) (p : ℕ) → p < length s.marks → p < below → Grew steps below s (seen steps p s)
grew-seen steps below s p lt in' = grew-seen_by steps below s p _ _ lt in' refl refl

pub Grew-both : (steps : List Step) (below : ℕ) (a b c : State) → Grew steps below a b → Grew steps below b c → Grew steps below a c
Grew-both steps below a b c g h = record {
  deepest = h.deepest ∙ g.deepest;
  stays = λ k on. h.stays k (ap is_seen (g.stays k on) ∙ on) ∙ g.stays k on;
  news = λ k off on. elim (unseen_or_seen (mark_at b.marks k)) [
    | inl still ↦ h.news k still on
    | inr now ↦ let n = g.news k off now in (n.0, ap is_waiting (h.stays k now) ∙ n.1)
  ];
  more = g.more ++ h.more;
  lower = h.lower ∙ (ap (λ xs. xs ++ h.more) g.lower ∙ append_assoc a.lower g.more h.more);
  more_count = omega (arith, g.more_count, h.more_count);
  counted =
      let e : pending a.deepest steps c.marks below + b.count ≡ pending a.deepest steps b.marks below + c.count = subst (λ d. pending d steps c.marks below + b.count ≡ pending d steps b.marks below + c.count) g.deepest h.counted in
      omega (arith, g.counted, e);
}

pub grew_stays : (steps : List Step) (below : ℕ) (a b : State) → Grew steps below a b → Stays a.marks b.marks
grew_stays steps below a b g k on = ap is_seen (g.stays k on) ∙ on

-- a seen step's mark shows, whatever it was before
pub at_seen : (steps : List Step) (s : State) (p : ℕ) → p < length s.marks → is_seen (mark_at (seen steps p s).marks p) ≡ true
at_seen steps s p lt = by_case (is_unseen (mark_at s.marks p)) (eqb (step_at steps p).depth s.deepest) refl
  where
    here : is_seen (mark_at (set s.marks p Waiting) p) ≡ true
    here = elim (set_cases s.marks p p Waiting lt) [ inl (e, is) ↦ ap is_seen is | inr (ne, is) ↦ absurd (ne refl) ]

    by_case : (u deep : Bool) → is_unseen (mark_at s.marks p) ≡ u → is_seen (mark_at (seen_by u deep p s).marks p) ≡ true
    by_case false deep off = not_unseen (mark_at s.marks p) off
    by_case true true off = here
    by_case true false off = here

-- ---- a premise is counted

le_max : (a b : ℕ) → (a ≤ max a b) × (b ≤ max a b)
le_max a b = (omega arith, omega arith)

max_cases : (a b : ℕ) → (max a b ≡ a) ⊎ ((max a b ≡ b) × (a < b))
max_cases a b = grind arith

stands-more : (clauses : List Kept) (ids : List ℕ) (id : ℕ) (l : Signed) → StandsIn clauses ids l → StandsIn clauses (ids ++ id ∷ []) l
stands-more clauses ids id l h = record { premise = h.premise; kept = h.kept; among = Contains-append_left ids (id ∷ []) h.premise.id h.among; has = h.has }

resolved-more : (clauses : List Kept) (steps : List Step) (marks : List Mark) (ids : List ℕ) (id k : ℕ) → IsResolvedAt clauses steps marks ids k → IsResolvedAt clauses steps marks (ids ++ id ∷ []) k
resolved-more clauses steps marks ids id k h = record { by = h.by; kept = h.kept; among = Contains-append_left ids (id ∷ []) h.by.id h.among; covers = h.covers }

pub sound-premise : (clauses : List Kept) (steps : List Step) (s : State) (id level : ℕ) → ((b c : Kept) → Contains clauses b → Contains clauses c → b.id ≡ c.id → b ≡ c) → IsSound clauses steps s → HasLevel clauses id level
    → IsSound clauses steps (with_premise id (max s.level level) s)
sound-premise clauses steps s id level own h (c, kept, is_id, at) = record {
  room = h.room;
  are_kept = All-push (λ i. HasKept clauses i (λ ls. Unit {0})) s.premises id h.are_kept (c, kept, is_id, tt);
  within = λ b kb ib. elim (Contains-push_cases s.premises id b.id ib) [
    | inl old ↦ let le : b.level ≤ s.level = h.within b kb old in let m = le_max s.level level in omega (arith, m.0)
    | inr new ↦ let same : c ≡ b = own c b kept kb (is_id ∙ new) in let lv : b.level ≡ level = sym (ap (λ (k : Kept). k.level) same) ∙ at in let m = le_max s.level level in omega (arith, m.1)
  ];
  reached = elim (max_cases s.level level) [
    | inl e ↦ elim h.reached [
      | inl (none, zero') ↦ inr (c, kept, subst (Contains (s.premises ++ id ∷ [])) (sym is_id) (Contains-push s.premises id), (let m = le_max s.level level in omega (arith, m.1)))
      | inr (b, kb, ib, lb) ↦ inr (b, kb, Contains-append_left s.premises (id ∷ []) b.id ib, lb ∙ sym e)
    ]
    | inr (e, lt) ↦ inr (c, kept, subst (Contains (s.premises ++ id ∷ [])) (sym is_id) (Contains-push s.premises id), at ∙ sym e)
  ];
  resolved = λ k on. resolved-more clauses steps s.marks s.premises id k (h.resolved k on);
  drawn = λ k on. stands-more clauses s.premises id (falsified steps k) (h.drawn k on);
  shallow = h.shallow;
  sorted = h.sorted;
  low = h.low;
  apart = h.apart;
  few = h.few;
}

-- ---- a step is resolved

pub sound-resolved : (clauses : List Kept) (steps : List Step) (s : State) (p : ℕ) → IsSound clauses steps s → is_seen (mark_at s.marks p) ≡ true → IsResolvedAt clauses steps s.marks s.premises p
    → IsSound clauses steps (with_mark p Resolved s)
sound-resolved clauses steps s p h on at =
    let lt : p < length s.marks = seen_within s.marks p on in
    let stays : Stays s.marks (set s.marks p Resolved) = Stays-set s.marks p Resolved lt refl in
    let was : (k : ℕ) → is_seen (mark_at (set s.marks p Resolved) k) ≡ true → is_seen (mark_at s.marks k) ≡ true =
    λ k now. elim (set_cases s.marks p k Resolved lt) [ inl (e, is) ↦ subst (λ j. is_seen (mark_at s.marks j) ≡ true) (sym e) on | inr (ne, is) ↦ sym (ap is_seen is) ∙ now ] in
    record {
      room = length-set s.marks p Resolved ∙ h.room;
      are_kept = h.are_kept;
      within = h.within;
      reached = h.reached;
      resolved = λ k now. elim (set_cases s.marks p k Resolved lt) [
        | inl (e, is) ↦ subst (IsResolvedAt clauses steps (set s.marks p Resolved) s.premises) (sym e) (IsResolvedAt-stays clauses steps s.marks (set s.marks p Resolved) s.premises p stays at)
        | inr (ne, is) ↦ IsResolvedAt-stays clauses steps s.marks (set s.marks p Resolved) s.premises k stays (h.resolved k (sym (ap is_resolved is) ∙ now))
      ];
      drawn = λ k now. h.drawn k (was k now);
      shallow = λ k now. h.shallow k (was k now);
      sorted = λ k now. elim (set_cases s.marks p k Resolved lt) [
        | inl (e, is) ↦ let off : false ≡ true = sym (ap is_waiting is) ∙ now in cc
        | inr (ne, is) ↦ h.sorted k (sym (ap is_waiting is) ∙ now)
      ];
      low = All-weaker (λ k. (is_seen (mark_at s.marks k) ≡ true) × ((step_at steps k).depth < s.deepest)) (λ k. (is_seen (mark_at (set s.marks p Resolved) k) ≡ true) × ((step_at steps k).depth < s.deepest))
          (λ k b. (stays k b.0, b.1)) s.lower h.low;
      apart = h.apart;
      few = let f : length s.lower + s.count + _ ≤ length steps = h.few in omega (arith, unseen-resolved s.marks p lt (seen_not_unseen (mark_at s.marks p) on), f);
    }
  where
    seen_not_unseen : (m : Mark) → is_seen m ≡ true → is_unseen m ≡ false
    seen_not_unseen Unseen h = cc
    seen_not_unseen Waiting h = refl
    seen_not_unseen Resolved h = refl
