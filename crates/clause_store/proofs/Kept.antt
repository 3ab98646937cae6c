-- The kept clauses, and steps that they force.
use Rattle.std.proofs.Common.{◌≡◌, ℕ, ◌+◌, ◌-◌, ◌<◌, ◌≤◌, suc, zero, Bool, true, false, List, [], ◌∷◌, ◌++◌, All, Contains, length, get_or, set, take, subst, sym, ap, ◌∙◌, refl, inl, inr, ◌⊎◌, arith, Some, append_assoc, add-zero, zero-add}
use Rattle.std.proofs.lemmas.List.{length_push, take-append-le, get_or_append_left, get_or_push, append-nil, map_push, map-append, get_or-append-add, length-append}
use Rattle.std.proofs.lemmas.List.Elements.{All-push, All-append, All-nil, All-cons, Contains-append_left, Contains-push, Contains-append_right}
use Rattle.std.proofs.Math.Seq.{take-append_seam, take-append-add}
use Rattle.literals.specs.Signed.{Signed}
use Rattle.clause_store.specs.Each.{EachAfter}
use Rattle.clause_store.specs.Trail.{Assigns, literals}
use Rattle.clause_store.specs.declared.trail.Step.{Step}
use Rattle.clause_store.specs.Stored.{Kept, IsFalseOn, IsForced}
use Rattle.clause_store.specs.Found.{HasKept}
use Rattle.clause_store.specs.Entries.{Entry, entry_at}
use Rattle.clause_store.specs.Watching.{kept_of, kept_from, Grows}
use Rattle.clause_store.proofs.Watches.{below_or_at}
use Rattle.clause_store.proofs.Sweeping.{watched}

-- ---- clauses by their places

Contains-head : {X : Type 0} (x : X) (xs : List X) → Contains (x ∷ xs) x
Contains-head x xs = Contains-append_left (x ∷ []) xs x (Contains-push [] x)

Contains-after : {X : Type 0} (x : X) (xs : List X) (y : X) → Contains xs y → Contains (x ∷ xs) y
Contains-after x xs y h = Contains-append_right (x ∷ []) xs y h

no_entry_live : false ≡ true → ⊥
no_entry_live e = cc

one_more : (n i : ℕ) → n + 1 + i ≡ n + suc i
one_more n i = omega arith

by_live : (n : ℕ) (e : Entry) (es es' : List Entry) (b : Bool) → e.live ≡ b → kept_from (n + 1) es' ≡ kept_from (n + 1) es → kept_from n (e ∷ es') ≡ kept_from n (e ∷ es)
by_live n e es es' true is h = rw is (ap (λ (cs : List Kept). kept_of n e ∷ cs) h)
by_live n e es es' false is h = rw is h

below_or_past : (a b : ℕ) → (a < b) ⊎ (b ≤ a)
below_or_past a b = grind arith

kept_from-cons : (n : ℕ) (e : Entry) (es : List Entry) (c : Kept) (b : Bool) → e.live ≡ b → Contains (kept_from (n + 1) es) c → Contains (kept_from n (e ∷ es)) c
kept_from-cons n e es c true is h = rw is (Contains-after (kept_of n e) (kept_from (n + 1) es) c h)
kept_from-cons n e es c false is h = rw is h

pub kept_in : (n : ℕ) (es : List Entry) (i : ℕ) → (entry_at es i).live ≡ true → Contains (kept_from n es) (kept_of (n + i) (entry_at es i))
kept_in n [] i live = absurd (no_entry_live live)
kept_in n (e ∷ es) zero live = rw (live, add-zero) (Contains-head (kept_of n e) (kept_from (n + 1) es))
kept_in n (e ∷ es) (suc i) live =
    kept_from-cons n e es (kept_of (n + suc i) (entry_at es i)) e.live refl
    (subst (λ m. Contains (kept_from (n + 1) es) (kept_of m (entry_at es i))) (one_more n i) (kept_in (n + 1) es i live))

-- watching other literals changes no clause
pub kept_from-watched : (n : ℕ) (es : List Entry) (i : ℕ) (a b : Signed) → i < length es → kept_from n (set es i (watched (entry_at es i) a b)) ≡ kept_from n es
kept_from-watched n [] i a b lt = absurd (omega (arith, lt))
kept_from-watched n (e ∷ es) zero a b lt = refl
kept_from-watched n (e ∷ es) (suc i) a b lt = by_live n e es (set es i (watched (entry_at es i) a b)) e.live refl (kept_from-watched (n + 1) es i a b (omega (arith, lt)))

-- ---- steps

pub Assigns-append : (steps more : List Step) (l : Signed) → Assigns steps l → Assigns (steps ++ more) l
Assigns-append steps more l h = rw (map-append (λ (s : Step). s.literal) steps more) (Contains-append_left (literals steps) (literals more) l h)

pub Assigns-push : (steps : List Step) (s : Step) (l : Signed) → Assigns steps l → Assigns (steps ++ s ∷ []) l
Assigns-push steps s l h = Assigns-append steps (s ∷ []) l h

pub Assigns-new : (steps : List Step) (s : Step) → Assigns (steps ++ s ∷ []) s.literal
Assigns-new steps s = rw (map_push (λ (s : Step). s.literal) steps s) (Contains-push (literals steps) s.literal)

pub EachAfter-push : {X : Type 0} (P : List X → X → Type 0) (xs : List X) (x : X) → EachAfter P xs → P xs x → EachAfter P (xs ++ x ∷ [])
EachAfter-push {X} P xs x each last k d h =
    elim (below_or_at k (length xs) (omega (arith, length_push xs x))) [
      | inl lt ↦ rw (take-append-le k xs (x ∷ []) (omega arith), get_or_append_left xs (x ∷ []) d k lt) (each k d lt)
      | inr e ↦ subst (λ n. P (take n (xs ++ x ∷ [])) (get_or (xs ++ x ∷ []) n d)) (sym e) (rw (take-append_seam xs (x ∷ []), get_or_push xs x d (length xs) refl) last)
    ]

pub Grows-none : (clauses : List Kept) (depth : ℕ) (steps : List Step) → Grows clauses depth steps steps
Grows-none clauses depth steps = record {
  added = [];
  gains = sym (append-nil steps);
  reached = record { forced = λ k d h. absurd (omega (arith, h)); at_depth = λ k d h. absurd (omega (arith, h)) };
}

pub Grows-push : (clauses : List Kept) (depth : ℕ) (old mid : List Step) (s : Step) → Grows clauses depth old mid → IsForced clauses mid s → s.depth ≡ depth → Grows clauses depth old (mid ++ s ∷ [])
Grows-push clauses depth old mid s h f deep = record {
  added = h.added ++ s ∷ [];
  gains = ap (λ xs. xs ++ s ∷ []) h.gains ∙ append_assoc old h.added (s ∷ []);
  reached = record {
    forced = EachAfter-push (λ before t. IsForced clauses (old ++ before) t) h.added s h.reached.forced (subst (λ xs. IsForced clauses xs s) h.gains f);
    at_depth = All-push (λ (t : Step). t.depth ≡ depth) h.added s h.reached.at_depth deep;
  };
}

pub Grows-assigns : (clauses : List Kept) (depth : ℕ) (old new : List Step) (l : Signed) → Grows clauses depth old new → Assigns old l → Assigns new l
Grows-assigns clauses depth old new l h a = subst (λ xs. Assigns xs l) (sym h.gains) (Assigns-append old h.added l a)

-- a live clause forces its one literal that isn't false
pub forced_by : (es : List Entry) (row : ℕ) (steps : List Step) (s : Step) → (entry_at es row).live ≡ true → s.reason ≡ Some row → Contains (entry_at es row).literals s.literal
    → All (λ m. (m ≡ s.literal) ⊎ IsFalseOn steps m) (entry_at es row).literals → IsForced (kept_from 0 es) steps s
forced_by es row steps s live reason contained rest = record {
  by = kept_of row (entry_at es row);
  kept = subst (λ n. Contains (kept_from 0 es) (kept_of n (entry_at es row))) (zero-add row) (kept_in 0 es row live);
  reason = reason;
  unit = (contained, rest);
}

pub EachAfter-append : {X : Type 0} (P : List X → X → Type 0) (xs ys : List X) → EachAfter P xs → EachAfter (λ before y. P (xs ++ before) y) ys → EachAfter P (xs ++ ys)
EachAfter-append {X} P xs ys hx hy k d h = elim (below_or_past k (length xs)) [
  | inl lt ↦ rw (take-append-le k xs ys (omega arith), get_or_append_left xs ys d k lt) (hx k d lt)
  | inr past ↦
      let e : length xs + (k - length xs) ≡ k = omega arith in
      subst (λ n. P (take n (xs ++ ys)) (get_or (xs ++ ys) n d)) e
      (rw (take-append-add xs ys (k - length xs), get_or-append-add xs ys (k - length xs) d) (hy (k - length xs) d (omega (arith, length-append xs ys))))
]

pub Grows-trans : (clauses clauses' : List Kept) (depth : ℕ) (a b c : List Step) → clauses' ≡ clauses → Grows clauses depth a b → Grows clauses' depth b c → Grows clauses depth a c
Grows-trans clauses clauses' depth a b c e h k' =
    let k : Grows clauses depth b c = subst (λ cs. Grows cs depth b c) e k' in
    record {
      added = h.added ++ k.added;
      gains = k.gains ∙ (ap (λ xs. xs ++ k.added) h.gains ∙ append_assoc a h.added k.added);
      reached = record {
        forced = EachAfter-append (λ before s. IsForced clauses (a ++ before) s) h.added k.added h.reached.forced
            (λ n d lt. subst (λ xs. IsForced clauses xs (get_or k.added n d)) (ap (λ xs. xs ++ take n k.added) h.gains ∙ append_assoc a h.added (take n k.added)) (k.reached.forced n d lt));
        at_depth = All-append (λ (t : Step). t.depth ≡ depth) h.added k.added h.reached.at_depth k.reached.at_depth;
      };
    }

all_by : (P : List Signed → Type 0) (n : ℕ) (e : Entry) (es : List Entry) (b : Bool) → e.live ≡ b → (e.live ≡ true → P e.literals) → All (λ (c : Kept). P c.literals) (kept_from (n + 1) es) → All (λ (c : Kept). P c.literals) (kept_from n (e ∷ es))
all_by P n e es true is h rest = rw is (All-cons (λ (c : Kept). P c.literals) (kept_of n e) (kept_from (n + 1) es) (h is) rest)
all_by P n e es false is h rest = rw is rest

-- what holds of each live clause holds of the kept ones
pub All-kept : (P : List Signed → Type 0) (n : ℕ) (es : List Entry) → ((i : ℕ) → (entry_at es i).live ≡ true → P (entry_at es i).literals) → All (λ (c : Kept). P c.literals) (kept_from n es)
All-kept P n [] h = All-nil (λ (c : Kept). P c.literals)
All-kept P n (e ∷ es) h = all_by P n e es e.live refl (h zero) (All-kept P (n + 1) es (λ i live. h (suc i) live))

pub has_kept : (P : List Signed → Type 0) (es : List Entry) (row : ℕ) → (entry_at es row).live ≡ true → P (entry_at es row).literals → HasKept (kept_from 0 es) row P
has_kept P es row live p =
    (kept_of row (entry_at es row), subst (λ n. Contains (kept_from 0 es) (kept_of n (entry_at es row))) (zero-add row) (kept_in 0 es row live), refl, p)
