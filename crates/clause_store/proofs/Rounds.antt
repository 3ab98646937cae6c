-- One round of going through a literal's watches.
use Rattle.std.proofs.Common.{◌≡◌, ℕ, ◌+◌, ◌*◌, ◌<◌, ◌≤◌, Bool, true, false, List, [], ◌∷◌, ◌++◌, Contains, length, get_or, set, subst, sym, ap, ◌∙◌, refl, inl, inr, ◌⊎◌, arith, Some}
use Rattle.std.specs.List.{swap_remove}
use Rattle.std.proofs.lemmas.List.{length-set, get_or-set_same}
use Rattle.std.proofs.lemmas.List.Elements.{All-get_or, All-contains}
use Rattle.literals.specs.Signed.{Signed, opposite, packed}
use Rattle.clause_store.specs.Trail.{Assigns}
use Rattle.clause_store.specs.declared.trail.Step.{Step}
use Rattle.clause_store.specs.Stored.{IsFalseOn, IsForced}
use Rattle.clause_store.specs.Entries.{Entry, entry_at, watches_of, IsKnown, IsOther}
use Rattle.clause_store.specs.Visits.{Parts, Moves, IsConflict, VisitGives}
use Rattle.clause_store.specs.Watching.{IsSettled, IsSound, IsWatching, Covers, Grows, kept_from, no_watch}
use Rattle.clause_store.specs.Sweeps.{State, Sweeps, Meets, watching}
use Rattle.clause_store.proofs.Watches.{opposite-injective, IsListed-set, IsListed-next, IsListed-from, IsListed-removed}
use Rattle.clause_store.proofs.Sweeping.{entry_at-other, live_within, IsSettled-other, Covers-step, watched_of, pair_lists, watched, SameShape-none, SameShape-trans, SameShape-watched}
use Rattle.clause_store.proofs.Kept.{Grows-none, Grows-push, Grows-assigns, forced_by, kept_from-watched, Assigns-push, Assigns-new}
use Rattle.clause_store.specs.declared.lists.Watch.{Watch}
use Rattle.clause_store.specs.declared.sweep.Visit.TheVariants.{Keep, Gone, False}
use Rattle.clause_store.proofs.Relisting.{sound_own, at_place, keep_watch, drop_watch, Moved, move_watch}

pub Sweeps-start : (atoms depth : ℕ) (f : Signed) (s : State) → watching atoms f s → Sweeps atoms depth f s s 0
Sweeps-start atoms depth f s w = record {
  watch = w;
  covers = λ g h. h;
  grows = Grows-none (kept_from 0 s.entries) depth s.steps;
  clauses = refl;
  length_lists = refl;
  shape = SameShape-none s.entries;
}

-- ---- the watch stays, and its clause has a true literal

pub Sweeps-keep : (atoms depth : ℕ) (f : Signed) (old : State) (es : List Entry) (lists : List (List Watch)) (steps steps' : List Step) (ws : List Watch) (k : ℕ) (w : Watch) (b : Signed)
    → Sweeps atoms depth f old (record { entries = es; lists = lists; steps = steps; list = ws }) k → k < length ws → w ≡ get_or ws k w → packed f < length lists
    → Grows (kept_from 0 old.entries) depth old.steps steps' → ((l : Signed) → Assigns steps l → Assigns steps' l)
    → b.atom < atoms → ((entry_at es w.row).live ≡ true → Contains (entry_at es w.row).literals b) → Assigns steps' b
    → let v : Watch = record { blocker = b; row = w.row } in Sweeps atoms depth f old (record { entries = es; lists = lists; steps = steps'; list = set ws k v }) (k + 1)
Sweeps-keep atoms depth f old es lists steps steps' ws k w b h lt is place grows more known contained on =
    let v : Watch = record { blocker = b; row = w.row } in
    let here : w ≡ get_or ws k no_watch = at_place ws k w lt is in
    let row_here : v.row ≡ (get_or ws k no_watch).row = ap (λ (x : Watch). x.row) here in
    record {
      watch = keep_watch atoms f es lists steps ws k w b h.watch lt is place known contained;
      covers = λ g c. Covers-step g f es es steps steps' ws (set ws k v) k (k + 1) w.row (h.covers g c) more (λ i ne. refl) refl
          (λ live. inl (record { literal = b; contained = contained live; assigned = on }))
          (λ u cu x. x)
          (λ i ne l. IsListed-next (set ws k v) k i
          (λ e. ne (sym e ∙ ap (λ (x : Watch). x.row) (get_or-set_same ws k v no_watch lt)))
          (IsListed-set ws k k i v lt row_here l));
      grows = grows;
      clauses = h.clauses;
      length_lists = h.length_lists;
      shape = h.shape;
    }

-- ---- other watched literals

-- a clause settled on some steps is so with a literal that isn't false there in place of one
pub awake_on : (f : Signed) (seen steps : List Step) (e : Entry) (kept found : Signed) → (e.first ≡ kept) ⊎ (e.second ≡ kept) → (found ≡ kept → ⊥) → (IsFalseOn seen found → ⊥)
    → IsSettled seen steps e → IsSettled seen steps (watched e kept found)
awake_on f seen steps e kept found is_kept apart not_false (inl s) = inl s
awake_on f seen steps e kept found (inl first) apart not_false (inr a) = inr (record { apart = λ x. apart (sym x); first = λ x. a.first (subst (IsFalseOn seen) (sym first) x); second = not_false })
awake_on f seen steps e kept found (inr second) apart not_false (inr a) = inr (record { apart = λ x. apart (sym x); first = λ x. a.second (subst (IsFalseOn seen) (sym second) x); second = not_false })

-- so it is after the literal that became false
pub awake_after : (f : Signed) (seen after steps : List Step) (e : Entry) (kept found : Signed) → IsOther e f kept → (kept ≡ f → ⊥) → (found ≡ kept → ⊥) → (IsFalseOn after found → ⊥)
    → ((l : Signed) → Assigns after l → Assigns seen l ⊎ (l ≡ opposite f)) → IsSettled seen steps e → IsSettled after steps (watched e kept found)
awake_after f seen after steps e kept found other kept_f apart not_false new (inl s) = inl s
awake_after f seen after steps e kept found other kept_f apart not_false new (inr a) = inr (record {
  apart = λ x. apart (sym x);
  first = λ x. elim (new (opposite kept) x) [
    | inl was ↦ elim other.pair [ inl p ↦ a.second (subst (IsFalseOn seen) (sym p.1) was) | inr p ↦ a.first (subst (IsFalseOn seen) (sym p.1) was) ]
    | inr same ↦ kept_f (opposite-injective kept f same)
  ];
  second = not_false;
})

-- ---- the watch goes

-- of a clause that this literal doesn't watch
pub Sweeps-stale : (atoms depth : ℕ) (f : Signed) (old : State) (es : List Entry) (lists : List (List Watch)) (steps : List Step) (ws : List Watch) (k : ℕ) (w : Watch)
    → Sweeps atoms depth f old (record { entries = es; lists = lists; steps = steps; list = ws }) k → k < length ws → w ≡ get_or ws k w → packed f < length lists
    → ((entry_at es w.row).live ≡ true → ((entry_at es w.row).first ≡ f → ⊥) × ((entry_at es w.row).second ≡ f → ⊥))
    → Sweeps atoms depth f old (record { entries = es; lists = lists; steps = steps; list = swap_remove ws k w }) k
Sweeps-stale atoms depth f old es lists steps ws k w h lt is place not_own =
    let here : w ≡ get_or ws k no_watch = at_place ws k w lt is in
    let row_is : (get_or ws k no_watch).row ≡ w.row = ap (λ (x : Watch). x.row) (sym here) in
    record {
      watch = drop_watch atoms f es lists steps ws k w h.watch lt is place not_own;
      covers = λ g c.
          let cs : Covers g f es steps ws k = h.covers g c in
          Covers-step g f es es steps steps ws (swap_remove ws k w) k k w.row cs (λ l a. a) (λ i ne. refl) refl
          (λ live. elim (cs.current w.row live) [
            | inl done ↦ done
            | inr left ↦ IsSettled-other f g.seen g.after steps (entry_at es w.row) cs.after_new (not_own live).0 (not_own live).1 left.0
          ])
          (λ u cu x. x)
          (λ i ne l. IsListed-removed ws k k i w lt (omega arith) (λ e. ne (sym e ∙ row_is)) l);
      grows = h.grows;
      clauses = h.clauses;
      length_lists = h.length_lists;
      shape = h.shape;
    }

-- of a clause that another literal watches from now on
pub Sweeps-move : (atoms depth : ℕ) (f : Signed) (old : State) (es : List Entry) (lists : List (List Watch)) (steps : List Step) (ws : List Watch) (k : ℕ) (w : Watch) (kept found : Signed)
    → Sweeps atoms depth f old (record { entries = es; lists = lists; steps = steps; list = ws }) k → k < length ws → w ≡ get_or ws k w → packed f < length lists
    → IsFalseOn steps f → (entry_at es w.row).live ≡ true → IsOther (entry_at es w.row) f kept
    → (found ≡ kept → ⊥) → Contains (entry_at es w.row).literals found → (IsFalseOn steps found → ⊥) → packed found < length lists
    → let more : Watch = record { blocker = kept; row = w.row } in
    Sweeps atoms depth f old (record { entries = set es w.row (watched (entry_at es w.row) kept found); lists = set lists (packed found) (watches_of lists found ++ more ∷ []); steps = steps; list = swap_remove ws k w }) k
Sweeps-move atoms depth f old es lists steps ws k w kept found h lt is place is_false live other apart contained not_false place_found =
    let more : Watch = record { blocker = kept; row = w.row } in
    let e = entry_at es w.row in
    let here : w ≡ get_or ws k no_watch = at_place ws k w lt is in
    let row_is : (get_or ws k no_watch).row ≡ w.row = ap (λ (x : Watch). x.row) (sym here) in
    let found_f : found ≡ f → ⊥ = λ x. not_false (subst (IsFalseOn steps) (sym x) is_false) in
    let es' : List Entry = set es w.row (watched e kept found) in
    let within : w.row < length es = live_within es w.row live in
    let is_kept : (e.first ≡ kept) ⊎ (e.second ≡ kept) = elim other.pair [ inl p ↦ inr p.1 | inr p ↦ inl p.1 ] in
    let m : Moved atoms f es lists steps ws k w kept found = move_watch atoms f es lists steps ws k w kept found h.watch lt is place live other apart found_f contained place_found in
    record {
      watch = m.watch;
      covers = λ g c.
          let cs : Covers g f es steps ws k = h.covers g c in
          Covers-step g f es es' steps steps ws (swap_remove ws k w) k k w.row cs (λ l a. a) (λ i ne. entry_at-other es w.row i (watched e kept found) ne)
          (ap (λ (x : Entry). x.live) m.changed)
          (λ l. rw m.changed (elim (cs.current w.row live) [
            | inl done ↦ awake_on f g.after steps e kept found is_kept apart (λ x. not_false (cs.after_on (opposite found) x)) done
            | inr left ↦ awake_after f g.seen g.after steps e kept found other m.kept_f apart (λ x. not_false (cs.after_on (opposite found) x)) cs.after_new left.0
          ]))
          (λ v cv x. rw m.changed (awake_on f v.seen v.steps e kept found is_kept apart (λ y. not_false (cs.views_on v cv (opposite found) y)) x))
          (λ i ne l. IsListed-removed ws k k i w lt (omega arith) (λ x. ne (sym x ∙ row_is)) l);
      grows = h.grows;
      clauses = kept_from-watched 0 es w.row kept found within ∙ h.clauses;
      length_lists = length-set lists (packed found) (watches_of lists found ++ more ∷ []) ∙ h.length_lists;
      shape = SameShape-trans old.entries es es' h.shape (SameShape-watched es w.row kept found within);
    }

-- ---- a round, by what the look gives

abbrev pub with_list : Parts → List Watch → State
with_list p ws = record { entries = p.entries; lists = p.lists; steps = p.steps; list = ws }

pub sound_at : (atoms : ℕ) (f : Signed) (s : State) (k : ℕ) (w : Watch) → packed f < length s.lists → watching atoms f s → k < length s.list → w ≡ get_or s.list k w → IsSound atoms s.entries w
sound_at atoms f s k w place h lt is = subst (IsSound atoms s.entries) (sym (at_place s.list k w lt is)) (All-get_or (IsSound atoms s.entries) s.list k no_watch lt (sound_own atoms f s place (watched_of atoms s.entries (set s.lists (packed f) s.list) h)))

pub known_at : (atoms : ℕ) (f : Signed) (s : State) (k : ℕ) (w : Watch) → packed f < length s.lists → watching atoms f s → k < length s.list → w ≡ get_or s.list k w → (entry_at s.entries w.row).live ≡ true → IsKnown atoms (entry_at s.entries w.row)
known_at atoms f s k w place h lt is live = h.known w.row live

pub other_in : (atoms : ℕ) (es : List Entry) (lists : List (List Watch)) (row : ℕ) (f o : Signed) → IsWatching atoms es lists → (entry_at es row).live ≡ true → IsOther (entry_at es row) f o → Contains (entry_at es row).literals o
other_in atoms es lists row f o h live other = (pair_lists atoms es lists row o (watched_of atoms es lists h) live (elim other.pair [ inl p ↦ inr p.1 | inr p ↦ inl p.1 ])).0

keep_gone : (b : Signed) → Keep b ≡ Gone → ⊥
keep_gone b e = cc

false_gone : False ≡ Gone → ⊥
false_gone e = cc

by_sign : (a : ℕ) (b : Bool) (atoms n : ℕ) → a < atoms → 2 * atoms ≤ n → let l : Signed = record { atom = a; positive = b } in packed l < n
by_sign a true atoms n lt le = omega arith
by_sign a false atoms n lt le = omega arith

code_within : (l : Signed) (atoms n : ℕ) → l.atom < atoms → 2 * atoms ≤ n → packed l < n
code_within l atoms n lt le = by_sign l.atom l.positive atoms n lt le

at_moved : (atoms depth : ℕ) (f : Signed) (old : State) (p' : Parts) (es : List Entry) (lists : List (List Watch)) (steps : List Step) (ws : List Watch) (k : ℕ) → p'.entries ≡ es → p'.lists ≡ lists → p'.steps ≡ steps
    → Sweeps atoms depth f old (record { entries = es; lists = lists; steps = steps; list = ws }) k → Sweeps atoms depth f old (with_list p' ws) k
at_moved atoms depth f old p' es lists steps ws k e l s h =
    subst (λ x. Sweeps atoms depth f old (record { entries = x; lists = p'.lists; steps = p'.steps; list = ws }) k) (sym e)
    (subst (λ x. Sweeps atoms depth f old (record { entries = es; lists = x; steps = p'.steps; list = ws }) k) (sym l)
    (subst (λ x. Sweeps atoms depth f old (record { entries = es; lists = lists; steps = x; list = ws }) k) (sym s) h))

at_parts : (atoms depth : ℕ) (f : Signed) (old : State) (p p' : Parts) (steps : List Step) (ws : List Watch) (k : ℕ) → p'.entries ≡ p.entries → p'.lists ≡ p.lists → p'.steps ≡ steps
    → Sweeps atoms depth f old (record { entries = p.entries; lists = p.lists; steps = steps; list = ws }) k → Sweeps atoms depth f old (with_list p' ws) k
at_parts atoms depth f old p p' steps ws k e l s h = at_moved atoms depth f old p' p.entries p.lists steps ws k e l s h

pub Round-keep : (atoms depth : ℕ) (f : Signed) (old : State) (p p' : Parts) (ws : List Watch) (k : ℕ) (w : Watch) (b : Signed)
    → Sweeps atoms depth f old (with_list p ws) k → k < length ws → w ≡ get_or ws k w → packed f < length p.lists → VisitGives f w depth p p' (Keep b)
    → let v : Watch = record { blocker = b; row = w.row } in Sweeps atoms depth f old (with_list p' (set ws k v)) (k + 1)
Round-keep atoms depth f old p p' ws k w b h lt is place (inl blocked) =
    let v : Watch = record { blocker = b; row = w.row } in
    let s : IsSound atoms p.entries w = sound_at atoms f (with_list p ws) k w place h.watch lt is in
    subst (λ q. Sweeps atoms depth f old (with_list q (set ws k v)) (k + 1)) (sym blocked.1.same)
    (Sweeps-keep atoms depth f old p.entries p.lists p.steps p.steps ws k w b h lt is place h.grows (λ l a. a)
    (subst (λ (x : Signed). x.atom < atoms) (sym blocked.0) s.known) (λ live. subst (Contains (entry_at p.entries w.row).literals) (sym blocked.0) (s.blocker live)) blocked.1.is_true)
Round-keep atoms depth f old p p' ws k w b h lt is place (inr (inl stale)) = absurd (keep_gone b stale.gone)
Round-keep atoms depth f old p p' ws k w b h lt is place (inr (inr st)) =
    let v : Watch = record { blocker = b; row = w.row } in
    let other : IsOther (entry_at p.entries w.row) f b = subst (IsOther (entry_at p.entries w.row) f) (sym st.gives.0) st.is_other in
    let contained : Contains (entry_at p.entries w.row).literals b = other_in atoms p.entries (set p.lists (packed f) ws) w.row f b h.watch st.live other in
    let known : b.atom < atoms = All-contains (λ (m : Signed). m.atom < atoms) (entry_at p.entries w.row).literals b (known_at atoms f (with_list p ws) k w place h.watch lt is st.live).literals contained in
    elim st.gives.1 [
      | inl stays ↦ subst (λ q. Sweeps atoms depth f old (with_list q (set ws k v)) (k + 1)) (sym stays.same)
          (Sweeps-keep atoms depth f old p.entries p.lists p.steps p.steps ws k w b h lt is place h.grows (λ l a. a) known (λ live. contained) stays.is_true)
      | inr forced ↦
          let s : Step = record { literal = b; depth = depth; reason = Some w.row } in
          let by : Grows (kept_from 0 old.entries) depth old.steps (p.steps ++ s ∷ []) =
          Grows-push (kept_from 0 old.entries) depth old.steps p.steps s h.grows
          (subst (λ cs. IsForced cs p.steps s) h.clauses (forced_by p.entries w.row p.steps s st.live refl contained forced.rest)) refl in
          let done : Sweeps atoms depth f old (record { entries = p.entries; lists = p.lists; steps = p.steps ++ s ∷ []; list = set ws k v }) (k + 1) =
          Sweeps-keep atoms depth f old p.entries p.lists p.steps (p.steps ++ s ∷ []) ws k w b h lt is place by (Assigns-push p.steps s) known (λ live. contained) (Assigns-new p.steps s) in
          at_parts atoms depth f old p p' (p.steps ++ s ∷ []) (set ws k v) (k + 1) forced.entries forced.lists forced.steps done
    ]

pub Round-gone : (atoms depth : ℕ) (f : Signed) (old : State) (p p' : Parts) (ws : List Watch) (k : ℕ) (w : Watch)
    → Sweeps atoms depth f old (with_list p ws) k → k < length ws → w ≡ get_or ws k w → packed f < length p.lists → IsFalseOn old.steps f → VisitGives f w depth p p' Gone
    → Sweeps atoms depth f old (with_list p' (swap_remove ws k w)) k
Round-gone atoms depth f old p p' ws k w h lt is place false_then (inl blocked) = absurd blocked
Round-gone atoms depth f old p p' ws k w h lt is place false_then (inr (inl stale)) =
    subst (λ q. Sweeps atoms depth f old (with_list q (swap_remove ws k w)) k) (sym stale.same)
    (Sweeps-stale atoms depth f old p.entries p.lists p.steps ws k w h lt is place stale.unless_dead)
Round-gone atoms depth f old p p' ws k w h lt is place false_then (inr (inr st)) =
    let m : Moves st.other w.row p p' = st.gives in
    let more : Watch = record { blocker = st.other; row = w.row } in
    let is_false : IsFalseOn p.steps f = Grows-assigns (kept_from 0 old.entries) depth old.steps p.steps (opposite f) h.grows false_then in
    let known : IsKnown atoms (entry_at p.entries w.row) = known_at atoms f (with_list p ws) k w place h.watch lt is st.live in
    let atom : m.found.atom < atoms = All-contains (λ (x : Signed). x.atom < atoms) (entry_at p.entries w.row).literals m.found known.literals m.contained in
    let room : 2 * atoms ≤ length (set p.lists (packed f) ws) = h.watch.room in
    let here : packed m.found < length p.lists = code_within m.found atoms (length p.lists) atom (omega (arith, length-set p.lists (packed f) ws)) in
    let done = Sweeps-move atoms depth f old p.entries p.lists p.steps ws k w st.other m.found h lt is place is_false st.live st.is_other m.apart m.contained m.not_false here in
    at_moved atoms depth f old p' (set p.entries w.row (watched (entry_at p.entries w.row) st.other m.found)) (set p.lists (packed m.found) (watches_of p.lists m.found ++ more ∷ [])) p.steps (swap_remove ws k w) k m.entries m.lists m.steps done

pub Round-false : (atoms depth : ℕ) (f : Signed) (old : State) (p p' : Parts) (ws : List Watch) (k : ℕ) (w : Watch)
    → Sweeps atoms depth f old (with_list p ws) k → VisitGives f w depth p p' False → Meets atoms depth f old (with_list p' ws) w.row
Round-false atoms depth f old p p' ws k w h (inl blocked) = absurd blocked
Round-false atoms depth f old p p' ws k w h (inr (inl stale)) = absurd (false_gone stale.gone)
Round-false atoms depth f old p p' ws k w h (inr (inr st)) =
    let m : IsConflict w.row p p' = st.gives in
    subst (λ q. Meets atoms depth f old (with_list q ws) w.row) (sym m.same) (record { place = k; sweeps = h; live = st.live; all_false = m.all_false })

-- past the end of the list nothing is left
pub Sweeps-end : (atoms depth : ℕ) (f : Signed) (old s : State) (k : ℕ) → length s.list ≤ k → Sweeps atoms depth f old s k → Sweeps atoms depth f old s (length s.list)
Sweeps-end atoms depth f old s k le h = record {
  watch = h.watch;
  covers = λ g c.
      let cs : Covers g f s.entries s.steps s.list k = h.covers g c in
      record {
        after_on = cs.after_on;
        after_new = cs.after_new;
        views_on = cs.views_on;
        current = λ i live. elim (cs.current i live) [ inl done ↦ inl done | inr left ↦ inr (left.0, IsListed-from s.list (length s.list) k i le left.1) ];
        lower = cs.lower;
      };
  grows = h.grows;
  clauses = h.clauses;
  length_lists = h.length_lists;
  shape = h.shape;
}
