-- One round of going through a literal's watches at a lower depth.
use Rattle.std.proofs.Common.{◌≡◌, ℕ, ◌+◌, ◌*◌, ◌<◌, ◌≤◌, true, false, List, [], ◌∷◌, ◌++◌, All, Contains, length, get_or, set, subst, sym, ap, ◌∙◌, refl, inl, inr, ◌⊎◌, arith}
use Rattle.std.specs.List.{swap_remove}
use Rattle.std.proofs.lemmas.List.{length-set, get_or-set_same}
use Rattle.std.proofs.lemmas.List.Elements.{All-get_or, All-contains, All-weaker}
use Rattle.literals.specs.Signed.{Signed, opposite, packed}
use Rattle.clause_store.specs.declared.trail.Step.{Step}
use Rattle.clause_store.specs.Stored.{IsFalseOn}
use Rattle.clause_store.specs.Entries.{Entry, entry_at, watches_of, IsKnown, IsOther}
use Rattle.clause_store.specs.Visits.{Parts, Moves}
use Rattle.clause_store.specs.Watching.{IsOwn, Grows, SameShape, kept_from, no_watch}
use Rattle.clause_store.specs.Sweeps.{State, watching}
use Rattle.clause_store.specs.Rested.{IsWaiting, Waits}
use Rattle.clause_store.specs.Late.{IsCovered, IsReady, LateCovers, Pins, Shifts, LatePins, LateMoves, LateGives, LateSweeps, LateMeets}
use Rattle.clause_store.specs.declared.lists.Watch.{Watch}
use Rattle.clause_store.specs.declared.waits.Wait.{Wait}
use Rattle.clause_store.specs.declared.sweep.Visit.TheVariants.{Keep, Gone, False}
use Rattle.clause_store.proofs.Watches.{IsListed-set, IsListed-next, IsListed-from, IsListed-removed}
use Rattle.clause_store.proofs.Sweeping.{entry_at-other, live_within, watched, SameShape-none, SameShape-trans, SameShape-watched}
use Rattle.clause_store.proofs.Tidy.{own_in}
use Rattle.clause_store.proofs.Kept.{Grows-none, Grows-trans, Grows-assigns, kept_from-watched}
use Rattle.clause_store.proofs.Rounds.{with_list, known_at, other_in}
use Rattle.clause_store.proofs.Turning.{code_within}
use Rattle.clause_store.proofs.LateDepths.{Late-step, pinned-waits, pins-grow, ready-pinned, ready-shaped, keeps-pinned, pinned-covered, moved-covered}
use Rattle.clause_store.proofs.Relisting.{keep_watch, drop_watch, Moved, move_watch, at_place}

pub Late-none : (atoms depth : ℕ) (f : Signed) (s : State) (ws : List Wait) → watching atoms f s → IsReady s.entries s.steps depth ws → LateSweeps atoms depth f s s ws ws 0
Late-none atoms depth f s ws w ready = record {
  watch = w;
  covers = λ head h. h;
  ready = ready;
  grows = Grows-none (kept_from 0 s.entries) depth s.steps;
  clauses = refl;
  length_lists = refl;
  shape = SameShape-none s.entries;
}

-- past the end of the list nothing is left
pub Late-end : (atoms depth : ℕ) (f : Signed) (old s : State) (us ws : List Wait) (k : ℕ) → length s.list ≤ k → LateSweeps atoms depth f old s us ws k → LateSweeps atoms depth f old s us ws (length s.list)
Late-end atoms depth f old s us ws k le h = record {
  watch = h.watch;
  covers = λ head c.
      let cs : LateCovers head f s.entries s.steps s.list k ws = h.covers head c in
      record { within = cs.within; next = cs.next; each = λ i live. elim (cs.each i live) [ inl done ↦ inl done | inr left ↦ inr (left.0, IsListed-from s.list (length s.list) k i le left.1) ] };
  ready = h.ready;
  grows = h.grows;
  clauses = h.clauses;
  length_lists = h.length_lists;
  shape = h.shape;
}

pub own_at : (atoms : ℕ) (f : Signed) (s : State) (k : ℕ) (w : Watch) → packed f < length s.lists → watching atoms f s → k < length s.list → w ≡ get_or s.list k w → ((entry_at s.entries w.row).first ≡ f) ⊎ ((entry_at s.entries w.row).second ≡ f)
own_at atoms f s k w place h lt is =
    (subst (IsOwn s.entries f) (sym (at_place s.list k w lt is)) (All-get_or (IsOwn s.entries f) s.list k no_watch lt (own_in s.entries s.lists f s.list place h.tidy))).pair

-- ---- rounds

pub Late-keep : (atoms depth : ℕ) (f : Signed) (old : State) (p p' : Parts) (us ws ws' : List Wait) (list : List Watch) (k : ℕ) (w : Watch) (b : Signed) → LateSweeps atoms depth f old (with_list p list) us ws k → k < length list → w ≡ get_or list k w → packed f < length p.lists
    → LateGives f w.row depth p p' ws ws' (Keep b) → let v : Watch = record { blocker = b; row = w.row } in LateSweeps atoms depth f old (with_list p' (set list k v)) us ws' (k + 1)
Late-keep atoms depth f old p p' us ws ws' list k w b h lt is place g =
    let v : Watch = record { blocker = b; row = w.row } in
    let x : Wait = record { row = w.row; literal = g.other; depth = g.from } in
    let e = entry_at p.entries w.row in
    let pins : Pins x depth p.steps p'.steps ws ws' = g.gives.3 in
    let second_f : g.second ≡ f = g.gives.1 in
    let in-o : Contains e.literals g.other = other_in atoms p.entries (set p.lists (packed f) list) w.row f g.other h.watch g.live g.is_other in
    let waits : IsWaiting p.entries p.steps x = pinned-waits p.entries p.steps x g.second g.live in-o g.pinned in
    let grows : Grows (kept_from 0 p.entries) depth p.steps p'.steps = pins-grow p.entries depth p.steps p'.steps ws ws' x waits pins in
    let ready' : IsReady p.entries p'.steps depth ws' = ready-pinned p.entries depth p.steps p'.steps ws ws' x waits pins h.ready in
    let b_in : Contains e.literals b = subst (Contains e.literals) (sym g.gives.0) in-o in
    let known : b.atom < atoms = All-contains (λ (m : Signed). m.atom < atoms) e.literals b (known_at atoms f (with_list p list) k w place h.watch lt is g.live).literals b_in in
    let here : w ≡ get_or list k no_watch = at_place list k w lt is in
    let row_here : v.row ≡ (get_or list k no_watch).row = ap (λ (y : Watch). y.row) here in
    let pair : ((e.first ≡ g.other) × (e.second ≡ g.second)) ⊎ ((e.first ≡ g.second) × (e.second ≡ g.other)) = elim g.is_other.pair [ inl q ↦ inr (q.0 ∙ sym second_f, q.1) | inr q ↦ inl (q.1, q.0 ∙ sym second_f) ] in
    let done : LateSweeps atoms depth f old (record { entries = p.entries; lists = p.lists; steps = p'.steps; list = set list k v }) us ws' (k + 1) = record {
      watch = keep_watch atoms f p.entries p.lists p.steps list k w b h.watch lt is place known (λ live. b_in);
      covers = λ head c.
          Late-step head depth f (kept_from 0 p.entries) p.entries p.entries p.steps p'.steps list (set list k v) k (k + 1) ws ws' w.row (h.covers head c) grows h.ready.deepest ready'.deepest (keeps-pinned p.entries depth p.steps p'.steps ws ws' x g.second in-o g.pinned h.ready.waiting pins) (λ i ne. refl) refl
          (λ live. pinned-covered (kept_from 0 p.entries) depth (head + 1) w.row p.steps p'.steps ws ws' e.literals x g.second e refl grows h.ready.deepest g.pinned pins pair)
          (λ i ne l. IsListed-next (set list k v) k i (λ y. ne (sym y ∙ ap (λ (z : Watch). z.row) (get_or-set_same list k v no_watch lt))) (IsListed-set list k k i v lt row_here l));
      ready = ready';
      grows = Grows-trans _ _ _ _ _ _ h.clauses h.grows grows;
      clauses = h.clauses;
      length_lists = h.length_lists;
      shape = h.shape;
    } in
    subst (λ xs. LateSweeps atoms depth f old (record { entries = xs; lists = p'.lists; steps = p'.steps; list = set list k v }) us ws' (k + 1)) (sym g.gives.2.entries)
    (subst (λ xs. LateSweeps atoms depth f old (record { entries = p.entries; lists = xs; steps = p'.steps; list = set list k v }) us ws' (k + 1)) (sym g.gives.2.lists) done)

late_dead : (atoms depth : ℕ) (f : Signed) (old : State) (p : Parts) (us ws : List Wait) (list : List Watch) (k : ℕ) (w : Watch) → LateSweeps atoms depth f old (with_list p list) us ws k → k < length list → w ≡ get_or list k w → packed f < length p.lists
    → (entry_at p.entries w.row).live ≡ false → LateSweeps atoms depth f old (with_list p (swap_remove list k w)) us ws k
late_dead atoms depth f old p us ws list k w h lt is place dead =
    let here : w ≡ get_or list k no_watch = at_place list k w lt is in
    let row_is : (get_or list k no_watch).row ≡ w.row = ap (λ (x : Watch). x.row) (sym here) in
    record {
      watch = drop_watch atoms f p.entries p.lists p.steps list k w h.watch lt is place (λ live. absurd (true_false (sym live ∙ dead)));
      covers = λ head c.
          Late-step head depth f (kept_from 0 p.entries) p.entries p.entries p.steps p.steps list (swap_remove list k w) k k ws ws w.row (h.covers head c) (Grows-none (kept_from 0 p.entries) depth p.steps) h.ready.deepest h.ready.deepest (λ n d x. x) (λ i ne. refl) refl
          (λ live. absurd (true_false (sym live ∙ dead)))
          (λ i ne l. IsListed-removed list k k i w lt (omega arith) (λ e. ne (sym e ∙ row_is)) l);
      ready = h.ready;
      grows = h.grows;
      clauses = h.clauses;
      length_lists = h.length_lists;
      shape = h.shape;
    }
  where
    true_false : true ≡ false → ⊥
    true_false e = cc

-- another literal is watched: what is left to show is that the clause is covered
late_other : (atoms depth : ℕ) (f : Signed) (old : State) (p p' : Parts) (us ws ws' : List Wait) (list : List Watch) (k : ℕ) (w : Watch) (kept found : Signed) → LateSweeps atoms depth f old (with_list p list) us ws k → k < length list → w ≡ get_or list k w → packed f < length p.lists
    → (entry_at p.entries w.row).live ≡ true → IsOther (entry_at p.entries w.row) f kept → (found ≡ kept → ⊥) → (found ≡ f → ⊥) → Contains (entry_at p.entries w.row).literals found → Shifts kept found w.row p p'
    → Grows (kept_from 0 p.entries) depth p.steps p'.steps → IsReady p.entries p'.steps depth ws' → ((n d : ℕ) → Waits ws n d → Waits ws' n d)
    → ((head : ℕ) → (kept ≡ f → ⊥) → LateCovers head f p.entries p.steps list k ws → IsCovered p'.steps ws' (head + 1) w.row (watched (entry_at p.entries w.row) kept found))
    → LateSweeps atoms depth f old (with_list p' (swap_remove list k w)) us ws' k
late_other atoms depth f old p p' us ws ws' list k w kept found h lt is place live other apart found_f contained shifts grows ready keeps covered =
    let more : Watch = record { blocker = kept; row = w.row } in
    let e = entry_at p.entries w.row in
    let here : w ≡ get_or list k no_watch = at_place list k w lt is in
    let row_is : (get_or list k no_watch).row ≡ w.row = ap (λ (x : Watch). x.row) (sym here) in
    let within : w.row < length p.entries = live_within p.entries w.row live in
    let known : IsKnown atoms e = known_at atoms f (with_list p list) k w place h.watch lt is live in
    let atom : found.atom < atoms = All-contains (λ (x : Signed). x.atom < atoms) e.literals found known.literals contained in
    let room : 2 * atoms ≤ length (set p.lists (packed f) list) = h.watch.room in
    let place_found : packed found < length p.lists = code_within found atoms (length p.lists) atom (omega (arith, length-set p.lists (packed f) list)) in
    let m : Moved atoms f p.entries p.lists p.steps list k w kept found = move_watch atoms f p.entries p.lists p.steps list k w kept found h.watch lt is place live other apart found_f contained place_found in
    let es' : List Entry = set p.entries w.row (watched e kept found) in
    let lists' : List (List Watch) = set p.lists (packed found) (watches_of p.lists found ++ more ∷ []) in
    let shape : SameShape p.entries es' = SameShape-watched p.entries w.row kept found within in
    let done : LateSweeps atoms depth f old (record { entries = es'; lists = lists'; steps = p'.steps; list = swap_remove list k w }) us ws' k = record {
      watch = m.watch;
      covers = λ head c.
          let cs : LateCovers head f p.entries p.steps list k ws = h.covers head c in
          Late-step head depth f (kept_from 0 p.entries) p.entries es' p.steps p'.steps list (swap_remove list k w) k k ws ws' w.row cs grows h.ready.deepest ready.deepest keeps (λ i ne. entry_at-other p.entries w.row i (watched e kept found) ne)
          (ap (λ (x : Entry). x.live) m.changed) (λ l. rw m.changed (covered head m.kept_f cs))
          (λ i ne l. IsListed-removed list k k i w lt (omega arith) (λ x. ne (sym x ∙ row_is)) l);
      ready = ready-shaped p.entries es' p'.steps depth ws' shape ready;
      grows = Grows-trans _ _ _ _ _ _ h.clauses h.grows grows;
      clauses = kept_from-watched 0 p.entries w.row kept found within ∙ h.clauses;
      length_lists = length-set p.lists (packed found) (watches_of p.lists found ++ more ∷ []) ∙ h.length_lists;
      shape = SameShape-trans old.entries p.entries es' h.shape shape;
    } in
    subst (λ xs. LateSweeps atoms depth f old (record { entries = xs; lists = p'.lists; steps = p'.steps; list = swap_remove list k w }) us ws' k) (sym shifts.entries)
    (subst (λ xs. LateSweeps atoms depth f old (record { entries = es'; lists = xs; steps = p'.steps; list = swap_remove list k w }) us ws' k) (sym shifts.lists) done)

late_pinned : (atoms depth : ℕ) (f : Signed) (old : State) (p p' : Parts) (us ws ws' : List Wait) (list : List Watch) (k : ℕ) (w : Watch) → LateSweeps atoms depth f old (with_list p list) us ws k → k < length list → w ≡ get_or list k w → packed f < length p.lists
    → LatePins f w.row depth p p' ws ws' Gone → LateSweeps atoms depth f old (with_list p' (swap_remove list k w)) us ws' k
late_pinned atoms depth f old p p' us ws ws' list k w h lt is place g =
    let x : Wait = record { row = w.row; literal = g.other; depth = g.from } in
    let e = entry_at p.entries w.row in
    let pins : Pins x depth p.steps p'.steps ws ws' = g.gives.2 in
    let in-o : Contains e.literals g.other = other_in atoms p.entries (set p.lists (packed f) list) w.row f g.other h.watch g.live g.is_other in
    let waits : IsWaiting p.entries p.steps x = pinned-waits p.entries p.steps x g.second g.live in-o g.pinned in
    let grows : Grows (kept_from 0 p.entries) depth p.steps p'.steps = pins-grow p.entries depth p.steps p'.steps ws ws' x waits pins in
    late_other atoms depth f old p p' us ws ws' list k w g.other g.second h lt is place g.live g.is_other g.pinned.apart g.gives.0 g.pinned.contained g.gives.1 grows (ready-pinned p.entries depth p.steps p'.steps ws ws' x waits pins h.ready) (keeps-pinned p.entries depth p.steps p'.steps ws ws' x g.second in-o g.pinned h.ready.waiting pins)
    (λ head kept_f c. pinned-covered (kept_from 0 p.entries) depth (head + 1) w.row p.steps p'.steps ws ws' e.literals x g.second (watched e g.other g.second) refl grows h.ready.deepest g.pinned pins (inl (refl, refl)))

late_moved : (atoms depth : ℕ) (f : Signed) (old : State) (p p' : Parts) (us ws : List Wait) (list : List Watch) (k : ℕ) (w : Watch) → LateSweeps atoms depth f old (with_list p list) us ws k → k < length list → w ≡ get_or list k w → packed f < length p.lists → IsFalseOn p.steps f
    → LateMoves f w.row p p' ws ws → LateSweeps atoms depth f old (with_list p' (swap_remove list k w)) us ws k
late_moved atoms depth f old p p' us ws list k w h lt is place is_false g =
    let m : Moves g.other w.row p p' = g.moves in
    let found_f : m.found ≡ f → ⊥ = λ x. m.not_false (subst (IsFalseOn p.steps) (sym x) is_false) in
    let none : Grows (kept_from 0 p.entries) depth p.steps p'.steps = subst (Grows (kept_from 0 p.entries) depth p.steps) (sym m.steps) (Grows-none (kept_from 0 p.entries) depth p.steps) in
    late_other atoms depth f old p p' us ws ws list k w g.other m.found h lt is place g.live g.is_other m.apart found_f m.contained (record { entries = m.entries; lists = m.lists }) none
    (subst (λ xs. IsReady p.entries xs depth ws) (sym m.steps) h.ready) (λ n d x. x)
    (λ head kept_f c. subst (λ xs. IsCovered xs ws (head + 1) w.row (watched (entry_at p.entries w.row) g.other m.found)) (sym m.steps)
    (moved-covered head f p.entries p.steps list k w.row ws g.other m.found c g.live g.is_other kept_f m.apart m.not_false))

pub Late-gone : (atoms depth : ℕ) (f : Signed) (old : State) (p p' : Parts) (us ws ws' : List Wait) (list : List Watch) (k : ℕ) (w : Watch) → LateSweeps atoms depth f old (with_list p list) us ws k → k < length list → w ≡ get_or list k w → packed f < length p.lists → IsFalseOn old.steps f
    → LateGives f w.row depth p p' ws ws' Gone → LateSweeps atoms depth f old (with_list p' (swap_remove list k w)) us ws' k
Late-gone atoms depth f old p p' us ws ws' list k w h lt is place false_then (inl g) =
    subst (λ q. LateSweeps atoms depth f old (with_list q (swap_remove list k w)) us ws' k) (sym g.1.same)
    (subst (λ xs. LateSweeps atoms depth f old (with_list p (swap_remove list k w)) us xs k) (sym g.1.waits) (late_dead atoms depth f old p us ws list k w h lt is place g.0))
Late-gone atoms depth f old p p' us ws ws' list k w h lt is place false_then (inr (inl g)) =
    let is_false : IsFalseOn p.steps f = Grows-assigns (kept_from 0 old.entries) depth old.steps p.steps (opposite f) h.grows false_then in
    subst (λ xs. LateSweeps atoms depth f old (with_list p' (swap_remove list k w)) us xs k) (sym g.waits)
    (late_moved atoms depth f old p p' us ws list k w h lt is place is_false (subst (LateMoves f w.row p p' ws) g.waits g))
Late-gone atoms depth f old p p' us ws ws' list k w h lt is place false_then (inr (inr g)) = late_pinned atoms depth f old p p' us ws ws' list k w h lt is place g

pub Late-false : (atoms depth : ℕ) (f : Signed) (old : State) (p p' : Parts) (us ws ws' : List Wait) (list : List Watch) (k : ℕ) (w : Watch) → LateSweeps atoms depth f old (with_list p list) us ws k → LateGives f w.row depth p p' ws ws' False → LateMeets atoms depth f old (with_list p' list) us ws' w.row
Late-false atoms depth f old p p' us ws ws' list k w h g =
    subst (λ q. LateMeets atoms depth f old (with_list q list) us ws' w.row) (sym g.1.same)
    (subst (λ xs. LateMeets atoms depth f old (with_list p list) us xs w.row) (sym g.1.waits) (record { place = k; sweeps = h; live = g.0; all_false = g.2 }))

pub waiting_within : (es : List Entry) (steps : List Step) (ws : List Wait) → All (IsWaiting es steps) ws → All (λ (w : Wait). w.row < length es) ws
waiting_within es steps ws h = All-weaker (IsWaiting es steps) (λ (w : Wait). w.row < length es) (λ w x. live_within es w.row x.live) ws h
