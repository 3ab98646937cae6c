-- What is said of the watches of a literal as one of them is kept, goes, or moves.
use Rattle.std.proofs.Common.{◌≡◌, ℕ, ◌<◌, true, List, [], ◌∷◌, ◌++◌, All, Contains, length, get_or, set, subst, sym, ap, ◌∙◌, refl, inl, inr, ◌⊎◌, arith}
use Rattle.std.specs.List.{swap_remove}
use Rattle.std.proofs.lemmas.List.{length-set, set-set, set_comm, get_or_default}
use Rattle.std.proofs.lemmas.List.Elements.{All-set, All-get_or, All-contains}
use Rattle.literals.specs.Signed.{Signed, packed}
use Rattle.clause_store.specs.declared.trail.Step.{Step}
use Rattle.clause_store.specs.Entries.{Entry, entry_at, watches_of, IsOther}
use Rattle.clause_store.specs.Watching.{IsPair, IsListed, IsSound, IsWatching, IsTidy, no_watch}
use Rattle.clause_store.specs.Sweeps.{State, watching}
use Rattle.clause_store.proofs.Watches.{packed-injective, IsListed-set, IsListed-removed, All-removed}
use Rattle.clause_store.proofs.Sweeping.{entry_at-same, live_within, watches_of-same, watches_of-other, IsWatched, watched_of, IsWatching-set, IsWatching-move, pair_lists, watched}
use Rattle.clause_store.proofs.Tidy.{IsTidy-keep, IsTidy-drop, IsTidy-move}
use Rattle.clause_store.specs.declared.lists.Watch.{Watch}

-- the list of the literal in the whole
pub own_list : (f : Signed) (s : State) → packed f < length s.lists → watches_of (set s.lists (packed f) s.list) f ≡ s.list
own_list f s lt = watches_of-same s.lists f s.list lt

pub listed_own : (atoms : ℕ) (f : Signed) (s : State) (i : ℕ) → packed f < length s.lists → IsWatched atoms s.entries (set s.lists (packed f) s.list) → (entry_at s.entries i).live ≡ true
    → ((entry_at s.entries i).first ≡ f) ⊎ ((entry_at s.entries i).second ≡ f) → IsListed s.list 0 i
listed_own atoms f s i lt w live is = subst (λ ws. IsListed ws 0 i) (own_list f s lt) (pair_lists atoms s.entries (set s.lists (packed f) s.list) i f w live is).1

pub sound_own : (atoms : ℕ) (f : Signed) (s : State) → packed f < length s.lists → IsWatched atoms s.entries (set s.lists (packed f) s.list) → All (IsSound atoms s.entries) s.list
sound_own atoms f s lt w = subst (All (IsSound atoms s.entries)) (own_list f s lt) (w.sound f)

-- the literal's list changes, and nothing else
pub relist : (atoms : ℕ) (f : Signed) (es : List Entry) (lists : List (List Watch)) (ws ws' : List Watch) → packed f < length lists → IsWatched atoms es (set lists (packed f) ws)
    → All (IsSound atoms es) ws' → ((i : ℕ) → (entry_at es i).live ≡ true → ((entry_at es i).first ≡ f) ⊎ ((entry_at es i).second ≡ f) → IsListed ws' 0 i)
    → IsTidy es (set lists (packed f) ws') → IsWatching atoms es (set lists (packed f) ws')
relist atoms f es lists ws ws' lt w sound listed tidy =
    subst (IsWatching atoms es) (set-set lists (packed f) ws ws')
    (IsWatching-set atoms es (set lists (packed f) ws) f ws' (omega (arith, length-set lists (packed f) ws)) w sound listed (subst (IsTidy es) (sym (set-set lists (packed f) ws ws')) tidy))

pub at_place : (ws : List Watch) (k : ℕ) (w : Watch) → k < length ws → w ≡ get_or ws k w → w ≡ get_or ws k no_watch
at_place ws k w lt is = is ∙ get_or_default ws k w no_watch lt

-- ---- a watch is kept, goes, or moves to another literal's list

pub keep_watch : (atoms : ℕ) (f : Signed) (es : List Entry) (lists : List (List Watch)) (steps : List Step) (ws : List Watch) (k : ℕ) (w : Watch) (b : Signed) → watching atoms f (record { entries = es; lists = lists; steps = steps; list = ws })
    → k < length ws → w ≡ get_or ws k w → packed f < length lists → b.atom < atoms → ((entry_at es w.row).live ≡ true → Contains (entry_at es w.row).literals b)
    → let v : Watch = record { blocker = b; row = w.row } in watching atoms f (record { entries = es; lists = lists; steps = steps; list = set ws k v })
keep_watch atoms f es lists steps ws k w b h lt is place known contained =
    let v : Watch = record { blocker = b; row = w.row } in
    let here : w ≡ get_or ws k no_watch = at_place ws k w lt is in
    let row_here : v.row ≡ (get_or ws k no_watch).row = ap (λ (x : Watch). x.row) here in
    let s : State = record { entries = es; lists = lists; steps = steps; list = ws } in
    let whole : IsWatched atoms es (set lists (packed f) ws) = watched_of atoms es (set lists (packed f) ws) h in
    let sound_ws : All (IsSound atoms es) ws = sound_own atoms f s place whole in
    let was : IsSound atoms es w = subst (IsSound atoms es) (sym here) (All-get_or (IsSound atoms es) ws k no_watch lt sound_ws) in
    let sound_v : IsSound atoms es v = record { within = was.within; known = known; blocker = contained } in
    relist atoms f es lists ws (set ws k v) place whole (All-set (IsSound atoms es) ws k v sound_v sound_ws)
    (λ i live is_f. IsListed-set ws k 0 i v lt row_here (listed_own atoms f s i place whole live is_f))
    (IsTidy-keep es lists f ws k v place lt row_here h.tidy)

pub drop_watch : (atoms : ℕ) (f : Signed) (es : List Entry) (lists : List (List Watch)) (steps : List Step) (ws : List Watch) (k : ℕ) (w : Watch) → watching atoms f (record { entries = es; lists = lists; steps = steps; list = ws })
    → k < length ws → w ≡ get_or ws k w → packed f < length lists
    → ((entry_at es w.row).live ≡ true → ((entry_at es w.row).first ≡ f → ⊥) × ((entry_at es w.row).second ≡ f → ⊥))
    → watching atoms f (record { entries = es; lists = lists; steps = steps; list = swap_remove ws k w })
drop_watch atoms f es lists steps ws k w h lt is place not_own =
    let here : w ≡ get_or ws k no_watch = at_place ws k w lt is in
    let s : State = record { entries = es; lists = lists; steps = steps; list = ws } in
    let whole : IsWatched atoms es (set lists (packed f) ws) = watched_of atoms es (set lists (packed f) ws) h in
    let sound_ws : All (IsSound atoms es) ws = sound_own atoms f s place whole in
    let row_is : (get_or ws k no_watch).row ≡ w.row = ap (λ (x : Watch). x.row) (sym here) in
    relist atoms f es lists ws (swap_remove ws k w) place whole (All-removed (IsSound atoms es) ws k w lt sound_ws)
    (λ i live is_f. IsListed-removed ws k 0 i w lt (omega arith)
    (λ e. let same : w.row ≡ i = sym row_is ∙ e in
    let n = not_own (subst (λ m. (entry_at es m).live ≡ true) (sym same) live) in
    elim is_f [ inl a ↦ n.0 (subst (λ m. (entry_at es m).first ≡ f) (sym same) a) | inr b ↦ n.1 (subst (λ m. (entry_at es m).second ≡ f) (sym same) b) ])
    (listed_own atoms f s i place whole live is_f))
    (IsTidy-drop es lists f ws k w place lt h.tidy)

pub record Moved (atoms : ℕ) (f : Signed) (es : List Entry) (lists : List (List Watch)) (steps : List Step) (ws : List Watch) (k : ℕ) (w : Watch) (kept found : Signed) : Type 0 where
  pub watch : let more : Watch = record { blocker = kept; row = w.row } in watching atoms f (record { entries = set es w.row (watched (entry_at es w.row) kept found); lists = set lists (packed found) (watches_of lists found ++ more ∷ []); steps = steps; list = swap_remove ws k w })
  pub changed : entry_at (set es w.row (watched (entry_at es w.row) kept found)) w.row ≡ watched (entry_at es w.row) kept found
  pub kept_f : kept ≡ f → ⊥

pub move_watch : (atoms : ℕ) (f : Signed) (es : List Entry) (lists : List (List Watch)) (steps : List Step) (ws : List Watch) (k : ℕ) (w : Watch) (kept found : Signed) → watching atoms f (record { entries = es; lists = lists; steps = steps; list = ws })
    → k < length ws → w ≡ get_or ws k w → packed f < length lists → (entry_at es w.row).live ≡ true → IsOther (entry_at es w.row) f kept → (found ≡ kept → ⊥) → (found ≡ f → ⊥) → Contains (entry_at es w.row).literals found → packed found < length lists
    → Moved atoms f es lists steps ws k w kept found
move_watch atoms f es lists steps ws k w kept found h lt is place live other apart found_f contained place_found =
    let more : Watch = record { blocker = kept; row = w.row } in
    let e = entry_at es w.row in
    let here : w ≡ get_or ws k no_watch = at_place ws k w lt is in
    let row_is : (get_or ws k no_watch).row ≡ w.row = ap (λ (x : Watch). x.row) (sym here) in
    let lists' : List (List Watch) = set lists (packed found) (watches_of lists found ++ more ∷ []) in
    let es' : List Entry = set es w.row (watched e kept found) in
    let within : w.row < length es = live_within es w.row live in
    let changed : entry_at es' w.row ≡ watched e kept found = entry_at-same es w.row (watched e kept found) within in
    let is_kept : (e.first ≡ kept) ⊎ (e.second ≡ kept) = elim other.pair [ inl p ↦ inr p.1 | inr p ↦ inl p.1 ] in
    let whole : IsWatched atoms es (set lists (packed f) ws) = watched_of atoms es (set lists (packed f) ws) h in
    let own : watches_of (set lists (packed f) ws) found ≡ watches_of lists found = watches_of-other lists f found ws found_f in
    let moved : IsWatched atoms es' (set (set lists (packed f) ws) (packed found) (watches_of (set lists (packed f) ws) found ++ more ∷ [])) =
    IsWatching-move atoms es (set lists (packed f) ws) w.row kept found more whole live is_kept contained apart (omega (arith, length-set lists (packed f) ws)) refl refl in
    let moved' : IsWatched atoms es' (set (set lists (packed f) ws) (packed found) (watches_of lists found ++ more ∷ [])) =
    subst (λ xs. IsWatched atoms es' (set (set lists (packed f) ws) (packed found) (xs ++ more ∷ []))) own moved in
    let swapped : set (set lists (packed f) ws) (packed found) (watches_of lists found ++ more ∷ []) ≡ set lists' (packed f) ws =
    set_comm lists (packed f) (packed found) ws (watches_of lists found ++ more ∷ []) (λ x. found_f (packed-injective found f (sym x))) in
    let after_move : IsWatched atoms es' (set lists' (packed f) ws) = subst (IsWatched atoms es') swapped moved' in
    let place' : packed f < length lists' = omega (arith, length-set lists (packed found) (watches_of lists found ++ more ∷ [])) in
    let s' : State = record { entries = es'; lists = lists'; steps = steps; list = ws } in
    let sound_ws : All (IsSound atoms es') ws = sound_own atoms f s' place' after_move in
    let pair : IsPair e = whole.pairs w.row live in
    let kept_f : kept ≡ f → ⊥ = λ x.
    let single : e.first ≡ e.second = elim other.pair [ inl p ↦ p.0 ∙ (sym x ∙ sym p.1) | inr p ↦ p.1 ∙ (x ∙ sym p.0) ] in
    let first_kept : e.first ≡ kept = elim other.pair [ inl p ↦ p.0 ∙ sym x | inr p ↦ p.1 ] in
    apart (All-contains (λ m. m ≡ e.first) e.literals found (pair.single single) contained ∙ first_kept) in
    record {
      watch = relist atoms f es' lists' ws (swap_remove ws k w) place' after_move (All-removed (IsSound atoms es') ws k w lt sound_ws)
          (λ i is_live is_f. IsListed-removed ws k 0 i w lt (omega arith)
          (λ x. let same : w.row ≡ i = sym row_is ∙ x in
          let of_row : ((entry_at es' w.row).first ≡ f) ⊎ ((entry_at es' w.row).second ≡ f) = subst (λ m. ((entry_at es' m).first ≡ f) ⊎ ((entry_at es' m).second ≡ f)) (sym same) is_f in
          elim (rw changed at of_row) [ inl a ↦ kept_f a | inr b ↦ found_f b ])
          (listed_own atoms f s' i place' after_move is_live is_f))
          (IsTidy-move es lists f ws k w w.row kept found more place place_found lt row_is within other apart found_f contained refl h.tidy);
      changed = changed;
      kept_f = kept_f;
    }
