-- One literal's watches gone through, in the whole.
use Rattle.std.proofs.Common.{◌≡◌, ℕ, ◌+◌, ◌*◌, ◌<◌, ◌≤◌, true, List, [], ◌∷◌, ◌++◌, length, get_or, set, take, drop, Bool, false, subst, sym, ap, ◌∙◌, refl, inl, inr, ◌⊎◌, arith}
use Rattle.std.proofs.lemmas.List.{length-set, set-set, set-get_or, take_more, take-append-le, map_push, take-append-drop, map-append, length-append, take-take, get_or_default}
use Rattle.std.proofs.lemmas.List.Elements.{Contains-append_left, Contains-push_cases, Contains-push}
use Rattle.literals.specs.Signed.{Signed, opposite, packed}
use Rattle.clause_store.specs.Trail.{Assigns, literals}
use Rattle.clause_store.specs.declared.trail.Step.{Step}
use Rattle.clause_store.specs.Stored.{Kept, IsFalseOn}
use Rattle.clause_store.specs.Entries.{Entry, entry_at, watches_of}
use Rattle.clause_store.specs.Visits.{Parts}
use Rattle.clause_store.specs.Watching.{IsSettled, SameShape, IsWatching, View, Frame, Covers, Grows, kept_from}
use Rattle.clause_store.specs.Sweeps.{State, Sweeps, Meets, SweptGives}
use Rattle.clause_store.specs.Runs.{Rests, Turns, TurnsTo, TurnGives, Runs, RunGives}
use Rattle.clause_store.specs.declared.run.Reached.{Reached}
use Rattle.clause_store.specs.declared.run.Reached.TheVariants.{Fixpoint, False as FalseReached}
use Rattle.clause_store.specs.declared.sweep.Swept.{Swept}
use Rattle.clause_store.specs.declared.sweep.Swept.TheVariants.{Whole, False as FalseClause}
use Rattle.clause_store.proofs.Sweeping.{IsSettled-other, equal_or_apart, watches_of-same, pair_lists, SameShape-none, SameShape-trans, watched_of}
use Rattle.clause_store.specs.declared.lists.Watch.{Watch}

by_sign : (a : ℕ) (b : Bool) → let l : Signed = record { atom = a; positive = b } in opposite (opposite l) ≡ l
by_sign a true = refl
by_sign a false = refl

-- with the literal's list taken out, the whole is as before
pub taken_out : (atoms : ℕ) (f : Signed) (es : List Entry) (lists : List (List Watch)) (spare : List Watch) → IsWatching atoms es lists → IsWatching atoms es (set (set lists (packed f) spare) (packed f) (watches_of lists f))
taken_out atoms f es lists spare h =
    subst (IsWatching atoms es) (sym (set-set lists (packed f) spare (watches_of lists f) ∙ set-get_or lists (packed f) [])) h

pub Turns-sweep : (atoms depth : ℕ) (f : Signed) (lists : List (List Watch)) (s s' : State) (k : ℕ) → s.list ≡ watches_of lists f → packed f < length s'.lists → Sweeps atoms depth f s s' k
    → Turns atoms f (record { entries = s.entries; lists = lists; steps = s.steps }) (record { entries = s'.entries; lists = set s'.lists (packed f) s'.list; steps = s'.steps }) k
Turns-sweep atoms depth f lists s s' k is lt h = record {
  watch = h.watch;
  covers = λ g c. subst (λ ws. Covers g f s'.entries s'.steps ws k) (sym (watches_of-same s'.lists f s'.list lt)) (h.covers g (subst (λ ws. Covers g f s.entries s.steps ws 0) (sym is) c));
  shape = h.shape;
}

pub Turns-whole : (atoms depth : ℕ) (f : Signed) (lists : List (List Watch)) (s s' : State) → s.list ≡ watches_of lists f → packed f < length s'.lists → Sweeps atoms depth f s s' (length s'.list)
    → Turns atoms f (record { entries = s.entries; lists = lists; steps = s.steps }) (record { entries = s'.entries; lists = set s'.lists (packed f) s'.list; steps = s'.steps }) (length (watches_of (set s'.lists (packed f) s'.list) f))
Turns-whole atoms depth f lists s s' is lt h =
    subst (λ ws. Turns atoms f (record { entries = s.entries; lists = lists; steps = s.steps }) (record { entries = s'.entries; lists = set s'.lists (packed f) s'.list; steps = s'.steps }) (length ws))
    (sym (watches_of-same s'.lists f s'.list lt)) (Turns-sweep atoms depth f lists s s' (length s'.list) is lt h)

pub Turns-meets : (atoms depth : ℕ) (f : Signed) (lists : List (List Watch)) (s s' : State) (row : ℕ) → s.list ≡ watches_of lists f → packed f < length s'.lists → Meets atoms depth f s s' row
    → TurnsTo atoms f (record { entries = s.entries; lists = lists; steps = s.steps }) (record { entries = s'.entries; lists = set s'.lists (packed f) s'.list; steps = s'.steps }) row
Turns-meets atoms depth f lists s s' row is lt h = record {
  place = h.place;
  turns = Turns-sweep atoms depth f lists s s' h.place is lt h.sweeps;
  is_false = record { live = h.live; all_false = h.all_false };
}

-- ---- the step of the loop over steps

pub Assigns-front : (n : ℕ) (steps : List Step) (l : Signed) → Assigns (take n steps) l → Assigns steps l
Assigns-front n steps l h =
    subst (λ xs. Assigns xs l) (take-append-drop n steps) (rw (map-append (λ (s : Step). s.literal) (take n steps) (drop n steps)) (Contains-append_left (literals (take n steps)) (literals (drop n steps)) l h))

pub Assigns-more_cases : (n : ℕ) (steps : List Step) (s : Step) (l : Signed) → n < length steps → s ≡ get_or steps n s → Assigns (take (n + 1) steps) l → Assigns (take n steps) l ⊎ (l ≡ s.literal)
Assigns-more_cases n steps s l lt is h =
    let e : take (n + 1) steps ≡ take n steps ++ s ∷ [] = take_more steps n s lt ∙ ap (λ x. take n steps ++ x ∷ []) (sym is) in
    elim (Contains-push_cases (literals (take n steps)) s.literal l (rw (map_push (λ (s : Step). s.literal) (take n steps) s) at (subst (λ xs. Assigns xs l) e h))) [
      | inl old ↦ inl old
      | inr same ↦ inr (sym same)
    ]

pub Assigns-here : (n : ℕ) (steps : List Step) (s : Step) → n < length steps → s ≡ get_or steps n s → Assigns steps s.literal
Assigns-here n steps s lt is =
    let e : take (n + 1) steps ≡ take n steps ++ s ∷ [] = take_more steps n s lt ∙ ap (λ x. take n steps ++ x ∷ []) (sym is) in
    Assigns-front (n + 1) steps s.literal (subst (λ xs. Assigns xs s.literal) (sym e) (rw (map_push (λ (s : Step). s.literal) (take n steps) s) (Contains-push (literals (take n steps)) s.literal)))

pub opposite-opposite : (l : Signed) → opposite (opposite l) ≡ l
opposite-opposite l = by_sign l.atom l.positive

pub falsified : (n : ℕ) (steps : List Step) (s : Step) → n < length steps → s ≡ get_or steps n s → IsFalseOn steps (opposite s.literal)
falsified n steps s lt is = subst (Assigns steps) (sym (opposite-opposite s.literal)) (Assigns-here n steps s lt is)

abbrev pub frame_at : List View → List Step → ℕ → Frame
frame_at views steps head = record { views = views; seen = take head steps; after = take (head + 1) steps }

pub Rests-covers : (atoms : ℕ) (views : List View) (es : List Entry) (lists : List (List Watch)) (steps : List Step) (head : ℕ) (s : Step) → head < length steps → s ≡ get_or steps head s
    → IsWatching atoms es lists → Rests views es steps head → Covers (frame_at views steps head) (opposite s.literal) es steps (watches_of lists (opposite s.literal)) 0
Rests-covers atoms views es lists steps head s lt is w h =
    let new : (l : Signed) → Assigns (take (head + 1) steps) l → Assigns (take head steps) l ⊎ (l ≡ opposite (opposite s.literal)) =
    λ l a. elim (Assigns-more_cases head steps s l lt is a) [ inl old ↦ inl old | inr e ↦ inr (e ∙ sym (opposite-opposite s.literal)) ] in
    record {
      after_on = λ l a. Assigns-front (head + 1) steps l a;
      after_new = new;
      views_on = h.views_on;
      current = λ i live. elim (equal_or_apart (entry_at es i).first (opposite s.literal)) [
        | inl first ↦ inr (h.current i live, (pair_lists atoms es lists i (opposite s.literal) (watched_of atoms es lists w) live (inl first)).1)
        | inr not_first ↦ elim (equal_or_apart (entry_at es i).second (opposite s.literal)) [
          | inl second ↦ inr (h.current i live, (pair_lists atoms es lists i (opposite s.literal) (watched_of atoms es lists w) live (inr second)).1)
          | inr not_second ↦ inl (IsSettled-other (opposite s.literal) (take head steps) (take (head + 1) steps) steps (entry_at es i) new not_first not_second (h.current i live))
        ]
      ];
      lower = h.lower;
    }

pub Covers-rests : (views : List View) (f : Signed) (es : List Entry) (steps steps' added : List Step) (ws : List Watch) (head : ℕ) → head < length steps → steps' ≡ steps ++ added
    → Covers (frame_at views steps head) f es steps' ws (length ws) → Rests views es steps' (head + 1)
Covers-rests views f es steps steps' added ws head lt e h =
    let front : take (head + 1) steps ≡ take (head + 1) steps' = sym (take-append-le (head + 1) steps added (omega arith)) ∙ ap (λ xs. take (head + 1) xs) (sym e) in
    record {
      current = λ i live. elim (h.current i live) [
        | inl done ↦ subst (λ xs. IsSettled xs steps' (entry_at es i)) front done
        | inr left ↦ let least : length ws ≤ left.1.place = left.1.at_least in let within : left.1.place < length ws = left.1.within in absurd (omega arith)
      ];
      views_on = h.views_on;
      lower = h.lower;
    }

IsSettled-less : (seen seen' steps : List Step) (e : Entry) → ((l : Signed) → Assigns seen' l → Assigns seen l) → IsSettled seen steps e → IsSettled seen' steps e
IsSettled-less seen seen' steps e less (inl s) = inl s
IsSettled-less seen seen' steps e less (inr a) = inr (record { apart = a.apart; first = λ x. a.first (less (opposite e.first) x); second = λ x. a.second (less (opposite e.second) x) })

pub Covers-back : (views : List View) (f : Signed) (es : List Entry) (steps steps' added : List Step) (ws : List Watch) (head k : ℕ) → head < length steps → steps' ≡ steps ++ added
    → Covers (frame_at views steps head) f es steps' ws k → Rests views es steps' head
Covers-back views f es steps steps' added ws head k lt e h =
    let front : take head steps ≡ take head steps' = sym (take-append-le head steps added (omega arith)) ∙ ap (λ xs. take head xs) (sym e) in
    let less : (l : Signed) → Assigns (take head steps) l → Assigns (take (head + 1) steps) l =
    λ l a. Assigns-front head (take (head + 1) steps) l (subst (λ xs. Assigns xs l) (sym (take-take head (head + 1) steps (omega arith))) a) in
    record {
      current = λ i live. subst (λ xs. IsSettled xs steps' (entry_at es i)) front (elim (h.current i live) [
        | inl done ↦ IsSettled-less (take (head + 1) steps) (take head steps) steps' (entry_at es i) less done
        | inr left ↦ left.0
      ]);
      views_on = h.views_on;
      lower = h.lower;
    }

-- ---- the loop

pub Runs-start : (atoms : ℕ) (p : Parts) (start : ℕ) → IsWatching atoms p.entries p.lists → Runs atoms p p start start
Runs-start atoms p start w = record { watch = w; rests = λ views h. h; shape = SameShape-none p.entries }

pub Runs-turn : (atoms depth : ℕ) (old p p' : Parts) (start head : ℕ) (s : Step) → head < length p.steps → s ≡ get_or p.steps head s → Grows (kept_from 0 p.entries) depth p.steps p'.steps
    → Runs atoms old p start head → Turns atoms (opposite s.literal) p p' (length (watches_of p'.lists (opposite s.literal))) → Runs atoms old p' start (head + 1)
Runs-turn atoms depth old p p' start head s lt is grows h t = record {
  watch = t.watch;
  rests = λ views r. Covers-rests views (opposite s.literal) p'.entries p.steps p'.steps grows.added (watches_of p'.lists (opposite s.literal)) head lt grows.gains
      (t.covers (frame_at views p.steps head) (Rests-covers atoms views p.entries p.lists p.steps head s lt is h.watch (h.rests views r)));
  shape = SameShape-trans old.entries p.entries p'.entries h.shape t.shape;
}

pub Runs-meets : (atoms depth : ℕ) (old p p' : Parts) (start head row : ℕ) (s : Step) → head < length p.steps → s ≡ get_or p.steps head s → Grows (kept_from 0 p.entries) depth p.steps p'.steps
    → Runs atoms old p start head → TurnsTo atoms (opposite s.literal) p p' row → Runs atoms old p' start head
Runs-meets atoms depth old p p' start head row s lt is grows h t = record {
  watch = t.turns.watch;
  rests = λ views r. Covers-back views (opposite s.literal) p'.entries p.steps p'.steps grows.added (watches_of p'.lists (opposite s.literal)) head t.place lt grows.gains
      (t.turns.covers (frame_at views p.steps head) (Rests-covers atoms views p.entries p.lists p.steps head s lt is h.watch (h.rests views r)));
  shape = SameShape-trans old.entries p.entries p'.entries h.shape t.turns.shape;
}

-- ---- growth

pub Grows-longer : (clauses : List Kept) (depth : ℕ) (old new : List Step) → Grows clauses depth old new → length old ≤ length new
Grows-longer clauses depth old new h = omega (arith, ap (λ (xs : List Step). length xs) h.gains, length-append old h.added)

-- ---- one turn

by_code : (a : ℕ) (b : Bool) (atoms n : ℕ) → a < atoms → 2 * atoms ≤ n → let l : Signed = record { atom = a; positive = b } in packed l < n
by_code a true atoms n lt le = omega arith
by_code a false atoms n lt le = omega arith

pub code_within : (l : Signed) (atoms n : ℕ) → l.atom < atoms → 2 * atoms ≤ n → packed l < n
code_within l atoms n lt le = by_code l.atom l.positive atoms n lt le

pub list_is : (lists : List (List Watch)) (f : Signed) (code : ℕ) (list d : List Watch) → code ≡ packed f → list ≡ get_or lists code d → packed f < length lists → list ≡ watches_of lists f
list_is lists f code list d e is lt = is ∙ (ap (λ n. get_or lists n d) e ∙ get_or_default lists (packed f) d [] lt)

pub turn-watching : (atoms : ℕ) (f : Signed) (es : List Entry) (lists : List (List Watch)) (spare list d : List Watch) (code : ℕ) → code ≡ packed f → list ≡ get_or lists code d → f.atom < atoms
    → IsWatching atoms es lists → IsWatching atoms es (set (set lists code spare) (packed f) list)
turn-watching atoms f es lists spare list d code e is lt w =
    rw (e, list_is lists f code list d e is (code_within f atoms (length lists) lt w.room)) (taken_out atoms f es lists spare w)

pub turn-gives : (atoms depth : ℕ) (f : Signed) (es : List Entry) (lists : List (List Watch)) (steps : List Step) (spare list d : List Watch) (code : ℕ) (s' : State) (r : Swept) → code ≡ packed f → list ≡ get_or lists code d → f.atom < atoms
    → IsWatching atoms es lists → SweptGives atoms depth f (record { entries = es; lists = set lists code spare; steps = steps; list = list }) s' r
    → TurnGives atoms f (record { entries = es; lists = lists; steps = steps }) (record { entries = s'.entries; lists = set s'.lists (packed f) s'.list; steps = s'.steps }) r
turn-gives atoms depth f es lists steps spare list d code s' Whole e is lt w h =
    let place : packed f < length lists = code_within f atoms (length lists) lt w.room in
    let len : length s'.lists ≡ length (set lists code spare) = h.length_lists in
    Turns-whole atoms depth f lists (record { entries = es; lists = set lists code spare; steps = steps; list = list }) s' (list_is lists f code list d e is place) (omega (arith, length-set lists code spare)) h
turn-gives atoms depth f es lists steps spare list d code s' (FalseClause row) e is lt w h =
    let place : packed f < length lists = code_within f atoms (length lists) lt w.room in
    let len : length s'.lists ≡ length (set lists code spare) = h.sweeps.length_lists in
    Turns-meets atoms depth f lists (record { entries = es; lists = set lists code spare; steps = steps; list = list }) s' row (list_is lists f code list d e is place) (omega (arith, length-set lists code spare)) h

pub swept_shape : (atoms depth : ℕ) (f : Signed) (s s' : State) (r : Swept) → SweptGives atoms depth f s s' r → SameShape s.entries s'.entries
swept_shape atoms depth f s s' Whole h = h.shape
swept_shape atoms depth f s s' (FalseClause row) h = h.sweeps.shape

pub run_shape : (atoms : ℕ) (p p' : Parts) (start head : ℕ) (r : Reached) → RunGives atoms p p' start head r → SameShape p.entries p'.entries
run_shape atoms p p' start head Fixpoint h = h.0.shape
run_shape atoms p p' start head (FalseReached row) h = h.0.shape
