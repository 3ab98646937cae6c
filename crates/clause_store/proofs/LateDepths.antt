-- What is true at each depth as steps of lower depths are gone through.
use Rattle.std.proofs.Common.{◌≡◌, ◌≢◌, ℕ, ◌+◌, ◌<◌, ◌≤◌, zero, suc, Bool, true, false, nat_le, List, [], ◌∷◌, ◌++◌, All, Contains, length, take, get_or, subst, sym, ap, ◌∙◌, refl, inl, inr, ◌⊎◌, arith}
use Rattle.std.proofs.lemmas.Bool.Decides.{nat_tests}
use Rattle.std.proofs.lemmas.List.{take_all, take-take, take-append-le, get_or_append_left}
use Rattle.std.proofs.lemmas.List.Elements.{All-head, All-tail, All-weaker, All-contains, Contains-get_or}
use Rattle.std.specs.List.Sorted.{IsNonDecreasingBy}
use Rattle.literals.specs.Signed.{Signed, opposite}
use Rattle.clause_store.specs.Trail.{Assigns, up_to}
use Rattle.clause_store.specs.declared.trail.Step.{Step}
use Rattle.clause_store.specs.Stored.{Kept, IsFalseOn}
use Rattle.clause_store.specs.Entries.{Entry, entry_at, watches_of, IsOther}
use Rattle.clause_store.specs.Watching.{IsSettled, IsListed, Grows, SameShape, kept_from}
use Rattle.clause_store.specs.Visits.{Parts}
use Rattle.clause_store.specs.Rested.{IsWaiting, Waits}
use Rattle.clause_store.specs.Choosing.{AreOpen, Outlasts}
use Rattle.clause_store.specs.From.{IsFrom}
use Rattle.clause_store.specs.Late.{IsCovered, AreCovered, IsReady, LateCovers, IsPinned, Pins, LateHolds}
use Rattle.clause_store.specs.declared.lists.Watch.{Watch}
use Rattle.clause_store.specs.declared.waits.Wait.{Wait}
use Rattle.clause_store.proofs.Filters.{up_to-assigns}
use Rattle.clause_store.proofs.Watches.{same_or_apart}
use Rattle.clause_store.proofs.Sweeping.{IsSettled-other, equal_or_apart, pair_lists, watched_of, watched}
use Rattle.clause_store.proofs.Turning.{Assigns-front, Assigns-more_cases, Grows-longer, opposite-opposite}
use Rattle.clause_store.proofs.Kept.{Grows-none, Grows-assigns}
use Rattle.clause_store.proofs.Forces.{force-grows}
use Rattle.clause_store.proofs.Depths.{up_to-grown, up_to-all, each-grown, deepest-grown, waiting-grown, waiting-shaped, less_seen, below_or_past}
use Rattle.clause_store.proofs.Rounds.{awake_on, awake_after}

-- ---- steps of at most a depth come first

none_up : (d : ℕ) (steps : List Step) → All (λ (s : Step). d < s.depth) steps → up_to d steps ≡ []
none_up d [] h = refl
none_up d (s ∷ steps) h =
    let here : d < s.depth = All-head (λ (s : Step). d < s.depth) s steps h in
    let over : nat_le s.depth d ≡ false = grind (arith, nat_tests) in
    rw over (none_up d steps (All-tail (λ (s : Step). d < s.depth) s steps h))

not_within : (a b : ℕ) → nat_le a b ≡ false → b < a
not_within a b h = grind (arith, nat_tests)

front_by : (d : ℕ) (s : Step) (steps : List Step) (b : Bool) → nat_le s.depth d ≡ b → IsNonDecreasingBy (λ (x : Step). x.depth) (s ∷ steps) → (rest : List Step) × (steps ≡ up_to d steps ++ rest) → (rest : List Step) × (s ∷ steps ≡ up_to d (s ∷ steps) ++ rest)
front_by d s steps true e order h = (h.0, rw e (ap (λ xs. s ∷ xs) h.1))
front_by d s steps false e order h =
    let first : d < s.depth = not_within s.depth d e in
    let deep : All (λ (x : Step). d < x.depth) steps = λ k x lt.
    let o : s.depth ≤ (get_or steps k x).depth = order zero (suc k) x (omega arith) (omega (arith, lt)) in
    omega arith in
    (s ∷ steps, rw (e, none_up d steps deep) refl)

pub up_to-front : (d : ℕ) (steps : List Step) → IsNonDecreasingBy (λ (s : Step). s.depth) steps → (rest : List Step) × (steps ≡ up_to d steps ++ rest)
up_to-front d [] order = ([], refl)
up_to-front d (s ∷ steps) order = front_by d s steps (nat_le s.depth d) refl order (up_to-front d steps (λ j k x le lt. order (suc j) (suc k) x (omega (arith, le)) (omega (arith, lt))))

next_in : (head : ℕ) (steps xs rest : List Step) (s : Step) (l : Signed) → steps ≡ xs ++ rest → s ≡ get_or steps head s → Assigns (take (head + 1) xs) l → Assigns (take head xs) l ⊎ (l ≡ s.literal)
next_in head steps xs rest s l front is a = elim (below_or_past head (length xs)) [
  | inl lt ↦ Assigns-more_cases head xs s l lt (is ∙ (ap (λ ys. get_or ys head s) front ∙ get_or_append_left xs rest s head lt)) a
  | inr past ↦ inl (
      let more : take (head + 1) xs ≡ xs = take_all (head + 1) xs (omega arith) in
      let all : take head xs ≡ xs = take_all head xs past in
      subst (λ ys. Assigns ys l) (more ∙ sym all) a)
]

-- ---- the start, and the end

pub Late-start : (atoms depth : ℕ) (p : Parts) (ws : List Wait) (head : ℕ) (s : Step) → IsNonDecreasingBy (λ (x : Step). x.depth) p.steps → head < length p.steps → s ≡ get_or p.steps head s → LateHolds atoms depth p ws head
    → LateCovers head (opposite s.literal) p.entries p.steps (watches_of p.lists (opposite s.literal)) 0 ws
Late-start atoms depth p ws head s order lt is h =
    let f : Signed = opposite s.literal in
    let next : (d : ℕ) (l : Signed) → Assigns (take (head + 1) (up_to d p.steps)) l → Assigns (take head (up_to d p.steps)) l ⊎ (l ≡ opposite f) = λ d l a.
    let front = up_to-front d p.steps order in
    elim (next_in head p.steps (up_to d p.steps) front.0 s l front.1 is a) [ inl old ↦ inl old | inr e ↦ inr (e ∙ sym (opposite-opposite s.literal)) ] in
    let w = watched_of atoms p.entries p.lists h.watch in
    record {
      within = lt;
      next = next;
      each = λ i live. elim (equal_or_apart (entry_at p.entries i).first f) [
        | inl first ↦ inr (h.covered i live, (pair_lists atoms p.entries p.lists i f w live (inl first)).1)
        | inr not_first ↦ elim (equal_or_apart (entry_at p.entries i).second f) [
          | inl second ↦ inr (h.covered i live, (pair_lists atoms p.entries p.lists i f w live (inr second)).1)
          | inr not_second ↦ inl (λ d. elim (h.covered i live d) [
            | inl done ↦ inl (IsSettled-other f (take head (up_to d p.steps)) (take (head + 1) (up_to d p.steps)) (up_to d p.steps) (entry_at p.entries i) (next d) not_first not_second done)
            | inr waits ↦ inr waits
          ])
        ]
      ];
    }

pub Late-whole : (head : ℕ) (f : Signed) (es : List Entry) (steps : List Step) (list : List Watch) (k : ℕ) (ws : List Wait) → length list ≤ k → LateCovers head f es steps list k ws → AreCovered es steps ws (head + 1)
Late-whole head f es steps list k ws le h = λ i live. elim (h.each i live) [
  | inl done ↦ done
  | inr left ↦ let least : k ≤ left.1.place = left.1.at_least in let within : left.1.place < length list = left.1.within in absurd (omega arith)
]

pub Late-back : (head : ℕ) (f : Signed) (es : List Entry) (steps : List Step) (list : List Watch) (k : ℕ) (ws : List Wait) → LateCovers head f es steps list k ws → AreCovered es steps ws head
Late-back head f es steps list k ws h = λ i live. elim (h.each i live) [
  | inl done ↦ λ d. elim (done d) [
    | inl settled ↦ inl (less_seen (take (head + 1) (up_to d steps)) (take head (up_to d steps)) (up_to d steps) (entry_at es i) (λ l a. shorter head (up_to d steps) l a) settled)
    | inr waits ↦ inr waits
  ]
  | inr left ↦ left.0
]
  where
    shorter : (n : ℕ) (xs : List Step) (l : Signed) → Assigns (take n xs) l → Assigns (take (n + 1) xs) l
    shorter n xs l a = Assigns-front n (take (n + 1) xs) l (subst (λ ys. Assigns ys l) (sym (take-take n (n + 1) xs (omega arith))) a)

-- ---- steps grow

front-grown : (clauses : List Kept) (depth d n : ℕ) (old new : List Step) → Grows clauses depth old new → n ≤ length old → All (λ (s : Step). s.depth ≤ depth) old → All (λ (s : Step). s.depth ≤ depth) new → take n (up_to d new) ≡ take n (up_to d old)
front-grown clauses depth d n old new grows within deep deep' = elim (below_or_past d depth) [
  | inl below ↦ ap (λ xs. take n xs) (up_to-grown clauses depth d old new grows below)
  | inr past ↦
      let all : up_to d old ≡ old = up_to-all d old (All-weaker (λ (s : Step). s.depth ≤ depth) (λ (s : Step). s.depth ≤ d) (λ s le. omega arith) old deep) in
      let all' : up_to d new ≡ new = up_to-all d new (All-weaker (λ (s : Step). s.depth ≤ depth) (λ (s : Step). s.depth ≤ d) (λ s le. omega arith) new deep') in
      ap (λ xs. take n xs) (all' ∙ grows.gains) ∙ (take-append-le n old grows.added within ∙ ap (λ xs. take n xs) (sym all))
]

covered-grown : (clauses : List Kept) (depth head i : ℕ) (old new : List Step) (ws ws' : List Wait) (e : Entry) → Grows clauses depth old new → head ≤ length old → All (λ (s : Step). s.depth ≤ depth) old → All (λ (s : Step). s.depth ≤ depth) new
    → ((n d : ℕ) → Waits ws n d → Waits ws' n d) → IsCovered old ws head i e → IsCovered new ws' head i e
covered-grown clauses depth head i old new ws ws' e grows within deep deep' keeps h = λ d. elim (h d) [
  | inl done ↦ inl (each-grown clauses depth d head old new e grows within deep deep' done)
  | inr waits ↦ inr (keeps i d waits)
]

pub Late-step : (head depth : ℕ) (f : Signed) (clauses : List Kept) (es es' : List Entry) (steps steps' : List Step) (list list' : List Watch) (k k' : ℕ) (ws ws' : List Wait) (row : ℕ) → LateCovers head f es steps list k ws
    → Grows clauses depth steps steps' → All (λ (s : Step). s.depth ≤ depth) steps → All (λ (s : Step). s.depth ≤ depth) steps' → ((n d : ℕ) → Waits ws n d → Waits ws' n d)
    → ((i : ℕ) → i ≢ row → entry_at es' i ≡ entry_at es i) → (entry_at es' row).live ≡ (entry_at es row).live
    → ((entry_at es row).live ≡ true → IsCovered steps' ws' (head + 1) row (entry_at es' row)) → ((i : ℕ) → i ≢ row → IsListed list k i → IsListed list' k' i) → LateCovers head f es' steps' list' k' ws'
Late-step head depth f clauses es es' steps steps' list list' k k' ws ws' row h grows deep deep' keeps others live settled listed =
    let within : head < length steps = h.within in
    let longer : length steps ≤ length steps' = Grows-longer clauses depth steps steps' grows in
    record {
      within = omega arith;
      next = λ d l a.
          elim (h.next d l (subst (λ xs. Assigns xs l) (front-grown clauses depth d (head + 1) steps steps' grows (omega arith) deep deep') a)) [
            | inl old ↦ inl (subst (λ xs. Assigns xs l) (sym (front-grown clauses depth d head steps steps' grows (omega arith) deep deep')) old)
            | inr e ↦ inr e
          ];
      each = λ i is_live. elim (same_or_apart i row) [
        | inl same ↦ inl (subst (λ n. IsCovered steps' ws' (head + 1) n (entry_at es' n)) (sym same) (settled (sym live ∙ subst (λ n. (entry_at es' n).live ≡ true) same is_live)))
        | inr apart ↦
            let e : entry_at es' i ≡ entry_at es i = others i apart in
            let was : (entry_at es i).live ≡ true = sym (ap (λ (x : Entry). x.live) e) ∙ is_live in
            elim (h.each i was) [
              | inl done ↦ inl (subst (IsCovered steps' ws' (head + 1) i) (sym e) (covered-grown clauses depth (head + 1) i steps steps' ws ws' (entry_at es i) grows (omega arith) deep deep' keeps done))
              | inr left ↦ inr (subst (IsCovered steps' ws' head i) (sym e) (covered-grown clauses depth head i steps steps' ws ws' (entry_at es i) grows (omega arith) deep deep' keeps left.0), listed i apart left.1)
            ]
      ];
    }

-- ---- what waits

All-from : {X : Type 0} (P : X → Type 0) (xs : List X) → ((x : X) → Contains xs x → P x) → All P xs
All-from P xs h k d lt = h (get_or xs k d) (Contains-get_or xs k d lt)

pub pinned-waits : (es : List Entry) (steps : List Step) (w : Wait) (s : Signed) → (entry_at es w.row).live ≡ true → Contains (entry_at es w.row).literals w.literal → IsPinned steps (entry_at es w.row).literals w.literal s w.depth → IsWaiting es steps w
pinned-waits es steps w s live contained h = record { live = live; contained = contained; rest = h.rest }

pub pins-grow : (es : List Entry) (depth : ℕ) (steps steps' : List Step) (ws ws' : List Wait) (w : Wait) → IsWaiting es steps w → Pins w depth steps steps' ws ws' → Grows (kept_from 0 es) depth steps steps'
pins-grow es depth steps steps' ws ws' w waits p = force-grows es w depth steps steps steps' true waits (λ l a. a) (Grows-none (kept_from 0 es) depth steps) p.forced

pub ready-pinned : (es : List Entry) (depth : ℕ) (steps steps' : List Step) (ws ws' : List Wait) (w : Wait) → IsWaiting es steps w → Pins w depth steps steps' ws ws' → IsReady es steps depth ws → IsReady es steps' depth ws'
ready-pinned es depth steps steps' ws ws' w waits p h =
    let grows : Grows (kept_from 0 es) depth steps steps' = pins-grow es depth steps steps' ws ws' w waits p in
    record {
      deepest = deepest-grown (kept_from 0 es) steps steps' depth grows h.deepest;
      waiting = waiting-grown (kept_from 0 es) es depth steps steps' ws' grows (All-from (IsWaiting es steps) ws' (λ x c. elim (p.only x c) [ inl old ↦ All-contains (IsWaiting es steps) ws x h.waiting old | inr same ↦ subst (IsWaiting es steps) (sym same) waits ]));
      forced = All-from (λ (x : Wait). Assigns steps' x.literal) ws' (λ x c. elim (p.only x c) [
        | inl old ↦ Grows-assigns (kept_from 0 es) depth steps steps' x.literal grows (All-contains (λ (y : Wait). Assigns steps y.literal) ws x h.forced old)
        | inr same ↦ subst (λ (y : Wait). Assigns steps' y.literal) (sym same) p.forced.0
      ]);
    }

pub ready-shaped : (es es' : List Entry) (steps : List Step) (depth : ℕ) (ws : List Wait) → SameShape es es' → IsReady es steps depth ws → IsReady es' steps depth ws
ready-shaped es es' steps depth ws shape h = record { deepest = h.deepest; waiting = waiting-shaped es es' steps ws shape h.waiting; forced = h.forced }

-- a clause waits at each depth where it did, now by the new wait
pub keeps-pinned : (es : List Entry) (depth : ℕ) (steps steps' : List Step) (ws ws' : List Wait) (w : Wait) (s : Signed) → Contains (entry_at es w.row).literals w.literal → IsPinned steps (entry_at es w.row).literals w.literal s w.depth
    → All (IsWaiting es steps) ws → Pins w depth steps steps' ws ws' → (n d : ℕ) → Waits ws n d → Waits ws' n d
keeps-pinned es depth steps steps' ws ws' w s in-o pinned waiting p n d h = elim (same_or_apart h.wait.row w.row) [
  | inl same ↦
      let x : IsWaiting es steps h.wait = All-contains (IsWaiting es steps) ws h.wait waiting h.contained in
      let rest : All (λ m. (m ≡ h.wait.literal) ⊎ IsFalseOn (up_to h.wait.depth steps) m) (entry_at es w.row).literals = subst (λ i. All (λ m. (m ≡ h.wait.literal) ⊎ IsFalseOn (up_to h.wait.depth steps) m) (entry_at es i).literals) same x.rest in
      let later : h.wait.depth ≤ d = h.from in
      record {
        wait = w;
        contained = p.waits;
        row = sym same ∙ h.row;
        from = elim (below_or_past h.wait.depth w.depth) [
          | inl below ↦ absurd (none_below {l = h.wait.literal} (pinned.below h.wait.depth below) (All-contains (λ m. (m ≡ h.wait.literal) ⊎ IsFalseOn (up_to h.wait.depth steps) m) (entry_at es w.row).literals w.literal rest in-o)
              (All-contains (λ m. (m ≡ h.wait.literal) ⊎ IsFalseOn (up_to h.wait.depth steps) m) (entry_at es w.row).literals s rest pinned.contained))
          | inr past ↦ omega arith
        ];
      }
  | inr apart ↦ record { wait = h.wait; contained = p.keeps h.wait h.contained apart; row = h.row; from = h.from }
]
  where
    none_below : {xs : List Step} {o s l : Signed} → AreOpen xs o s → (o ≡ l) ⊎ IsFalseOn xs o → (s ≡ l) ⊎ IsFalseOn xs s → ⊥
    none_below open' (inl a) (inl b) = open'.apart (a ∙ sym b)
    none_below open' (inl a) (inr f) = open'.second f
    none_below open' (inr f) b = open'.first f

-- ---- a clause that is pinned

from_within : (depth : ℕ) (steps : List Step) (ls : List Signed) (o s : Signed) (from : ℕ) → All (λ (x : Step). x.depth ≤ depth) steps → IsPinned steps ls o s from → from ≤ depth
from_within depth steps ls o s from deep h = elim (below_or_past depth from) [
  | inl below ↦ absurd ((h.below depth below).second (subst (λ xs. IsFalseOn xs s) (sym (up_to-all depth steps deep)) h.is_false))
  | inr past ↦ past
]

pub pinned-covered : (clauses : List Kept) (depth n row : ℕ) (steps steps' : List Step) (ws ws' : List Wait) (ls : List Signed) (w : Wait) (s : Signed) (e : Entry) → w.row ≡ row → Grows clauses depth steps steps' → All (λ (x : Step). x.depth ≤ depth) steps
    → IsPinned steps ls w.literal s w.depth → Pins w depth steps steps' ws ws' → ((e.first ≡ w.literal) × (e.second ≡ s)) ⊎ ((e.first ≡ s) × (e.second ≡ w.literal)) → IsCovered steps' ws' n row e
pinned-covered clauses depth n row steps steps' ws ws' ls w s e is_row grows deep h p pair = λ d. elim (below_or_past d w.depth) [
  | inl below ↦ inl (
      let within : w.depth ≤ depth = from_within depth steps ls w.literal s w.depth deep h in
      let o : AreOpen (up_to d steps) w.literal s = h.below d below in
      let o' : AreOpen (up_to d steps') w.literal s = subst (λ xs. AreOpen xs w.literal s) (sym (up_to-grown clauses depth d steps steps' grows (omega arith))) o in
      open_covered (up_to d steps') n w.literal s e o' pair)
  | inr past ↦ inr (record { wait = w; contained = p.waits; row = is_row; from = past })
]
  where
    open_covered : (xs : List Step) (n : ℕ) (a b : Signed) (e : Entry) → AreOpen xs a b → ((e.first ≡ a) × (e.second ≡ b)) ⊎ ((e.first ≡ b) × (e.second ≡ a)) → IsSettled (take n xs) xs e
    open_covered xs n a b e o (inl q) = inr (record {
      apart = λ x. o.apart (sym q.0 ∙ (x ∙ q.1));
      first = λ x. o.first (subst (IsFalseOn xs) q.0 (Assigns-front n xs (opposite e.first) x));
      second = λ x. o.second (subst (IsFalseOn xs) q.1 (Assigns-front n xs (opposite e.second) x));
    })
    open_covered xs n a b e o (inr q) = inr (record {
      apart = λ x. o.apart (sym q.1 ∙ (sym x ∙ q.0));
      first = λ x. o.second (subst (IsFalseOn xs) q.0 (Assigns-front n xs (opposite e.first) x));
      second = λ x. o.first (subst (IsFalseOn xs) q.1 (Assigns-front n xs (opposite e.second) x));
    })

-- ---- a clause watched by another literal, which isn't false

pub moved-covered : (head : ℕ) (f : Signed) (es : List Entry) (steps : List Step) (list : List Watch) (k row : ℕ) (ws : List Wait) (kept found : Signed) → LateCovers head f es steps list k ws → (entry_at es row).live ≡ true → IsOther (entry_at es row) f kept → (kept ≡ f → ⊥)
    → (found ≡ kept → ⊥) → (IsFalseOn steps found → ⊥) → IsCovered steps ws (head + 1) row (watched (entry_at es row) kept found)
moved-covered head f es steps list k row ws kept found h live other kept_f apart not_false =
    let e = entry_at es row in
    let is_kept : (e.first ≡ kept) ⊎ (e.second ≡ kept) = elim other.pair [ inl p ↦ inr p.1 | inr p ↦ inl p.1 ] in
    let never : (d n : ℕ) → IsFalseOn (take n (up_to d steps)) found → ⊥ = λ d n x. not_false (up_to-assigns d steps (opposite found) (Assigns-front n (up_to d steps) (opposite found) x)) in
    elim (h.each row live) [
      | inl done ↦ λ d. elim (done d) [
        | inl settled ↦ inl (awake_on f (take (head + 1) (up_to d steps)) (up_to d steps) e kept found is_kept apart (never d (head + 1)) settled)
        | inr waits ↦ inr waits
      ]
      | inr left ↦ λ d. elim (left.0 d) [
        | inl settled ↦ inl (awake_after f (take head (up_to d steps)) (take (head + 1) (up_to d steps)) (up_to d steps) e kept found other kept_f apart (never d (head + 1)) (h.next d) settled)
        | inr waits ↦ inr waits
      ]
    ]

-- ---- what a look finds

pub is-pinned : (steps : List Step) (ls : List Signed) (o s l : Signed) (from : ℕ) → Contains ls l → IsFalseOn steps l → (IsFalseOn steps o → ⊥) → All (λ m. (m ≡ o) ⊎ IsFalseOn steps m) ls → Contains ls s → (o ≡ s → All (λ m. m ≡ o) ls)
    → All (λ m. (m ≡ o) ⊎ Outlasts steps s m) ls → ((s ≡ o → ⊥) → IsFrom steps (opposite s) from) → IsPinned steps ls o s from
is-pinned steps ls o s l from in-l false-l not_false rest contained single others at =
    let apart : s ≡ o → ⊥ = λ e. not_false (subst (IsFalseOn steps) (All-contains (λ m. m ≡ o) ls l (single (sym e)) in-l) false-l) in
    let is : IsFrom steps (opposite s) from = at apart in
    record {
      contained = contained;
      apart = apart;
      is_false = elim (All-contains (λ m. (m ≡ o) ⊎ IsFalseOn steps m) ls s rest contained) [ inl e ↦ absurd (apart e) | inr f ↦ f ];
      not_false = not_false;
      rest = All-weaker (λ m. (m ≡ o) ⊎ Outlasts steps s m) (λ m. (m ≡ o) ⊎ IsFalseOn (up_to from steps) m) (λ m p. elim p [ inl e ↦ inl e | inr out ↦ inr (out from (is.after from (omega arith))) ]) ls others;
      below = λ d lt. record {
        apart = λ e. apart (sym e);
        first = λ f. not_false (up_to-assigns d steps (opposite o) f);
        second = λ f. is.before d lt f;
      };
    }
