-- What is true at each depth, as steps grow and watches are gone through.
use Rattle.std.proofs.Common.{◌≡◌, ℕ, ◌+◌, ◌<◌, ◌≤◌, Bool, true, false, List, [], ◌∷◌, ◌++◌, All, Contains, length, take, get_or, map, filter, nat_le, subst, sym, ap, ◌∙◌, refl, inl, inr, ◌⊎◌, arith}
use Rattle.std.proofs.lemmas.Bool.{le-leb, leb-true}
use Rattle.std.proofs.lemmas.List.{append-nil, take-append-le, take-take, take_all, length_push, get_or-map, length-map}
use Rattle.std.proofs.lemmas.List.Elements.{filter-append, filter_passes, All-append, All-push, All-head, All-tail, All-weaker, All-contains, All-filter, All-contains_itself, Contains-push, Contains-get_or}
use Rattle.std.proofs.lemmas.Bool.Decides.{nat_tests}
use Rattle.literals.specs.Signed.{Signed, opposite}
use Rattle.clause_store.specs.Trail.{Assigns, up_to}
use Rattle.clause_store.specs.declared.trail.Step.{Step}
use Rattle.clause_store.specs.Stored.{Kept, IsFalseOn, IsQuiet}
use Rattle.clause_store.specs.Entries.{Entry, entry_at, zero_literal}
use Rattle.clause_store.specs.Visits.{Parts}
use Rattle.clause_store.specs.Watching.{IsSettled, IsPair, View, Grows, SameShape}
use Rattle.clause_store.specs.From.{AreLast}
use Rattle.clause_store.specs.Rested.{Rested, IsWaiting, Waits, OthersFalse}
use Rattle.clause_store.specs.Runs.{Rests, Runs, IsConsistent}
use Rattle.clause_store.specs.Forcing.{AllForced}
use Rattle.clause_store.proofs.Sweeping.{IsSettled-more, live_within}
use Rattle.clause_store.proofs.Filters.{one_in, kept_by, up_to-assigns}
use Rattle.clause_store.proofs.Forces.{OthersFalse-more}
use Rattle.clause_store.proofs.Kept.{Grows-assigns, Assigns-append, Assigns-push}
use Rattle.clause_store.proofs.Turning.{Assigns-front, Grows-longer}
use Rattle.std.proofs.Math.Seq.{take-length}
use Rattle.clause_store.specs.declared.waits.Wait.{Wait}

-- ---- steps of lower depths

filter_all : (p : Step → Bool) (xs : List Step) → All (λ x. p x ≡ true) xs → filter p xs ≡ xs
filter_all p [] h = refl
filter_all p (x ∷ xs) h =
    let head : p x ≡ true = All-head (λ x. p x ≡ true) x xs h in
    rw head (ap (λ ys. x ∷ ys) (filter_all p xs (All-tail (λ x. p x ≡ true) x xs h)))

pub up_to-all : (d : ℕ) (steps : List Step) → All (λ (s : Step). s.depth ≤ d) steps → up_to d steps ≡ steps
up_to-all d steps h = filter_all (λ (s : Step). nat_le s.depth d) steps (All-weaker (λ (s : Step). s.depth ≤ d) (λ (s : Step). nat_le s.depth d ≡ true) (λ s le. grind (arith, nat_tests)) steps h)

le_test : (a b : ℕ) → a ≤ b → nat_le a b ≡ true
le_test a b h = grind (arith, nat_tests)

test_le : (a b : ℕ) → nat_le a b ≡ true → a ≤ b
test_le a b h = grind (arith, nat_tests)

false_true : false ≡ true → ⊥
false_true e = cc

by_tests : (d d' : ℕ) (s : Step) (steps : List Step) (p q : Bool) → nat_le s.depth d ≡ p → nat_le s.depth d' ≡ q → d' ≤ d → up_to d' (up_to d steps) ≡ up_to d' steps → up_to d' (up_to d (s ∷ steps)) ≡ up_to d' (s ∷ steps)
by_tests d d' s steps true true e f le rest = rw (e, f) (ap (λ xs. s ∷ xs) rest)
by_tests d d' s steps true false e f le rest = rw (e, f) rest
by_tests d d' s steps false true e f le rest = absurd (false_true (sym e ∙ le_test s.depth d (let k : s.depth ≤ d' = test_le s.depth d' f in omega arith)))
by_tests d d' s steps false false e f le rest = rw (e, f) rest

pub up_to-up_to : (d d' : ℕ) (steps : List Step) → d' ≤ d → up_to d' (up_to d steps) ≡ up_to d' steps
up_to-up_to d d' [] le = refl
up_to-up_to d d' (s ∷ steps) le = by_tests d d' s steps (nat_le s.depth d) (nat_le s.depth d') refl refl le (up_to-up_to d d' steps le)

pub up_to-deepest : (d : ℕ) (steps : List Step) → All (λ (s : Step). s.depth ≤ d) (up_to d steps)
up_to-deepest d steps = All-weaker (λ (s : Step). nat_le s.depth d ≡ true) (λ (s : Step). s.depth ≤ d) (λ s e. test_le s.depth d e) (up_to d steps) (filter_passes (λ (s : Step). nat_le s.depth d) steps)

pub less_seen : (seen seen' steps : List Step) (e : Entry) → ((l : Signed) → Assigns seen' l → Assigns seen l) → IsSettled seen steps e → IsSettled seen' steps e
less_seen seen seen' steps e less (inl s) = inl s
less_seen seen seen' steps e less (inr a) = inr (record { apart = a.apart; first = λ x. a.first (less (opposite e.first) x); second = λ x. a.second (less (opposite e.second) x) })

none_up_to : (d depth : ℕ) (added : List Step) → d < depth → All (λ (s : Step). s.depth ≡ depth) added → up_to d added ≡ []
none_up_to d depth [] lt h = refl
none_up_to d depth (s ∷ added) lt h =
    let here : s.depth ≡ depth = All-head (λ (s : Step). s.depth ≡ depth) s added h in
    let no : nat_le s.depth d ≡ false = grind (arith, nat_tests) in
    rw no (none_up_to d depth added lt (All-tail (λ (s : Step). s.depth ≡ depth) s added h))

pub up_to-grown : (clauses : List Kept) (depth d : ℕ) (old new : List Step) → Grows clauses depth old new → d < depth → up_to d new ≡ up_to d old
up_to-grown clauses depth d old new h lt =
    ap (up_to d) h.gains ∙ (filter-append (λ (s : Step). nat_le s.depth d) old h.added ∙ (ap (λ xs. up_to d old ++ xs) (none_up_to d depth h.added lt h.reached.at_depth) ∙ append-nil (up_to d old)))

-- ---- quiet clauses

pub settled_quiet : (steps : List Step) (e : Entry) → IsPair e → IsConsistent steps → IsSettled steps steps e → IsQuiet steps e.literals
settled_quiet steps e pair con (inl s) = record {
  not_false = λ all. con s.literal s.assigned (All-contains (IsFalseOn steps) e.literals s.literal all s.contained);
  not_unit = λ l o u. elim (All-contains (λ m. (m ≡ l) ⊎ IsFalseOn steps m) e.literals s.literal u.1 s.contained) [
    | inl same ↦ o.0 (subst (Assigns steps) same s.assigned)
    | inr f ↦ con s.literal s.assigned f
  ];
}
settled_quiet steps e pair con (inr a) = record {
  not_false = λ all. a.first (All-contains (IsFalseOn steps) e.literals e.first all pair.first);
  not_unit = λ l o u. elim (All-contains (λ m. (m ≡ l) ⊎ IsFalseOn steps m) e.literals e.first u.1 pair.first) [
    | inl x ↦ elim (All-contains (λ m. (m ≡ l) ⊎ IsFalseOn steps m) e.literals e.second u.1 pair.second) [
      | inl y ↦ a.apart (x ∙ sym y)
      | inr f ↦ a.second f
    ]
    | inr f ↦ a.first f
  ];
}

-- ---- waiting clauses

-- those that wait from a depth on, or a lower one
abbrev pub waiting_by : ℕ → List Wait → List Wait
waiting_by d ws = filter (λ (w : Wait). nat_le w.depth d) ws

pub waits_row : (ws : List Wait) (i d : ℕ) → Waits ws i d → Contains (map (λ (w : Wait). w.row) (waiting_by d ws)) i
waits_row ws i d h =
    let early : nat_le h.wait.depth d ≡ true = le-leb h.wait.depth d h.from in
    let k = kept_by (λ (w : Wait). nat_le w.depth d) ws h.wait h.contained early in
    (k.0, omega (arith, length-map (waiting_by d ws) (λ (w : Wait). w.row), k.1), get_or-map (λ (w : Wait). w.row) (waiting_by d ws) k.0 h.wait i k.1 ∙ (ap (λ (w : Wait). w.row) k.2 ∙ h.row))

abbrev pub no_wait : Wait
no_wait = record { row = 0; literal = zero_literal; depth = 0 }

pub row_waits : (ws : List Wait) (i d : ℕ) → Contains (map (λ (w : Wait). w.row) (waiting_by d ws)) i → Waits ws i d
row_waits ws i d h =
    let lt : h.0 < length (waiting_by d ws) = omega (arith, length-map (waiting_by d ws) (λ (w : Wait). w.row), h.1) in
    let in' : All (Contains ws) (waiting_by d ws) = All-filter (λ (w : Wait). nat_le w.depth d) (Contains ws) ws (All-contains_itself ws) in
    let by : All (λ (w : Wait). nat_le w.depth d ≡ true) (waiting_by d ws) = filter_passes (λ (w : Wait). nat_le w.depth d) ws in
    record {
      wait = get_or (waiting_by d ws) h.0 no_wait;
      contained = in' h.0 no_wait lt;
      row = sym (get_or-map (λ (w : Wait). w.row) (waiting_by d ws) h.0 no_wait i lt) ∙ h.2;
      from = leb-true (get_or (waiting_by d ws) h.0 no_wait).depth d (by h.0 no_wait lt);
    }

pub Waits-later : (ws : List Wait) (i d e : ℕ) → d ≤ e → Waits ws i d → Waits ws i e
Waits-later ws i d e le h = record { wait = h.wait; contained = h.contained; row = h.row; from = (let f : h.wait.depth ≤ d = h.from in omega arith) }

-- ---- steps grow

pub IsWaiting-on : (es : List Entry) (old new : List Step) (w : Wait) → ((l : Signed) → Assigns (up_to w.depth old) l → Assigns (up_to w.depth new) l) → IsWaiting es old w → IsWaiting es new w
IsWaiting-on es old new w more x = record { live = x.live; contained = x.contained; rest = OthersFalse-more (up_to w.depth old) (up_to w.depth new) (entry_at es w.row).literals w.literal more x.rest }

-- more steps leave more up to each depth
pub up_to-more : (d : ℕ) (steps added : List Step) (l : Signed) → Assigns (up_to d steps) l → Assigns (up_to d (steps ++ added)) l
up_to-more d steps added l h =
    subst (λ xs. Assigns xs l) (sym (filter-append (λ (s : Step). nat_le s.depth d) steps added)) (Assigns-append (up_to d steps) (up_to d added) l h)

pub IsWaiting-more : (es : List Entry) (steps added : List Step) (ws : List Wait) → All (IsWaiting es steps) ws → All (IsWaiting es (steps ++ added)) ws
IsWaiting-more es steps added ws h = All-weaker (IsWaiting es steps) (IsWaiting es (steps ++ added)) (λ w x. IsWaiting-on es steps (steps ++ added) w (up_to-more w.depth steps added) x) ws h

-- a clause settled up to each depth is so with more steps, at the depths that these don't reach and at those that have all
pub below_or_past : (a b : ℕ) → (a < b) ⊎ (b ≤ a)
below_or_past a b = grind arith

pub each-grown : (clauses : List Kept) (depth d lasting : ℕ) (old new : List Step) (e : Entry) → Grows clauses depth old new → lasting ≤ length old → All (λ (s : Step). s.depth ≤ depth) old → All (λ (s : Step). s.depth ≤ depth) new
    → IsSettled (take lasting (up_to d old)) (up_to d old) e → IsSettled (take lasting (up_to d new)) (up_to d new) e
each-grown clauses depth d lasting old new e grows within deep deep' h = elim (below_or_past d depth) [
  | inl below ↦ rw (up_to-grown clauses depth d old new grows below) h
  | inr past ↦
      let all : up_to d old ≡ old = up_to-all d old (All-weaker (λ (s : Step). s.depth ≤ depth) (λ (s : Step). s.depth ≤ d) (λ s le. omega arith) old deep) in
      let all' : up_to d new ≡ new = up_to-all d new (All-weaker (λ (s : Step). s.depth ≤ depth) (λ (s : Step). s.depth ≤ d) (λ s le. omega arith) new deep') in
      let front : take lasting new ≡ take lasting old = ap (λ (xs : List Step). take lasting xs) grows.gains ∙ take-append-le lasting old grows.added within in
      let was : IsSettled (take lasting old) old e = subst (λ xs. IsSettled (take lasting xs) xs e) all h in
      subst (λ xs. IsSettled (take lasting xs) xs e) (sym all') (subst (λ xs. IsSettled xs new e) (sym front) (IsSettled-more (take lasting old) old new e (λ l a. Grows-assigns clauses depth old new l grows a) was))
]

pub deepest-grown : (clauses : List Kept) (old new : List Step) (depth : ℕ) → Grows clauses depth old new → All (λ (s : Step). s.depth ≤ depth) old → All (λ (s : Step). s.depth ≤ depth) new
deepest-grown clauses old new depth grows h =
    subst (All (λ (s : Step). s.depth ≤ depth)) (sym grows.gains)
    (All-append (λ (s : Step). s.depth ≤ depth) old grows.added h (All-weaker (λ (s : Step). s.depth ≡ depth) (λ (s : Step). s.depth ≤ depth) (λ s e. omega arith) grows.added grows.reached.at_depth))

pub waiting-grown : (clauses : List Kept) (es : List Entry) (depth : ℕ) (old new : List Step) (ws : List Wait) → Grows clauses depth old new → All (IsWaiting es old) ws → All (IsWaiting es new) ws
waiting-grown clauses es depth old new ws grows h = subst (λ xs. All (IsWaiting es xs) ws) (sym grows.gains) (IsWaiting-more es old grows.added ws h)

pub Rested-grown : (clauses : List Kept) (es : List Entry) (old new : List Step) (depth head lasting : ℕ) (ws : List Wait) → Grows clauses depth old new
    → Rested es old depth head lasting ws → Rested es new depth head lasting ws
Rested-grown clauses es old new depth head lasting ws grows h =
    let more : (l : Signed) → Assigns old l → Assigns new l = λ l a. Grows-assigns clauses depth old new l grows a in
    let longer : length old ≤ length new = Grows-longer clauses depth old new grows in
    let within : head ≤ length old = h.head_within in
    let within' : lasting ≤ length old = h.lasting_within in
    let front : take head new ≡ take head old = ap (λ (xs : List Step). take head xs) grows.gains ∙ take-append-le head old grows.added within in
    let deep : All (λ (s : Step). s.depth ≤ depth) new = deepest-grown clauses old new depth grows h.deepest in
    record {
      deepest = deep;
      head_within = omega arith;
      lasting_within = omega arith;
      current = λ i live. elim (h.current i live) [
        | inl done ↦ inl (rw front (IsSettled-more (take head old) old new (entry_at es i) more done))
        | inr waits ↦ inr waits
      ];
      each = λ d i live. elim (h.each d i live) [
        | inl done ↦ inl (each-grown clauses depth d lasting old new (entry_at es i) grows within' h.deepest deep done)
        | inr waits ↦ inr waits
      ];
      waiting = waiting-grown clauses es depth old new ws grows h.waiting;
    }

-- ---- and watches are gone through

abbrev pub view_at : List Entry → List Step → ℕ → List Wait → ℕ → View
view_at es steps lasting ws d = record {
  rows = length es;
  steps = up_to d steps;
  seen = take lasting (up_to d steps);
  waiting = map (λ (w : Wait). w.row) (waiting_by d ws);
}

pub forced_settled : (es : List Entry) (seen steps : List Step) (ws : List Wait) (i d : ℕ) → All (IsWaiting es steps) ws → AllForced steps ws → Waits ws i d → IsSettled seen steps (entry_at es i)
forced_settled es seen steps ws i d waiting forced h =
    let w : IsWaiting es steps h.wait = All-contains (IsWaiting es steps) ws h.wait waiting h.contained in
    inl (record {
      literal = h.wait.literal;
      contained = subst (λ n. Contains (entry_at es n).literals h.wait.literal) h.row w.contained;
      assigned = All-contains (λ (x : Wait). Assigns steps x.literal) ws h.wait forced h.contained;
    })

pub Rested-view : (es : List Entry) (steps : List Step) (depth head lasting d : ℕ) (ws : List Wait) → AllForced steps ws → Rested es steps depth head lasting ws
    → Rests (view_at es steps lasting ws d ∷ []) es steps head
Rested-view es steps depth head lasting d ws forced h = record {
  current = λ i live. elim (h.current i live) [ inl done ↦ done | inr waits ↦ forced_settled es (take head steps) steps ws i depth h.waiting forced waits ];
  views_on = λ v c l a. subst (λ (x : View). Assigns x.seen l → Assigns steps l) (one_in (view_at es steps lasting ws d) v c)
      (λ b. up_to-assigns d steps l (Assigns-front lasting (up_to d steps) l b)) a;
  lower = λ v c i below live. subst (λ (x : View). Contains x.waiting i ⊎ IsSettled x.seen x.steps (entry_at es i)) (one_in (view_at es steps lasting ws d) v c)
      (elim (h.each d i live) [ inl done ↦ inr done | inr waits ↦ inl (waits_row ws i d waits) ]);
}

pub Rested-none : (es : List Entry) (steps : List Step) (depth head lasting : ℕ) (ws : List Wait) → AllForced steps ws → Rested es steps depth head lasting ws → Rests [] es steps head
Rested-none es steps depth head lasting ws forced h = record {
  current = λ i live. elim (h.current i live) [ inl done ↦ done | inr waits ↦ forced_settled es (take head steps) steps ws i depth h.waiting forced waits ];
  views_on = λ v c. absurd (omega (arith, c.1));
  lower = λ v c. absurd (omega (arith, c.1));
}

pub waiting-shaped : (es es' : List Entry) (steps : List Step) (ws : List Wait) → SameShape es es' → All (IsWaiting es steps) ws → All (IsWaiting es' steps) ws
waiting-shaped es es' steps ws shape h = All-weaker (IsWaiting es steps) (IsWaiting es' steps)
    (λ w x. record {
      live = shape.live w.row ∙ x.live;
      contained = subst (λ ls. Contains ls w.literal) (sym (shape.literals w.row)) x.contained;
      rest = subst (λ ls. OthersFalse (up_to w.depth steps) ls w.literal) (sym (shape.literals w.row)) x.rest;
    }) ws h

pub Rested-run : (atoms : ℕ) (clauses : List Kept) (p p' : Parts) (depth head head' lasting : ℕ) (ws : List Wait) → Grows clauses depth p.steps p'.steps → head' ≤ length p'.steps → AllForced p.steps ws
    → Rested p.entries p.steps depth head lasting ws → Runs atoms p p' head head' → Rested p'.entries p'.steps depth head' lasting ws
Rested-run atoms clauses p p' depth head head' lasting ws grows within forced h r =
    let longer : length p.steps ≤ length p'.steps = Grows-longer clauses depth p.steps p'.steps grows in
    let within' : lasting ≤ length p.steps = h.lasting_within in
    let deep : All (λ (s : Step). s.depth ≤ depth) p'.steps = deepest-grown clauses p.steps p'.steps depth grows h.deepest in
    record {
      deepest = deep;
      head_within = within;
      lasting_within = omega arith;
      current = λ i live. inl ((r.rests [] (Rested-none p.entries p.steps depth head lasting ws forced h)).current i live);
      each = λ d i live.
          let v = view_at p.entries p.steps lasting ws d in
          let rests : Rests (v ∷ []) p'.entries p'.steps head' = r.rests (v ∷ []) (Rested-view p.entries p.steps depth head lasting d ws forced h) in
          let in' : i < length p'.entries = live_within p'.entries i live in
          let found : Contains v.waiting i ⊎ IsSettled v.seen v.steps (entry_at p'.entries i) = rests.lower v (Contains-push [] v) i (omega (arith, r.shape.count)) live in
          elim found [
            | inl waits ↦ inr (row_waits ws i d waits)
            | inr done ↦ inl (each-grown clauses depth d lasting p.steps p'.steps (entry_at p'.entries i) grows within' h.deepest deep done)
          ];
      waiting = waiting-grown clauses p'.entries depth p.steps p'.steps ws grows (waiting-shaped p.entries p'.entries p.steps ws r.shape h.waiting);
    }

-- ---- propagation

pub whole : (head : ℕ) (steps : List Step) → head ≡ length steps → take head steps ≡ steps
whole head steps e = ap (λ n. take n steps) e ∙ take-length steps

-- at a fixpoint none needs to wait from the present depth on
pub Rested-done : (es : List Entry) (steps : List Step) (depth head lasting : ℕ) (ws ws' : List Wait) → head ≡ length steps
    → ((i : ℕ) → (entry_at es i).live ≡ true → IsSettled steps steps (entry_at es i))
    → ((w : Wait) → Contains ws w → w.depth < depth → Contains ws' w) → ((w : Wait) → Contains ws' w → Contains ws w × (w.depth < depth))
    → Rested es steps depth head lasting ws → Rested es steps depth head lasting ws'
Rested-done es steps depth head lasting ws ws' at_end settled keeps only h = record {
  deepest = h.deepest;
  head_within = h.head_within;
  lasting_within = h.lasting_within;
  current = λ i live. inl (subst (λ xs. IsSettled xs steps (entry_at es i)) (sym (whole head steps at_end)) (settled i live));
  each = λ d i live. elim (below_or_past d depth) [
    | inl below ↦ elim (h.each d i live) [
      | inl done ↦ inl done
      | inr waits ↦ inr (record { wait = waits.wait; contained = keeps waits.wait waits.contained (let f : waits.wait.depth ≤ d = waits.from in omega arith); row = waits.row; from = waits.from })
    ]
    | inr past ↦ inl (
        let all : up_to d steps ≡ steps = up_to-all d steps (All-weaker (λ (s : Step). s.depth ≤ depth) (λ (s : Step). s.depth ≤ d) (λ s le. omega arith) steps h.deepest) in
        subst (λ xs. IsSettled (take lasting xs) xs (entry_at es i)) (sym all) (less_seen steps (take lasting steps) steps (entry_at es i) (λ l a. Assigns-front lasting steps l a) (settled i live)))
  ];
  waiting = λ k d lt. All-contains (IsWaiting es steps) ws (get_or ws' k d) h.waiting (only (get_or ws' k d) (Contains-get_or ws' k d lt)).0;
}

-- where the steps of lower depths were all gone through, and lasted, all that are gone through now last
pub Rested-lasts : (es : List Entry) (clauses : List Kept) (old steps : List Step) (depth head start : ℕ) (ws : List Wait) → Grows clauses depth old steps → AreLast old depth start
    → Rested es steps depth head start ws → Rested es steps depth head head ws
Rested-lasts es clauses old steps depth head start ws grows last h = record {
  deepest = h.deepest;
  head_within = h.head_within;
  lasting_within = h.head_within;
  current = h.current;
  each = λ d i live. elim (below_or_past d depth) [
    | inl below ↦ elim (h.each d i live) [
      | inl done ↦ inl (
          let short : length (up_to d old) ≤ start = last d below in
          let same : up_to d steps ≡ up_to d old = up_to-grown clauses depth d old steps grows below in
          let all : take start (up_to d steps) ≡ up_to d steps = take_all start (up_to d steps) (subst (λ (xs : List Step). length xs ≤ start) (sym same) short) in
          less_seen (up_to d steps) (take head (up_to d steps)) (up_to d steps) (entry_at es i) (λ l a. Assigns-front head (up_to d steps) l a)
          (subst (λ xs. IsSettled xs (up_to d steps) (entry_at es i)) all done))
      | inr waits ↦ inr waits
    ]
    | inr past ↦
        let all : up_to d steps ≡ steps = up_to-all d steps (All-weaker (λ (s : Step). s.depth ≤ depth) (λ (s : Step). s.depth ≤ d) (λ s le. omega arith) steps h.deepest) in
        elim (h.current i live) [
          | inl done ↦ inl (subst (λ xs. IsSettled (take head xs) xs (entry_at es i)) (sym all) done)
          | inr waits ↦ inr (Waits-later ws i depth d past waits)
        ]
  ];
  waiting = h.waiting;
}

-- ---- a decision

pub up_to-deeper : (d : ℕ) (steps : List Step) (s : Step) → d < s.depth → up_to d (steps ++ s ∷ []) ≡ up_to d steps
up_to-deeper d steps s lt =
    let no : nat_le s.depth d ≡ false = grind (arith, nat_tests) in
    filter-append (λ (s : Step). nat_le s.depth d) steps (s ∷ []) ∙ rw no (append-nil (up_to d steps))

pub Rested-decide : (es : List Entry) (steps : List Step) (depth head lasting : ℕ) (ws : List Wait) (s : Step) → s.depth ≡ depth + 1
    → Rested es steps depth head lasting ws → Rested es (steps ++ s ∷ []) (depth + 1) head lasting ws
Rested-decide es steps depth head lasting ws s deep h =
    let within : head ≤ length steps = h.head_within in
    let within' : lasting ≤ length steps = h.lasting_within in
    let more : (l : Signed) → Assigns steps l → Assigns (steps ++ s ∷ []) l = λ l a. Assigns-push steps s l a in
    record {
      deepest = All-push (λ (t : Step). t.depth ≤ depth + 1) steps s (All-weaker (λ (t : Step). t.depth ≤ depth) (λ (t : Step). t.depth ≤ depth + 1) (λ t le. omega arith) steps h.deepest) (omega arith);
      head_within = omega (arith, length_push steps s);
      lasting_within = omega (arith, length_push steps s);
      current = λ i live. elim (h.current i live) [
        | inl done ↦ inl (rw (take-append-le head steps (s ∷ []) within) (IsSettled-more (take head steps) steps (steps ++ s ∷ []) (entry_at es i) more done))
        | inr waits ↦ inr (Waits-later ws i depth (depth + 1) (omega arith) waits)
      ];
      each = λ d i live. elim (h.each d i live) [
        | inr waits ↦ inr waits
        | inl done ↦ inl (elim (below_or_past d (depth + 1)) [
          | inl below ↦ rw (up_to-deeper d steps s (omega arith)) done
          | inr past ↦
              let all : up_to d steps ≡ steps = up_to-all d steps (All-weaker (λ (t : Step). t.depth ≤ depth) (λ (t : Step). t.depth ≤ d) (λ t le. omega arith) steps h.deepest) in
              let all' : up_to d (steps ++ s ∷ []) ≡ steps ++ s ∷ [] =
              up_to-all d (steps ++ s ∷ []) (All-push (λ (t : Step). t.depth ≤ d) steps s (All-weaker (λ (t : Step). t.depth ≤ depth) (λ (t : Step). t.depth ≤ d) (λ t le. omega arith) steps h.deepest) (omega arith)) in
              subst (λ xs. IsSettled (take lasting xs) xs (entry_at es i)) (sym all')
              (subst (λ xs. IsSettled xs (steps ++ s ∷ []) (entry_at es i)) (sym (take-append-le lasting steps (s ∷ []) within'))
              (IsSettled-more (take lasting steps) steps (steps ++ s ∷ []) (entry_at es i) more (subst (λ xs. IsSettled (take lasting xs) xs (entry_at es i)) all done)))
        ])
      ];
      waiting = IsWaiting-more es steps (s ∷ []) ws h.waiting;
    }

-- ---- decisions undone

pub Rested-undo : (es : List Entry) (steps : List Step) (depth head lasting d : ℕ) (ws ws' : List Wait) (lasting' : ℕ) → Rested es steps depth head lasting ws → lasting' ≤ lasting → lasting' ≤ length (up_to d steps)
    → ((w : Wait) → Contains ws w → w.depth < d + 1 → Contains ws' w) → ((w : Wait) → Contains ws' w → Contains ws w × (w.depth < d + 1))
    → Rested es (up_to d steps) d lasting' lasting' ws'
Rested-undo es steps depth head lasting d ws ws' lasting' h le within keeps only =
    let kept : (i e : ℕ) → e ≤ d → Waits ws i e → Waits ws' i e = λ i e low x. record { wait = x.wait; contained = keeps x.wait x.contained (let f : x.wait.depth ≤ e = x.from in omega arith); row = x.row; from = x.from } in
    let fewer : (xs : List Step) (e : Entry) → IsSettled (take lasting xs) xs e → IsSettled (take lasting' xs) xs e =
    λ xs e done. less_seen (take lasting xs) (take lasting' xs) xs e (λ l a. Assigns-front lasting' (take lasting xs) l (subst (λ ys. Assigns ys l) (sym (take-take lasting' lasting xs le)) a)) done in
    let at : (e i : ℕ) → e ≤ d → (entry_at es i).live ≡ true → IsSettled (take lasting' (up_to e steps)) (up_to e steps) (entry_at es i) ⊎ Waits ws' i e =
    λ e i low live. elim (h.each e i live) [ inl done ↦ inl (fewer (up_to e steps) (entry_at es i) done) | inr waits ↦ inr (kept i e low waits) ] in
    record {
      deepest = up_to-deepest d steps;
      head_within = within;
      lasting_within = within;
      current = λ i live. at d i (omega arith) live;
      each = λ e i live. elim (below_or_past e (d + 1)) [
        | inl low ↦ rw (up_to-up_to d e steps (omega arith)) (at e i (omega arith) live)
        | inr high ↦
            let all : up_to e (up_to d steps) ≡ up_to d steps = up_to-all e (up_to d steps) (All-weaker (λ (s : Step). s.depth ≤ d) (λ (s : Step). s.depth ≤ e) (λ s k. omega arith) (up_to d steps) (up_to-deepest d steps)) in
            elim (at d i (omega arith) live) [
              | inl done ↦ inl (subst (λ xs. IsSettled (take lasting' xs) xs (entry_at es i)) (sym all) done)
              | inr waits ↦ inr (Waits-later ws' i d e (omega arith) waits)
            ]
      ];
      waiting = λ k x lt.
          let w : Wait = get_or ws' k x in
          let o = only w (Contains-get_or ws' k x lt) in
          let early : w.depth < d + 1 = o.1 in
          IsWaiting-on es steps (up_to d steps) w (λ l a. subst (λ xs. Assigns xs l) (sym (up_to-up_to d w.depth steps (omega arith))) a) (All-contains (IsWaiting es steps) ws w h.waiting o.0);
    }
