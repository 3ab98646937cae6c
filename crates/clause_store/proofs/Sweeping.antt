-- What stays true of clauses and lists as a literal's watches are gone through.
use Rattle.std.proofs.Common.{◌≡◌, ◌≢◌, ℕ, ◌*◌, ◌<◌, ◌≤◌, true, false, List, [], ◌∷◌, ◌++◌, All, Contains, length, set, subst, sym, ap, ◌∙◌, refl, inl, inr, ◌⊎◌, arith}
use Rattle.std.proofs.lemmas.List.{length-set, get_or-set_same, get_or-set_other, get_or_past}
use Rattle.std.proofs.lemmas.List.Elements.{All-weaker, All-push, All-contains}
use Rattle.literals.specs.Signed.{Signed, opposite, packed}
use Rattle.clause_store.specs.Trail.{Assigns}
use Rattle.clause_store.specs.declared.trail.Step.{Step}
use Rattle.clause_store.specs.Entries.{Entry, entry_at, no_entry, watches_of, IsKnown}
use Rattle.clause_store.specs.Watching.{IsSatisfied, IsSettled, IsPair, IsListed, IsSound, IsWatching, IsTidy, View, Frame, Covers, SameShape}
use Rattle.clause_store.proofs.Watches.{same_or_apart, packed-injective, opposite-injective, IsListed-push, IsListed-new}
use Rattle.clause_store.specs.declared.lists.Watch.{Watch}

-- ---- entries

pub entry_at-same : (es : List Entry) (i : ℕ) (e : Entry) → i < length es → entry_at (set es i e) i ≡ e
entry_at-same es i e lt = get_or-set_same es i e no_entry lt

pub entry_at-other : (es : List Entry) (i j : ℕ) (e : Entry) → j ≢ i → entry_at (set es i e) j ≡ entry_at es j
entry_at-other es i j e ne = get_or-set_other es i j e no_entry ne

-- a clause that is live is there
pub live_within : (es : List Entry) (i : ℕ) → (entry_at es i).live ≡ true → i < length es
live_within es i h = elim (below_or_past i (length es)) [
  | inl lt ↦ lt
  | inr past ↦ absurd (false_true (sym (ap (λ (e : Entry). e.live) (get_or_past es i no_entry past)) ∙ h))
]
  where
    below_or_past : (a b : ℕ) → (a < b) ⊎ (b ≤ a)
    below_or_past a b = grind arith

    false_true : false ≡ true → ⊥
    false_true e = cc

-- ---- settled clauses

pub IsSatisfied-more : (steps steps' : List Step) (ls : List Signed) → ((l : Signed) → Assigns steps l → Assigns steps' l) → IsSatisfied steps ls → IsSatisfied steps' ls
IsSatisfied-more steps steps' ls more h = record { literal = h.literal; contained = h.contained; assigned = more h.literal h.assigned }

pub IsSettled-more : (seen steps steps' : List Step) (e : Entry) → ((l : Signed) → Assigns steps l → Assigns steps' l) → IsSettled seen steps e → IsSettled seen steps' e
IsSettled-more seen steps steps' e more (inl s) = inl (IsSatisfied-more steps steps' e.literals more s)
IsSettled-more seen steps steps' e more (inr a) = inr a

-- a clause not watched by the literal that became false stays settled
pub IsSettled-other : (f : Signed) (seen after steps : List Step) (e : Entry) → ((l : Signed) → Assigns after l → Assigns seen l ⊎ (l ≡ opposite f))
    → (e.first ≡ f → ⊥) → (e.second ≡ f → ⊥) → IsSettled seen steps e → IsSettled after steps e
IsSettled-other f seen after steps e new nf ns (inl s) = inl s
IsSettled-other f seen after steps e new nf ns (inr a) = inr (record {
  apart = a.apart;
  first = λ h. elim (new (opposite e.first) h) [ inl old ↦ a.first old | inr same ↦ nf (opposite-injective e.first f same) ];
  second = λ h. elim (new (opposite e.second) h) [ inl old ↦ a.second old | inr same ↦ ns (opposite-injective e.second f same) ];
})

-- ---- one look

pub Covers-step : (g : Frame) (f : Signed) (es es' : List Entry) (steps steps' : List Step) (ws ws' : List Watch) (k k' row : ℕ) → Covers g f es steps ws k
    → ((l : Signed) → Assigns steps l → Assigns steps' l)
    → ((i : ℕ) → i ≢ row → entry_at es' i ≡ entry_at es i)
    → (entry_at es' row).live ≡ (entry_at es row).live
    → ((entry_at es row).live ≡ true → IsSettled g.after steps' (entry_at es' row))
    → ((v : View) → Contains g.views v → IsSettled v.seen v.steps (entry_at es row) → IsSettled v.seen v.steps (entry_at es' row))
    → ((i : ℕ) → i ≢ row → IsListed ws k i → IsListed ws' k' i)
    → Covers g f es' steps' ws' k'
Covers-step g f es es' steps steps' ws ws' k k' row h more others live settled lower listed = record {
  after_on = λ l a. more l (h.after_on l a);
  after_new = h.after_new;
  views_on = λ v c l a. more l (h.views_on v c l a);
  current = λ i is_live. elim (same_or_apart i row) [
    | inl same ↦ inl (subst (λ n. IsSettled g.after steps' (entry_at es' n)) (sym same) (settled (sym live ∙ subst (λ n. (entry_at es' n).live ≡ true) same is_live)))
    | inr apart ↦
        let e : entry_at es' i ≡ entry_at es i = others i apart in
        let was : (entry_at es i).live ≡ true = sym (ap (λ (x : Entry). x.live) e) ∙ is_live in
        elim (h.current i was) [
          | inl done ↦ inl (subst (IsSettled g.after steps') (sym e) (IsSettled-more g.after steps steps' (entry_at es i) more done))
          | inr left ↦ inr (subst (IsSettled g.seen steps') (sym e) (IsSettled-more g.seen steps steps' (entry_at es i) more left.0), listed i apart left.1)
        ]
  ];
  lower = λ v c i lt is_live. elim (same_or_apart i row) [
    | inl same ↦
        let here : (entry_at es' row).live ≡ true = subst (λ n. (entry_at es' n).live ≡ true) same is_live in
        let was : (entry_at es i).live ≡ true = subst (λ n. (entry_at es n).live ≡ true) (sym same) (sym live ∙ here) in
        elim (h.lower v c i lt was) [
          | inl waits ↦ inl waits
          | inr done ↦ inr (subst (λ n. IsSettled v.seen v.steps (entry_at es' n)) (sym same) (lower v c (subst (λ n. IsSettled v.seen v.steps (entry_at es n)) same done)))
        ]
    | inr apart ↦
        let e : entry_at es' i ≡ entry_at es i = others i apart in
        let was : (entry_at es i).live ≡ true = sym (ap (λ (x : Entry). x.live) e) ∙ is_live in
        elim (h.lower v c i lt was) [
          | inl waits ↦ inl waits
          | inr done ↦ inr (subst (IsSettled v.seen v.steps) (sym e) done)
        ]
  ];
}

-- ---- one list set

pub watches_of-same : (lists : List (List Watch)) (f : Signed) (ws : List Watch) → packed f < length lists → watches_of (set lists (packed f) ws) f ≡ ws
watches_of-same lists f ws lt = get_or-set_same lists (packed f) ws [] lt

pub watches_of-other : (lists : List (List Watch)) (f l : Signed) (ws : List Watch) → (l ≡ f → ⊥) → watches_of (set lists (packed f) ws) l ≡ watches_of lists l
watches_of-other lists f l ws ne = get_or-set_other lists (packed f) (packed l) ws [] (λ e. ne (packed-injective l f e))

pub equal_or_apart : (l m : Signed) → (l ≡ m) ⊎ (l ≡ m → ⊥)
equal_or_apart l m = elim (same_or_apart (packed l) (packed m)) [
  | inl same ↦ inl (packed-injective l m same)
  | inr apart ↦ inr (λ e. apart (ap packed e))
]

-- the lists are up to date, whether tidy or not
pub record IsWatched (atoms : ℕ) (es : List Entry) (lists : List (List Watch)) : Type 0 where
  pub known : (i : ℕ) → (entry_at es i).live ≡ true → IsKnown atoms (entry_at es i)
  pub pairs : (i : ℕ) → (entry_at es i).live ≡ true → IsPair (entry_at es i)
  pub sound : (l : Signed) → All (IsSound atoms es) (watches_of lists l)
  pub listed : (i : ℕ) → (entry_at es i).live ≡ true → IsListed (watches_of lists (entry_at es i).first) 0 i × IsListed (watches_of lists (entry_at es i).second) 0 i
  pub room : 2 * atoms ≤ length lists

pub watched_of : (atoms : ℕ) (es : List Entry) (lists : List (List Watch)) → IsWatching atoms es lists → IsWatched atoms es lists
watched_of atoms es lists h = record { known = h.known; pairs = h.pairs; sound = h.sound; listed = h.listed; room = h.room }

pub IsWatching-set : (atoms : ℕ) (es : List Entry) (lists : List (List Watch)) (f : Signed) (ws : List Watch) → packed f < length lists → IsWatched atoms es lists
    → All (IsSound atoms es) ws
    → ((i : ℕ) → (entry_at es i).live ≡ true → ((entry_at es i).first ≡ f) ⊎ ((entry_at es i).second ≡ f) → IsListed ws 0 i)
    → IsTidy es (set lists (packed f) ws) → IsWatching atoms es (set lists (packed f) ws)
IsWatching-set atoms es lists f ws lt h sound listed tidy = record {
  tidy = tidy;
  known = h.known;
  pairs = h.pairs;
  sound = λ l. elim (equal_or_apart l f) [
    | inl same ↦ subst (λ x. All (IsSound atoms es) (watches_of (set lists (packed f) ws) x)) (sym same) (rw (watches_of-same lists f ws lt) sound)
    | inr apart ↦ rw (watches_of-other lists f l ws apart) (h.sound l)
  ];
  listed = λ i live. (
    elim (equal_or_apart (entry_at es i).first f) [
      | inl same ↦ subst (λ x. IsListed (watches_of (set lists (packed f) ws) x) 0 i) (sym same) (rw (watches_of-same lists f ws lt) (listed i live (inl same)))
      | inr apart ↦ rw (watches_of-other lists f (entry_at es i).first ws apart) (h.listed i live).0
    ],
    elim (equal_or_apart (entry_at es i).second f) [
      | inl same ↦ subst (λ x. IsListed (watches_of (set lists (packed f) ws) x) 0 i) (sym same) (rw (watches_of-same lists f ws lt) (listed i live (inr same)))
      | inr apart ↦ rw (watches_of-other lists f (entry_at es i).second ws apart) (h.listed i live).1
    ],
  );
  room = omega (arith, length-set lists (packed f) ws, h.room);
}

-- ---- other literals watched

pub IsSound-entries : (atoms : ℕ) (es es' : List Entry) (w : Watch) → length es' ≡ length es
    → ((i : ℕ) → (entry_at es' i).live ≡ (entry_at es i).live) → ((i : ℕ) → (entry_at es' i).literals ≡ (entry_at es i).literals) → IsSound atoms es w → IsSound atoms es' w
IsSound-entries atoms es es' w len live literals h = record {
  within = subst (λ n. w.row < n) (sym len) h.within;
  known = h.known;
  blocker = λ l. rw (literals w.row) (h.blocker (sym (live w.row) ∙ l));
}

pub pair_lists : (atoms : ℕ) (es : List Entry) (lists : List (List Watch)) (row : ℕ) (kept : Signed) → IsWatched atoms es lists → (entry_at es row).live ≡ true
    → ((entry_at es row).first ≡ kept) ⊎ ((entry_at es row).second ≡ kept) → Contains (entry_at es row).literals kept × IsListed (watches_of lists kept) 0 row
pair_lists atoms es lists row kept h live (inl e) =
    (subst (Contains (entry_at es row).literals) e (h.pairs row live).first, subst (λ x. IsListed (watches_of lists x) 0 row) e (h.listed row live).0)
pair_lists atoms es lists row kept h live (inr e) =
    (subst (Contains (entry_at es row).literals) e (h.pairs row live).second, subst (λ x. IsListed (watches_of lists x) 0 row) e (h.listed row live).1)

pub IsKnown-contained : (atoms : ℕ) (e : Entry) (l : Signed) → IsKnown atoms e → Contains e.literals l → l.atom < atoms
IsKnown-contained atoms e l h c = All-contains (λ (m : Signed). m.atom < atoms) e.literals l h.literals c

abbrev pub watched : Entry → Signed → Signed → Entry
watched e a b = record e { first = a; second = b }

pub same_elsewhere : {X : Type 0} (p : Entry → X) (es : List Entry) (row : ℕ) (a b : Signed) → ((e : Entry) → p (watched e a b) ≡ p e) → row < length es → (i : ℕ) → p (entry_at (set es row (watched (entry_at es row) a b)) i) ≡ p (entry_at es i)
same_elsewhere p es row a b keeps lt i = elim (same_or_apart i row) [
  | inl same ↦ subst (λ n. p (entry_at (set es row (watched (entry_at es row) a b)) n) ≡ p (entry_at es n)) (sym same) (ap p (entry_at-same es row (watched (entry_at es row) a b) lt) ∙ keeps (entry_at es row))
  | inr apart ↦ ap p (entry_at-other es row i (watched (entry_at es row) a b) apart)
]

pub IsWatching-move : (atoms : ℕ) (es : List Entry) (lists : List (List Watch)) (row : ℕ) (kept found : Signed) (w : Watch) → IsWatched atoms es lists → (entry_at es row).live ≡ true
    → ((entry_at es row).first ≡ kept) ⊎ ((entry_at es row).second ≡ kept) → Contains (entry_at es row).literals found → (found ≡ kept → ⊥) → packed found < length lists → w.blocker ≡ kept → w.row ≡ row
    → IsWatched atoms (set es row (watched (entry_at es row) kept found)) (set lists (packed found) (watches_of lists found ++ w ∷ []))
IsWatching-move atoms es lists row kept found w h live is_kept contained ne lt blocker here =
    let within : row < length es = live_within es row live in
    let e = entry_at es row in
    let es' : List Entry = set es row (watched (entry_at es row) kept found) in
    let lists' : List (List Watch) = set lists (packed found) (watches_of lists found ++ w ∷ []) in
    let lives : (i : ℕ) → (entry_at es' i).live ≡ (entry_at es i).live = same_elsewhere (λ x. x.live) es row kept found (λ x. refl) within in
    let literals : (i : ℕ) → (entry_at es' i).literals ≡ (entry_at es i).literals = same_elsewhere (λ x. x.literals) es row kept found (λ x. refl) within in
    let len : length es' ≡ length es = length-set es row (watched (entry_at es row) kept found) in
    let changed : entry_at es' row ≡ watched (entry_at es row) kept found = entry_at-same es row (watched (entry_at es row) kept found) within in
    let of_kept : Contains (entry_at es row).literals kept × IsListed (watches_of lists kept) 0 row = pair_lists atoms es lists row kept h live is_kept in
    let grown : (l : Signed) (i : ℕ) → IsListed (watches_of lists l) 0 i → IsListed (watches_of lists' l) 0 i =
    λ l i a. elim (equal_or_apart l found) [
      | inl same ↦ subst (λ x. IsListed (watches_of lists' x) 0 i) (sym same) (rw (watches_of-same lists found (watches_of lists found ++ w ∷ []) lt) (IsListed-push (watches_of lists found) w 0 i (subst (λ x. IsListed (watches_of lists x) 0 i) same a)))
      | inr apart ↦ rw (watches_of-other lists found l (watches_of lists found ++ w ∷ []) apart) a
    ] in
    let known_row : IsKnown atoms (entry_at es row) = h.known row live in
    let sound_w : IsSound atoms es w = record {
      within = subst (λ n. n < length es) (sym here) within;
      known = subst (λ (x : Signed). x.atom < atoms) (sym blocker) (IsKnown-contained atoms (entry_at es row) kept known_row of_kept.0);
      blocker = λ l. subst (λ x. Contains (entry_at es w.row).literals x) (sym blocker) (subst (λ n. Contains (entry_at es n).literals kept) (sym here) of_kept.0);
    } in
    record {
      known = λ i is_live. elim (same_or_apart i row) [
        | inl same ↦ subst (λ n. IsKnown atoms (entry_at es' n)) (sym same) (rw changed (record {
          literals = known_row.literals;
          first = IsKnown-contained atoms (entry_at es row) kept known_row of_kept.0;
          second = IsKnown-contained atoms (entry_at es row) found known_row contained;
        }))
        | inr apart ↦ rw (entry_at-other es row i (watched (entry_at es row) kept found) apart) (h.known i (sym (lives i) ∙ is_live))
      ];
      pairs = λ i is_live. elim (same_or_apart i row) [
        | inl same ↦ subst (λ n. IsPair (entry_at es' n)) (sym same) (rw changed (record { first = of_kept.0; second = contained; single = λ x. absurd (ne (sym x)) }))
        | inr apart ↦ rw (entry_at-other es row i (watched (entry_at es row) kept found) apart) (h.pairs i (sym (lives i) ∙ is_live))
      ];
      sound = λ l. elim (equal_or_apart l found) [
        | inl same ↦ subst (λ x. All (IsSound atoms es') (watches_of lists' x)) (sym same) (rw (watches_of-same lists found (watches_of lists found ++ w ∷ []) lt)
            (All-weaker (IsSound atoms es) (IsSound atoms es') (λ x s. IsSound-entries atoms es es' x len lives literals s) (watches_of lists found ++ w ∷ []) (All-push (IsSound atoms es) (watches_of lists found) w (h.sound found) sound_w)))
        | inr apart ↦ rw (watches_of-other lists found l (watches_of lists found ++ w ∷ []) apart)
            (All-weaker (IsSound atoms es) (IsSound atoms es') (λ x s. IsSound-entries atoms es es' x len lives literals s) (watches_of lists l) (h.sound l))
      ];
      listed = λ i is_live. elim (same_or_apart i row) [
        | inl same ↦ subst (λ n. IsListed (watches_of lists' (entry_at es' n).first) 0 n × IsListed (watches_of lists' (entry_at es' n).second) 0 n) (sym same)
            (rw changed (grown kept row of_kept.1, rw (watches_of-same lists found (watches_of lists found ++ w ∷ []) lt) (subst (IsListed (watches_of lists found ++ w ∷ []) 0) here (IsListed-new (watches_of lists found) w))))
        | inr apart ↦ rw (entry_at-other es row i (watched (entry_at es row) kept found) apart)
            (let was : (entry_at es i).live ≡ true = sym (lives i) ∙ is_live in (grown (entry_at es i).first i (h.listed i was).0, grown (entry_at es i).second i (h.listed i was).1))
      ];
      room = omega (arith, length-set lists (packed found) (watches_of lists found ++ w ∷ []), h.room);
    }

pub SameShape-none : (es : List Entry) → SameShape es es
SameShape-none es = record { count = refl; live = λ i. refl; literals = λ i. refl }

pub SameShape-trans : (a b c : List Entry) → SameShape a b → SameShape b c → SameShape a c
SameShape-trans a b c h k = record { count = k.count ∙ h.count; live = λ i. k.live i ∙ h.live i; literals = λ i. k.literals i ∙ h.literals i }

pub SameShape-watched : (es : List Entry) (row : ℕ) (a b : Signed) → row < length es → SameShape es (set es row (watched (entry_at es row) a b))
SameShape-watched es row a b lt = record {
  count = length-set es row (watched (entry_at es row) a b);
  live = same_elsewhere (λ x. x.live) es row a b (λ x. refl) lt;
  literals = same_elsewhere (λ x. x.literals) es row a b (λ x. refl) lt;
}
