-- One clause more.
use Rattle.std.proofs.Common.{◌≡◌, ℕ, ◌+◌, ◌<◌, ◌≤◌, suc, Bool, true, false, List, [], ◌∷◌, ◌++◌, All, Contains, length, get_or, set, take, subst, sym, ap, ◌∙◌, refl, inl, inr, ◌⊎◌, arith, add-zero}
use Rattle.std.proofs.lemmas.List.{get_or_append_left, get_or_push, length_push, length-set}
use Rattle.std.proofs.lemmas.List.Elements.{All-weaker, All-push, All-contains, Contains-append_left, Contains-push, Contains-push_cases, Contains-get_or}
use Rattle.literals.specs.Signed.{Signed, opposite, packed}
use Rattle.clause_store.specs.Trail.{up_to}
use Rattle.clause_store.specs.declared.trail.Step.{Step}
use Rattle.clause_store.specs.Stored.{Kept}
use Rattle.clause_store.specs.Entries.{Entry, entry_at, no_entry, watches_of, IsKnown}
use Rattle.clause_store.specs.Watching.{IsSettled, IsPair, IsListed, IsSound, IsOwn, IsOnce, IsWatching, no_watch, kept_of, kept_from}
use Rattle.clause_store.specs.Rested.{Rested, IsWaiting, Waits}
use Rattle.clause_store.proofs.Watches.{below_or_at, IsListed-push, IsListed-new}
use Rattle.clause_store.specs.Choosing.{IsChoice, AreOpen, Stands, Enlists, EnlistsBoth}
use Rattle.clause_store.specs.Gaining.{KeepsUp}
use Rattle.clause_store.specs.declared.choose.Choice.{Choice}
use Rattle.clause_store.specs.declared.choose.Standing.TheVariants.{Awake, Waits as Waiting}
use Rattle.clause_store.proofs.Turning.{Assigns-front, code_within}
use Rattle.clause_store.proofs.Filters.{up_to-assigns}
use Rattle.clause_store.proofs.Depths.{up_to-all}
use Rattle.clause_store.proofs.Tidy.{IsOnce-push}
use Rattle.clause_store.proofs.Sweeping.{live_within, equal_or_apart, watches_of-same, watches_of-other, IsKnown-contained}
use Rattle.clause_store.specs.declared.lists.Watch.{Watch}
use Rattle.clause_store.specs.declared.waits.Wait.{Wait}

pub entry_at-old : (es : List Entry) (e : Entry) (i : ℕ) → i < length es → entry_at (es ++ e ∷ []) i ≡ entry_at es i
entry_at-old es e i lt = get_or_append_left es (e ∷ []) no_entry i lt

pub entry_at-new : (es : List Entry) (e : Entry) (i : ℕ) → length es ≡ i → entry_at (es ++ e ∷ []) i ≡ e
entry_at-new es e i is = get_or_push es e no_entry i is

-- ---- the kept clauses

by_live : (n : ℕ) (x : Entry) (es : List Entry) (e : Entry) (b : Bool) → x.live ≡ b → kept_from (n + 1) (es ++ e ∷ []) ≡ kept_from (n + 1) es ++ kept_of (n + 1 + length es) e ∷ []
    → kept_from n (x ∷ (es ++ e ∷ [])) ≡ kept_from n (x ∷ es) ++ kept_of (n + 1 + length es) e ∷ []
by_live n x es e true is h = rw is (ap (λ (cs : List Kept). kept_of n x ∷ cs) h)
by_live n x es e false is h = rw is h

count_more : (n m : ℕ) → n + 1 + m ≡ n + suc m
count_more n m = omega arith

pub kept_from-push : (n : ℕ) (es : List Entry) (e : Entry) → e.live ≡ true → kept_from n (es ++ e ∷ []) ≡ kept_from n es ++ kept_of (n + length es) e ∷ []
kept_from-push n [] e live = rw (live, add-zero) refl
kept_from-push n (x ∷ es) e live =
    by_live n x es e x.live refl (kept_from-push (n + 1) es e live) ∙ ap (λ m. kept_from n (x ∷ es) ++ kept_of m e ∷ []) (count_more n (length es))

-- ---- the watches

abbrev pub add_watch : List (List Watch) → Signed → Watch → List (List Watch)
add_watch lists l w = set lists (packed l) (watches_of lists l ++ w ∷ [])

pub listed-add : (lists : List (List Watch)) (m l : Signed) (w : Watch) (i : ℕ) → packed m < length lists → IsListed (watches_of lists l) 0 i → IsListed (watches_of (add_watch lists m w) l) 0 i
listed-add lists m l w i lt h = elim (equal_or_apart l m) [
  | inl same ↦ subst (λ x. IsListed (watches_of (add_watch lists m w) x) 0 i) (sym same)
      (rw (watches_of-same lists m (watches_of lists m ++ w ∷ []) lt) (IsListed-push (watches_of lists m) w 0 i (subst (λ x. IsListed (watches_of lists x) 0 i) same h)))
  | inr apart ↦ rw (watches_of-other lists m l (watches_of lists m ++ w ∷ []) apart) h
]

all-add : (Q : Signed → Watch → Type 0) (lists : List (List Watch)) (m l : Signed) (w : Watch) → packed m < length lists → ((x : Signed) → All (Q x) (watches_of lists x)) → Q m w → All (Q l) (watches_of (add_watch lists m w) l)
all-add Q lists m l w lt h q = elim (equal_or_apart l m) [
  | inl same ↦ subst (λ x. All (Q x) (watches_of (add_watch lists m w) x)) (sym same) (rw (watches_of-same lists m (watches_of lists m ++ w ∷ []) lt) (All-push (Q m) (watches_of lists m) w (h m) q))
  | inr apart ↦ rw (watches_of-other lists m l (watches_of lists m ++ w ∷ []) apart) (h l)
]

listed-here : (lists : List (List Watch)) (m : Signed) (w : Watch) → packed m < length lists → IsListed (watches_of (add_watch lists m w) m) 0 w.row
listed-here lists m w lt = rw (watches_of-same lists m (watches_of lists m ++ w ∷ []) lt) (IsListed-new (watches_of lists m) w)

-- the clause of this place isn't in the list
abbrev pub IsAbsent : List Watch → ℕ → Type 0
IsAbsent ws row = (j : ℕ) → j < length ws → (get_or ws j no_watch).row ≡ row → ⊥

once-add : (lists : List (List Watch)) (m l : Signed) (w : Watch) → packed m < length lists → ((x : Signed) → IsOnce (watches_of lists x)) → IsAbsent (watches_of lists m) w.row → IsOnce (watches_of (add_watch lists m w) l)
once-add lists m l w lt h fresh = elim (equal_or_apart l m) [
  | inl same ↦ subst (λ x. IsOnce (watches_of (add_watch lists m w) x)) (sym same) (rw (watches_of-same lists m (watches_of lists m ++ w ∷ []) lt) (IsOnce-push (watches_of lists m) w fresh (h m)))
  | inr apart ↦ rw (watches_of-other lists m l (watches_of lists m ++ w ∷ []) apart) (h l)
]

-- the lists once a clause's watches stand in those of its two watched literals
pub record Listed (Q : Signed → Watch → Type 0) (lists lists' : List (List Watch)) (a b : Signed) (row : ℕ) : Type 0 where
  pub grown : (l : Signed) (i : ℕ) → IsListed (watches_of lists l) 0 i → IsListed (watches_of lists' l) 0 i
  pub first : IsListed (watches_of lists' a) 0 row
  pub second : IsListed (watches_of lists' b) 0 row
  pub each : ((l : Signed) → All (Q l) (watches_of lists l)) → Q a (record { blocker = b; row = row }) → Q b (record { blocker = a; row = row }) → (l : Signed) → All (Q l) (watches_of lists' l)
  pub once : ((l : Signed) → IsOnce (watches_of lists l)) → ((l : Signed) → IsAbsent (watches_of lists l) row) → (l : Signed) → IsOnce (watches_of lists' l)
  pub count : length lists' ≡ length lists

listed_one : (Q : Signed → Watch → Type 0) (lists lists' : List (List Watch)) (a b : Signed) (row : ℕ) → packed a < length lists → a ≡ b → Enlists lists lists' a (record { blocker = b; row = row }) → Listed Q lists lists' a b row
listed_one Q lists lists' a b row lt same is =
    let v : Watch = record { blocker = b; row = row } in
    let here : IsListed (watches_of (add_watch lists a v) a) 0 row = listed-here lists a v lt in
    subst (λ (xs : List (List Watch)). Listed Q lists xs a b row) (sym is) record {
      grown = λ l i h. listed-add lists a l v i lt h;
      first = here;
      second = subst (λ x. IsListed (watches_of (add_watch lists a v) x) 0 row) same here;
      each = λ h qa qb l. all-add Q lists a l v lt h qa;
      once = λ h fresh l. once-add lists a l v lt h (fresh a);
      count = length-set lists (packed a) (watches_of lists a ++ v ∷ []);
    }

listed_two : (Q : Signed → Watch → Type 0) (lists lists' : List (List Watch)) (a b : Signed) (row : ℕ) → packed a < length lists → packed b < length lists → (a ≡ b → ⊥)
    → (let v : Watch = record { blocker = b; row = row } in let w : Watch = record { blocker = a; row = row } in lists' ≡ add_watch (add_watch lists a v) b w) → Listed Q lists lists' a b row
listed_two Q lists lists' a b row lt lt' apart is =
    let v : Watch = record { blocker = b; row = row } in
    let w : Watch = record { blocker = a; row = row } in
    let mid : List (List Watch) = add_watch lists a v in
    let len : length mid ≡ length lists = length-set lists (packed a) (watches_of lists a ++ v ∷ []) in
    let in' : packed b < length mid = omega arith in
    let same_b : watches_of mid b ≡ watches_of lists b = watches_of-other lists a b (watches_of lists a ++ v ∷ []) (λ x. apart (sym x)) in
    subst (λ (xs : List (List Watch)). Listed Q lists xs a b row) (sym is) record {
      grown = λ l i h. listed-add mid b l w i in' (listed-add lists a l v i lt h);
      first = listed-add mid b a w row in' (listed-here lists a v lt);
      second = listed-here mid b w in';
      each = λ h qa qb l. all-add Q mid b l w in' (λ x. all-add Q lists a x v lt h qa) qb;
      once = λ h fresh l. once-add mid b l w in' (λ x. once-add lists a x v lt h (fresh a)) (subst (λ ws. IsAbsent ws row) (sym same_b) (fresh b));
      count = length-set mid (packed b) (watches_of mid b ++ w ∷ []) ∙ len;
    }

listed_both : (Q : Signed → Watch → Type 0) (lists lists' : List (List Watch)) (a b : Signed) (row : ℕ) → packed a < length lists → packed b < length lists → EnlistsBoth lists lists' a b row → Listed Q lists lists' a b row
listed_both Q lists lists' a b row lt lt' (inl one) = listed_one Q lists lists' a b row lt one.0 one.1
listed_both Q lists lists' a b row lt lt' (inr two) =
    let w : Watch = record { blocker = a; row = row } in
    listed_two Q lists lists' a b row lt lt' two.0 (two.1.2 ∙ ap (λ (xs : List (List Watch)). add_watch xs b w) two.1.1)

-- a clause more, and a watch of it in the lists of its two watched literals
pub IsWatching-add : (atoms : ℕ) (es : List Entry) (lists lists' : List (List Watch)) (e : Entry) → IsWatching atoms es lists → IsKnown atoms e → IsPair e
    → Listed (λ l x. IsSound atoms (es ++ e ∷ []) x × IsOwn (es ++ e ∷ []) l x) lists lists' e.first e.second (length es) → IsWatching atoms (es ++ e ∷ []) lists'
IsWatching-add atoms es lists lists' e h known pair is =
    let es' : List Entry = es ++ e ∷ [] in
    let len : length es' ≡ length es + 1 = length_push es e in
    let new : entry_at es' (length es) ≡ e = entry_at-new es e (length es) refl in
    let old : (x : Watch) → IsSound atoms es x → IsSound atoms es' x = λ x k.
    let lt : x.row < length es = k.within in
    record { within = omega arith; known = k.known; blocker = rw (entry_at-old es e x.row lt) k.blocker } in
    let of_new : (x : Watch) → x.row ≡ length es → Contains e.literals x.blocker → IsSound atoms es' x = λ x r c.
    record {
      within = omega arith;
      known = IsKnown-contained atoms e x.blocker known c;
      blocker = λ l. subst (λ n. Contains (entry_at es' n).literals x.blocker) (sym r) (rw new c);
    } in
    let old_own : (l : Signed) → All (IsOwn es' l) (watches_of lists l) = λ l j x lt.
    let o : IsOwn es l (get_or (watches_of lists l) j x) = h.tidy.own l j x lt in
    let s : IsSound atoms es (get_or (watches_of lists l) j x) = h.sound l j x lt in
    record { pair = rw (entry_at-old es e (get_or (watches_of lists l) j x).row s.within) o.pair; contained = rw (entry_at-old es e (get_or (watches_of lists l) j x).row s.within) o.contained } in
    let v : Watch = record { blocker = e.second; row = length es } in
    let w : Watch = record { blocker = e.first; row = length es } in
    let own_v : IsOwn es' e.first v = record { pair = rw new (inl refl); contained = rw new pair.first } in
    let own_w : IsOwn es' e.second w = record { pair = rw new (inr refl); contained = rw new pair.second } in
    let all : (l : Signed) → All (λ x. IsSound atoms es' x × IsOwn es' l x) (watches_of lists' l) =
    is.each (λ l j x lt. (All-weaker (IsSound atoms es) (IsSound atoms es') old (watches_of lists l) (h.sound l) j x lt, old_own l j x lt))
    (of_new v refl pair.second, own_v) (of_new w refl pair.first, own_w) in
    let fresh : (l : Signed) → IsAbsent (watches_of lists l) (length es) = λ l j lt y.
    let s : IsSound atoms es (get_or (watches_of lists l) j no_watch) = h.sound l j no_watch lt in
    let in' : (get_or (watches_of lists l) j no_watch).row < length es = s.within in
    omega arith in
    record {
      known = λ i live. elim (below_or_at i (length es) (let lt : i < length es' = live_within es' i live in omega arith)) [
        | inl below ↦ rw (entry_at-old es e i below) (h.known i (rw (entry_at-old es e i below) at live))
        | inr at ↦ subst (λ n. IsKnown atoms (entry_at es' n)) (sym at) (rw new known)
      ];
      pairs = λ i live. elim (below_or_at i (length es) (let lt : i < length es' = live_within es' i live in omega arith)) [
        | inl below ↦ rw (entry_at-old es e i below) (h.pairs i (rw (entry_at-old es e i below) at live))
        | inr at ↦ subst (λ n. IsPair (entry_at es' n)) (sym at) (rw new pair)
      ];
      sound = λ l. All-weaker (λ x. IsSound atoms es' x × IsOwn es' l x) (IsSound atoms es') (λ x p. p.0) (watches_of lists' l) (all l);
      listed = λ i live. elim (below_or_at i (length es) (let lt : i < length es' = live_within es' i live in omega arith)) [
        | inl below ↦
            let was : (entry_at es i).live ≡ true = rw (entry_at-old es e i below) at live in
            rw (entry_at-old es e i below) (is.grown (entry_at es i).first i (h.listed i was).0, is.grown (entry_at es i).second i (h.listed i was).1)
        | inr at ↦ subst (λ n. IsListed (watches_of lists' (entry_at es' n).first) 0 n × IsListed (watches_of lists' (entry_at es' n).second) 0 n) (sym at) (rw new (is.first, is.second))
      ];
      room = omega (arith, is.count, h.room);
      tidy = record {
        own = λ l. All-weaker (λ x. IsSound atoms es' x × IsOwn es' l x) (IsOwn es' l) (λ x p. p.1) (watches_of lists' l) (all l);
        once = is.once h.tidy.once fresh;
      };
    }

-- ---- the depths

All-from : {X : Type 0} (P : X → Type 0) (xs : List X) → ((x : X) → Contains xs x → P x) → All P xs
All-from P xs h k d lt = h (get_or xs k d) (Contains-get_or xs k d lt)

waits_in : (ws ws' : List Wait) (i d : ℕ) → ((w : Wait) → Contains ws w → Contains ws' w) → Waits ws i d → Waits ws' i d
waits_in ws ws' i d keeps h = record { wait = h.wait; contained = keeps h.wait h.contained; row = h.row; from = h.from }

pub Rested-add : (es : List Entry) (e : Entry) (steps : List Step) (depth head lasting : ℕ) (ws ws' : List Wait) → Rested es steps depth head lasting ws
    → ((w : Wait) → Contains ws w → Contains ws' w) → ((w : Wait) → Contains ws' w → Contains ws w ⊎ IsWaiting (es ++ e ∷ []) steps w)
    → ((d n : ℕ) → IsSettled (take n (up_to d steps)) (up_to d steps) e ⊎ Waits ws' (length es) d) → Rested (es ++ e ∷ []) steps depth head lasting ws'
Rested-add es e steps depth head lasting ws ws' h keeps only new =
    let es' : List Entry = es ++ e ∷ [] in
    let len : length es' ≡ length es + 1 = length_push es e in
    let is_new : entry_at es' (length es) ≡ e = entry_at-new es e (length es) refl in
    record {
      deepest = h.deepest;
      head_within = h.head_within;
      lasting_within = h.lasting_within;
      current = λ i live. elim (below_or_at i (length es) (let lt : i < length es' = live_within es' i live in omega arith)) [
        | inl below ↦ rw (entry_at-old es e i below) (elim (h.current i (rw (entry_at-old es e i below) at live)) [
          | inl done ↦ inl done
          | inr waits ↦ inr (waits_in ws ws' i depth keeps waits)
        ])
        | inr at ↦ subst (λ n. IsSettled (take head steps) steps (entry_at es' n) ⊎ Waits ws' n depth) (sym at)
            (rw is_new (subst (λ xs. IsSettled (take head xs) xs e ⊎ Waits ws' (length es) depth) (up_to-all depth steps h.deepest) (new depth head)))
      ];
      each = λ d i live. elim (below_or_at i (length es) (let lt : i < length es' = live_within es' i live in omega arith)) [
        | inl below ↦ rw (entry_at-old es e i below) (elim (h.each d i (rw (entry_at-old es e i below) at live)) [
          | inl done ↦ inl done
          | inr waits ↦ inr (waits_in ws ws' i d keeps waits)
        ])
        | inr at ↦ subst (λ n. IsSettled (take lasting (up_to d steps)) (up_to d steps) (entry_at es' n) ⊎ Waits ws' n d) (sym at) (rw is_new (new d lasting))
      ];
      waiting = All-from (IsWaiting es' steps) ws' (λ w c. elim (only w c) [
        | inl old ↦
            let was : IsWaiting es steps w = All-contains (IsWaiting es steps) ws w h.waiting old in
            let lt : w.row < length es = live_within es w.row was.live in
            record { live = rw (entry_at-old es e w.row lt) was.live; contained = rw (entry_at-old es e w.row lt) was.contained; rest = rw (entry_at-old es e w.row lt) was.rest }
        | inr k ↦ k
      ]);
    }

-- ---- the clause as it is chosen to be watched

abbrev pub new_entry : List Signed → Signed → Signed → ℕ → Entry
new_entry ls a b level = record { literals = ls; first = a; second = b; level = level; live = true }

watching_added : (atoms : ℕ) (steps : List Step) (es : List Entry) (lists lists' : List (List Watch)) (ls : List Signed) (level : ℕ) (c : Choice) → IsWatching atoms es lists → All (λ (l : Signed). l.atom < atoms) ls → IsChoice steps ls c
    → EnlistsBoth lists lists' c.first c.second (length es) → IsWatching atoms (es ++ new_entry ls c.first c.second level ∷ []) lists'
watching_added atoms steps es lists lists' ls level c h known ch both =
    let a : c.first.atom < atoms = All-contains (λ (l : Signed). l.atom < atoms) ls c.first known ch.first in
    let b : c.second.atom < atoms = All-contains (λ (l : Signed). l.atom < atoms) ls c.second known ch.second in
    IsWatching-add atoms es lists lists' (new_entry ls c.first c.second level) h (record { literals = known; first = a; second = b }) (record { first = ch.first; second = ch.second; single = ch.single })
    (listed_both (λ l x. IsSound atoms (es ++ new_entry ls c.first c.second level ∷ []) x × IsOwn (es ++ new_entry ls c.first c.second level ∷ []) l x) lists lists' c.first c.second (length es) (code_within c.first atoms (length lists) a h.room) (code_within c.second atoms (length lists) b h.room) both)

open_awake : (steps : List Step) (d n : ℕ) (e : Entry) → AreOpen (up_to d steps) e.first e.second → IsSettled (take n (up_to d steps)) (up_to d steps) e
open_awake steps d n e o = inr (record { apart = o.apart; first = λ x. o.first (Assigns-front n (up_to d steps) (opposite e.first) x); second = λ x. o.second (Assigns-front n (up_to d steps) (opposite e.second) x) })

pub open_below : (steps : List Step) (d : ℕ) (a b : Signed) → AreOpen steps a b → AreOpen (up_to d steps) a b
open_below steps d a b o = record { apart = o.apart; first = λ x. o.first (up_to-assigns d steps (opposite a) x); second = λ x. o.second (up_to-assigns d steps (opposite b) x) }

pub keeps-awake : (atoms : ℕ) (steps : List Step) (es : List Entry) (lists lists' : List (List Watch)) (ls : List Signed) (level : ℕ) (c : Choice) (ws : List Wait) → All (λ (l : Signed). l.atom < atoms) ls → IsChoice steps ls c
    → EnlistsBoth lists lists' c.first c.second (length es) → c.standing ≡ Awake
    → KeepsUp atoms steps es (es ++ new_entry ls c.first c.second level ∷ []) lists lists' ws ws
keeps-awake atoms steps es lists lists' ls level c ws known ch both st = λ head lasting depth k.
    let stands : Stands steps ls c.first c.second Awake = subst (Stands steps ls c.first c.second) st ch.stands in
    let e : Entry = new_entry ls c.first c.second level in
    record {
      watch = watching_added atoms steps es lists lists' ls level c k.watch known ch both;
      rested = Rested-add es e steps depth head lasting ws ws k.rested (λ x m. m) (λ x m. inl m) (λ d n. inl (open_awake steps d n e (open_below steps d c.first c.second stands)));
    }

below_or_past : (a b : ℕ) → (a < b) ⊎ (b ≤ a)
below_or_past a b = grind arith

pub keeps-waits : (atoms : ℕ) (steps : List Step) (es : List Entry) (lists lists' : List (List Watch)) (ls : List Signed) (level from : ℕ) (c : Choice) (ws : List Wait) (x : Wait) → All (λ (l : Signed). l.atom < atoms) ls → IsChoice steps ls c
    → EnlistsBoth lists lists' c.first c.second (length es) → c.standing ≡ Waiting from → x.row ≡ length es → x.literal ≡ c.first → x.depth ≡ from
    → KeepsUp atoms steps es (es ++ new_entry ls c.first c.second level ∷ []) lists lists' ws (ws ++ x ∷ [])
keeps-waits atoms steps es lists lists' ls level from c ws x known ch both st xr xl xd = λ head lasting depth k.
    let stands : Stands steps ls c.first c.second (Waiting from) = subst (Stands steps ls c.first c.second) st ch.stands in
    let e : Entry = new_entry ls c.first c.second level in
    let here : entry_at (es ++ e ∷ []) x.row ≡ e = entry_at-new es e x.row (sym xr) in
    let waits : IsWaiting (es ++ e ∷ []) steps x = record {
      live = rw here refl;
      contained = rw (here, xl) ch.first;
      rest = rw (here, xl, xd) stands.0;
    } in
    record {
      watch = watching_added atoms steps es lists lists' ls level c k.watch known ch both;
      rested = Rested-add es e steps depth head lasting ws (ws ++ x ∷ []) k.rested (λ y m. Contains-append_left ws (x ∷ []) y m)
          (λ y m. elim (Contains-push_cases ws x y m) [ inl old ↦ inl old | inr same ↦ inr (subst (IsWaiting (es ++ e ∷ []) steps) same waits) ])
          (λ d n. elim (below_or_past d from) [
            | inl below ↦ inl (open_awake steps d n e (stands.1 d below))
            | inr past ↦ inr (record { wait = x; contained = Contains-push ws x; row = xr; from = omega arith })
          ]);
    }
