-- Fewer clauses, and clauses by their ids.
use Rattle.std.proofs.Common.{◌≡◌, ◌≢◌, ℕ, ◌+◌, ◌*◌, ◌^◌, ◌<◌, ◌≤◌, ◌==◌, zero, suc, Bool, true, false, not, ◌&&◌, List, [], ◌∷◌, ◌++◌, All, Contains, length, get_or, set, take, filter, Option, None, subst, sym, ap, ◌∙◌, refl, inl, inr, ◌⊎◌, arith, Some, zero-add, add-zero, eq-eqb, ℤ, pos, int_le, nat_lt}
use Rattle.std.proofs.lemmas.Bool.Decides.{nat_tests}
use Rattle.std.proofs.lemmas.List.{length-set, map-set, get_or_default, get_or_past}
use Rattle.std.proofs.lemmas.List.Elements.{All-contains, All-push, All-weaker, All-nil, Contains-append_cases, Contains-append_left, Contains-get_or, Contains-push, Contains-push_cases}
use Rattle.literals.specs.Signed.{Signed, opposite}
use Rattle.clause_store.specs.Assigned.{Assigned}
use Rattle.clause_store.specs.Each.{EachAfter}
use Rattle.clause_store.specs.Trail.{up_to}
use Rattle.clause_store.specs.declared.trail.Step.{Step}
use Rattle.clause_store.specs.Stored.{Kept, AllFalse, IsFalseOn, IsForced, IsJustified, HaveOwnIds, without, up_to_level}
use Rattle.clause_store.specs.Found.{HasKept, HasLevel}
use Rattle.clause_store.specs.Entries.{Entry, entry_at, no_entry, watches_of, IsKnown}
use Rattle.clause_store.specs.Watching.{IsWatching, IsPair, IsListed, IsSound, IsOwn, IsOnce, IsSettled, kept_from, kept_of}
use Rattle.clause_store.specs.Rested.{Rested, IsWaiting, Waits, OthersFalse}
use Rattle.clause_store.specs.From.{IsSingle, AreSingles, HasSingles}
use Rattle.clause_store.specs.Cutting.{IsCut, IsFewer, cut_entry}
use Rattle.clause_store.specs.Keeping.{IsKept, IsTight}
use Rattle.clause_store.specs.declared.lists.Watch.{Watch}
use Rattle.clause_store.specs.declared.waits.Wait.{Wait}
use Rattle.clause_store.proofs.Watches.{same_or_apart, below_or_at}
use Rattle.clause_store.proofs.Sweeping.{live_within, entry_at-same, entry_at-other, equal_or_apart}
use Rattle.clause_store.proofs.Turning.{Assigns-front}
use Rattle.clause_store.proofs.Kept.{kept_in, All-kept}
use Rattle.clause_store.proofs.Stores.{known_live}
use Rattle.clause_store.proofs.Numbers.{apart_fresh}
use Rattle.clause_store.specs.Empties.{IsEmptyAt, NamesEmpty, filled, all_filled}
use Rattle.clause_store.proofs.Empties.{at_filled, length_filled, Fewer-filled}
use Rattle.clause_store.proofs.Filters.{none_in}

false_true : false ≡ true → ⊥
false_true e = cc

-- ---- a kept clause stands at the place that its id says

pub record KeptAt (n : ℕ) (es : List Entry) (c : Kept) : Type 0 where
  pub place : ℕ
  pub live : (entry_at es place).live ≡ true
  pub is : c ≡ kept_of (n + place) (entry_at es place)

one_more : (n i : ℕ) → n + 1 + i ≡ n + suc i
one_more n i = omega arith

KeptAt-after : (n : ℕ) (e : Entry) (es : List Entry) (c : Kept) → KeptAt (n + 1) es c → KeptAt n (e ∷ es) c
KeptAt-after n e es c h = record { place = suc h.place; live = h.live; is = h.is ∙ ap (λ m. kept_of m (entry_at es h.place)) (one_more n h.place) }

kept_at-cons : (n : ℕ) (e : Entry) (es : List Entry) (c : Kept) (b : Bool) → e.live ≡ b → (Contains (kept_from (n + 1) es) c → KeptAt (n + 1) es c) → Contains (kept_from n (e ∷ es)) c → KeptAt n (e ∷ es) c
kept_at-cons n e es c true is rest h =
    let k : Contains (kept_of n e ∷ [] ++ kept_from (n + 1) es) c = rw is at h in
    elim (Contains-append_cases (kept_of n e ∷ []) (kept_from (n + 1) es) c k) [
      | inl first ↦ elim (Contains-push_cases [] (kept_of n e) c first) [
        | inl nil ↦ absurd (none_in c nil)
        | inr same ↦ record { place = zero; live = is; is = sym same ∙ ap (λ m. kept_of m e) (sym (add-zero n)) }
      ]
      | inr after ↦ KeptAt-after n e es c (rest after)
    ]
kept_at-cons n e es c false is rest h = KeptAt-after n e es c (rest (rw is at h))

pub kept_at : (n : ℕ) (es : List Entry) (c : Kept) → Contains (kept_from n es) c → KeptAt n es c
kept_at n [] c h = absurd (none_in c h)
kept_at n (e ∷ es) c h = kept_at-cons n e es c e.live refl (kept_at (n + 1) es c) h

pub record HasLive (es : List Entry) (id : ℕ) (P : List Signed → Type 0) : Type 0 where
  pub live : (entry_at es id).live ≡ true
  pub within : id < length es
  pub has : P (entry_at es id).literals

pub has_live : (es : List Entry) (id : ℕ) (P : List Signed → Type 0) → HasKept (kept_from 0 es) id P → HasLive es id P
has_live es id P h =
    let at : KeptAt 0 es h.0 = kept_at 0 es h.0 h.1 in
    let same : at.place ≡ id = sym (zero-add at.place) ∙ (sym (ap (λ (c : Kept). c.id) at.is) ∙ h.2) in
    let live : (entry_at es id).live ≡ true = subst (λ n. (entry_at es n).live ≡ true) same at.live in
    record {
      live = live;
      within = live_within es id live;
      has = subst (λ n. P (entry_at es n).literals) same (subst P (ap (λ (c : Kept). c.literals) at.is) h.3);
    }

pub live_kept : (es : List Entry) (id : ℕ) (P : List Signed → Type 0) → (entry_at es id).live ≡ true → P (entry_at es id).literals → HasKept (kept_from 0 es) id P
live_kept es id P live p = (kept_of id (entry_at es id), subst (λ n. Contains (kept_from 0 es) (kept_of n (entry_at es id))) (zero-add id) (kept_in 0 es id live), refl, p)

pub live_level : (es : List Entry) (id : ℕ) → (entry_at es id).live ≡ true → HasLevel (kept_from 0 es) id (entry_at es id).level
live_level es id live = (kept_of id (entry_at es id), subst (λ n. Contains (kept_from 0 es) (kept_of n (entry_at es id))) (zero-add id) (kept_in 0 es id live), refl, refl)

pub own_ids : (es : List Entry) → HaveOwnIds (kept_from 0 es)
own_ids es b c hb hc e =
    let x : KeptAt 0 es b = kept_at 0 es b hb in
    let y : KeptAt 0 es c = kept_at 0 es c hc in
    let same : 0 + x.place ≡ 0 + y.place = sym (ap (λ (k : Kept). k.id) x.is) ∙ (e ∙ ap (λ (k : Kept). k.id) y.is) in
    let place : x.place ≡ y.place = omega arith in
    x.is ∙ (ap (λ n. kept_of (0 + n) (entry_at es n)) place ∙ sym y.is)

pub ids_within : (es : List Entry) → All (λ (c : Kept). c.id < length es) (kept_from 0 es)
ids_within es k d lt =
    let at : KeptAt 0 es (get_or (kept_from 0 es) k d) = kept_at 0 es (get_or (kept_from 0 es) k d) (k, lt, get_or_default (kept_from 0 es) k (get_or (kept_from 0 es) k d) d lt) in
    let in' : at.place < length es = live_within es at.place at.live in
    let id : (get_or (kept_from 0 es) k d).id ≡ 0 + at.place = ap (λ (c : Kept). c.id) at.is in
    omega arith

-- the same kept clauses are without literals at the same places
same_empty : (es es' : List Entry) (i : ℕ) → kept_from 0 es' ≡ kept_from 0 es → IsEmptyAt es i → IsEmptyAt es' i
same_empty es es' i e h =
    let old : HasKept (kept_from 0 es) i (λ ls. ls ≡ []) = live_kept es i (λ ls. ls ≡ []) h.live h.none in
    let new : HasLive es' i (λ ls. ls ≡ []) = has_live es' i (λ ls. ls ≡ []) (subst (λ cs. HasKept cs i (λ ls. ls ≡ [])) (sym e) old) in
    record { live = new.live; none = new.has }

pub none_kept : (es : List Entry) → ((id : ℕ) → HasKept (kept_from 0 es) id (λ ls. ls ≡ []) → ⊥) → (i : ℕ) → IsEmptyAt es i → ⊥
none_kept es h i x = h i (live_kept es i (λ ls. ls ≡ []) x.live x.none)

pub none_has : (es : List Entry) → NamesEmpty es None → (id : ℕ) → HasKept (kept_from 0 es) id (λ ls. ls ≡ []) → ⊥
none_has es h id k =
    let at : HasLive es id (λ ls. ls ≡ []) = has_live es id (λ ls. ls ≡ []) k in
    h id (record { live = at.live; none = at.has })

pub empty_false : (es : List Entry) (i : ℕ) (steps : List Step) → IsEmptyAt es i → HasKept (kept_from 0 es) i (AllFalse steps)
empty_false es i steps h = live_kept es i (AllFalse steps) h.live (subst (AllFalse steps) (sym h.none) (All-nil (IsFalseOn steps)))

pub names_kept : (es es' : List Entry) (o : Option ℕ) → kept_from 0 es' ≡ kept_from 0 es → NamesEmpty es o → NamesEmpty es' o
names_kept es es' (Some i) e h = same_empty es es' i e h
names_kept es es' None e h = λ i x. h i (same_empty es' es i (sym e) x)

-- ---- entries of which some are no longer live

was_live : (old new : List Entry) → IsFewer old new → (i : ℕ) → (entry_at new i).live ≡ true → (entry_at old i).live ≡ true
was_live old new f i live = subst (λ (e : Entry). e.live ≡ true) (f.same i live) live

pub IsWatching-fewer : (atoms : ℕ) (es es' : List Entry) (lists : List (List Watch)) → IsFewer es es' → IsWatching atoms es lists → IsWatching atoms es' lists
IsWatching-fewer atoms es es' lists f h = record {
  known = λ i live. subst (IsKnown atoms) (sym (f.same i live)) (h.known i (was_live es es' f i live));
  pairs = λ i live. subst IsPair (sym (f.same i live)) (h.pairs i (was_live es es' f i live));
  sound = λ l. All-weaker (IsSound atoms es) (IsSound atoms es')
      (λ w s. record {
        within = subst (λ n. w.row < n) (sym f.count) s.within;
        known = s.known;
        blocker = λ live. subst (λ ls. Contains ls w.blocker) (sym (f.literals w.row)) (s.blocker (was_live es es' f w.row live));
      }) (watches_of lists l) (h.sound l);
  listed = λ i live. subst (λ (e : Entry). IsListed (watches_of lists e.first) 0 i × IsListed (watches_of lists e.second) 0 i) (sym (f.same i live)) (h.listed i (was_live es es' f i live));
  room = h.room;
  tidy = record {
    own = λ l. All-weaker (IsOwn es l) (IsOwn es' l)
        (λ w o. record { pair = elim o.pair [ inl a ↦ inl (f.first w.row ∙ a) | inr b ↦ inr (f.second w.row ∙ b) ]; contained = subst (λ ls. Contains ls l) (sym (f.literals w.row)) o.contained }) (watches_of lists l) (h.tidy.own l);
    once = h.tidy.once;
  };
}

known_fewer : (atoms : ℕ) (es es' : List Entry) → IsFewer es es' → All (λ (c : Kept). All (λ (l : Signed). l.atom < atoms) c.literals) (kept_from 0 es) → All (λ (c : Kept). All (λ (l : Signed). l.atom < atoms) c.literals) (kept_from 0 es')
known_fewer atoms es es' f h =
    All-kept (All (λ (l : Signed). l.atom < atoms)) 0 es' (λ i live. subst (All (λ (l : Signed). l.atom < atoms)) (sym (f.literals i)) (known_live atoms es h i (was_live es es' f i live)))

-- ---- the kept clauses of these

pub record Filters (test : Kept → Bool) (id : ℕ) (e e' : Entry) : Type 0 where
  pub live : e'.live ≡ (test (kept_of id e) && e.live)
  pub literals : e'.literals ≡ e.literals
  pub level : e'.level ≡ e.level

same_kept : (id : ℕ) (e e' : Entry) → e'.literals ≡ e.literals → e'.level ≡ e.level → kept_of id e' ≡ kept_of id e
same_kept id e e' l v =
    ap (λ (ls : List Signed). let c : Kept = record { id = id; literals = ls; level = e'.level } in c) l
    ∙ ap (λ (n : ℕ). let c : Kept = record { id = id; literals = e.literals; level = n } in c) v

kept_live : (n : ℕ) (e : Entry) (es : List Entry) → e.live ≡ true → kept_from n (e ∷ es) ≡ kept_of n e ∷ kept_from (n + 1) es
kept_live n e es h = rw h refl

kept_dead : (n : ℕ) (e : Entry) (es : List Entry) → e.live ≡ false → kept_from n (e ∷ es) ≡ kept_from (n + 1) es
kept_dead n e es h = rw h refl

filter_yes : (test : Kept → Bool) (c : Kept) (cs : List Kept) → test c ≡ true → filter test (c ∷ cs) ≡ c ∷ filter test cs
filter_yes test c cs h = rw h refl

filter_no : (test : Kept → Bool) (c : Kept) (cs : List Kept) → test c ≡ false → filter test (c ∷ cs) ≡ filter test cs
filter_no test c cs h = rw h refl

and_false : (a b : Bool) → b ≡ false → (a && b) ≡ false
and_false true b h = h
and_false false b h = refl

filtered_cons : (test : Kept → Bool) (n : ℕ) (e e' : Entry) (es es' : List Entry) (b t : Bool) → e.live ≡ b → test (kept_of n e) ≡ t → Filters test n e e'
    → kept_from (n + 1) es' ≡ filter test (kept_from (n + 1) es) → kept_from n (e' ∷ es') ≡ filter test (kept_from n (e ∷ es))
filtered_cons test n e e' es es' true true b t f rest =
    let live : e'.live ≡ true = f.live ∙ rw (t, b) refl in
    kept_live n e' es' live ∙ (ap (λ (c : Kept). c ∷ kept_from (n + 1) es') (same_kept n e e' f.literals f.level) ∙ (ap (λ (cs : List Kept). kept_of n e ∷ cs) rest
    ∙ (sym (filter_yes test (kept_of n e) (kept_from (n + 1) es) t) ∙ ap (filter test) (sym (kept_live n e es b)))))
filtered_cons test n e e' es es' true false b t f rest =
    let live : e'.live ≡ false = f.live ∙ rw t refl in
    kept_dead n e' es' live ∙ (rest ∙ (sym (filter_no test (kept_of n e) (kept_from (n + 1) es) t) ∙ ap (filter test) (sym (kept_live n e es b))))
filtered_cons test n e e' es es' false t' b t f rest =
    let live : e'.live ≡ false = f.live ∙ and_false (test (kept_of n e)) e.live b in
    kept_dead n e' es' live ∙ (rest ∙ ap (filter test) (sym (kept_dead n e es b)))

pub kept_from-filtered : (test : Kept → Bool) (n : ℕ) (es es' : List Entry) → length es' ≡ length es → ((i : ℕ) → i < length es → Filters test (n + i) (entry_at es i) (entry_at es' i)) → kept_from n es' ≡ filter test (kept_from n es)
kept_from-filtered test n [] [] count h = refl
kept_from-filtered test n [] (e' ∷ es') count h = absurd (omega (arith, count))
kept_from-filtered test n (e ∷ es) [] count h = absurd (omega (arith, count))
kept_from-filtered test n (e ∷ es) (e' ∷ es') count h =
    filtered_cons test n e e' es es' e.live (test (kept_of n e)) refl refl (subst (λ m. Filters test m e e') (add-zero n) (h zero (omega arith)))
    (kept_from-filtered test (n + 1) es es' (omega (arith, count)) (λ i lt. subst (λ m. Filters test m (entry_at es i) (entry_at es' i)) (sym (one_more n i)) (h (suc i) (omega (arith, lt)))))

-- ---- one clause less

abbrev pub dead : Entry → Entry
dead e = record e { live = false }

abbrev pub forgotten : List Entry → ℕ → List Entry
forgotten es i = set es i (dead (entry_at es i))

not_equal : (a b : ℕ) → a ≢ b → (a == b) ≡ false
not_equal a b ne = grind (arith, nat_tests)

forgotten_same : {X : Type 0} (es : List Entry) (i : ℕ) → i < length es → (p : Entry → X) → ((e : Entry) → p (dead e) ≡ p e) → (k : ℕ) → p (entry_at (forgotten es i) k) ≡ p (entry_at es k)
forgotten_same es i lt p h k = elim (same_or_apart k i) [
  | inl here ↦ subst (λ n. p (entry_at (forgotten es i) n) ≡ p (entry_at es n)) (sym here) (ap p (entry_at-same es i (dead (entry_at es i)) lt) ∙ h (entry_at es i))
  | inr apart ↦ ap p (entry_at-other es i k (dead (entry_at es i)) apart)
]

pub Fewer-forgotten : (es : List Entry) (i : ℕ) → i < length es → IsFewer es (forgotten es i)
Fewer-forgotten es i lt =
    record {
      count = length-set es i (dead (entry_at es i));
      literals = forgotten_same es i lt (λ e. e.literals) (λ e. refl);
      first = forgotten_same es i lt (λ e. e.first) (λ e. refl);
      second = forgotten_same es i lt (λ e. e.second) (λ e. refl);
      same = λ k live. elim (same_or_apart k i) [
        | inl here ↦ absurd (false_true (sym (ap (λ (e : Entry). e.live) (entry_at-same es i (dead (entry_at es i)) lt)) ∙ subst (λ n. (entry_at (forgotten es i) n).live ≡ true) here live))
        | inr apart ↦ entry_at-other es i k (dead (entry_at es i)) apart
      ];
    }

pub kept_from-forgotten : (es : List Entry) (i : ℕ) → i < length es → kept_from 0 (forgotten es i) ≡ without i (kept_from 0 es)
kept_from-forgotten es i lt =
    kept_from-filtered (λ (c : Kept). not (c.id == i)) 0 es (forgotten es i) (length-set es i (dead (entry_at es i))) (λ k lt'. elim (same_or_apart k i) [
      | inl here ↦ subst (λ n. Filters (λ (c : Kept). not (c.id == i)) (0 + n) (entry_at es n) (entry_at (forgotten es i) n)) (sym here) (rw (entry_at-same es i (dead (entry_at es i)) lt) (record {
        live = let e : (0 + i == i) ≡ true = eq-eqb (0 + i) i (zero-add i) in rw e refl;
        literals = refl;
        level = refl;
      }))
      | inr apart ↦ rw (entry_at-other es i k (dead (entry_at es i)) apart) (record {
        live = let e : (0 + k == i) ≡ false = not_equal (0 + k) i (λ x. apart (sym (zero-add k) ∙ x)) in rw e refl;
        literals = refl;
        level = refl;
      })
    ])

justified_forgotten : (es : List Entry) (i : ℕ) (steps : List Step) → i < length es → All (λ (s : Step). s.reason ≡ Some i → ⊥) steps → EachAfter (IsJustified (kept_from 0 es)) steps → EachAfter (IsJustified (kept_from 0 (forgotten es i))) steps
justified_forgotten es i steps lt unused h k d lt' id r =
    let f : IsForced (kept_from 0 es) (take k steps) (get_or steps k d) = h k d lt' id r in
    let at : KeptAt 0 es f.by = kept_at 0 es f.by f.kept in
    let id_is : f.by.id ≡ 0 + at.place = ap (λ (c : Kept). c.id) at.is in
    let apart : at.place ≢ i = λ e. unused k d lt' (f.reason ∙ ap Some (id_is ∙ (zero-add at.place ∙ e))) in
    let same : entry_at (forgotten es i) at.place ≡ entry_at es at.place = entry_at-other es i at.place (dead (entry_at es i)) apart in
    record {
      by = f.by;
      kept = subst (Contains (kept_from 0 (forgotten es i))) (ap (λ (e : Entry). kept_of (0 + at.place) e) same ∙ sym at.is)
          (kept_in 0 (forgotten es i) at.place (subst (λ (e : Entry). e.live ≡ true) (sym same) at.live));
      reason = f.reason;
      unit = f.unit;
    }

waits_fewer : (ws ws' : List Wait) (i k d : ℕ) → ((w : Wait) → Contains ws w → (w.row ≡ i → ⊥) → Contains ws' w) → k ≢ i → Waits ws k d → Waits ws' k d
waits_fewer ws ws' i k d keeps ne h = record { wait = h.wait; contained = keeps h.wait h.contained (λ e. ne (sym h.row ∙ e)); row = h.row; from = h.from }

pub Rested-forgotten : (es : List Entry) (i : ℕ) (steps : List Step) (depth head lasting : ℕ) (ws ws' : List Wait) → i < length es
    → ((w : Wait) → Contains ws w → (w.row ≡ i → ⊥) → Contains ws' w) → ((w : Wait) → Contains ws' w → Contains ws w × (w.row ≡ i → ⊥)) → Rested es steps depth head lasting ws → Rested (forgotten es i) steps depth head lasting ws'
Rested-forgotten es i steps depth head lasting ws ws' lt keeps only h =
    let f : IsFewer es (forgotten es i) = Fewer-forgotten es i lt in
    let apart : (k : ℕ) → (entry_at (forgotten es i) k).live ≡ true → k ≢ i =
    λ k live here. false_true (sym (ap (λ (e : Entry). e.live) (entry_at-same es i (dead (entry_at es i)) lt)) ∙ subst (λ n. (entry_at (forgotten es i) n).live ≡ true) here live) in
    record {
      deepest = h.deepest;
      head_within = h.head_within;
      lasting_within = h.lasting_within;
      current = λ k live. elim (h.current k (was_live es (forgotten es i) f k live)) [
        | inl done ↦ inl (subst (IsSettled (take head steps) steps) (sym (f.same k live)) done)
        | inr waits ↦ inr (waits_fewer ws ws' i k depth keeps (apart k live) waits)
      ];
      each = λ d k live. elim (h.each d k (was_live es (forgotten es i) f k live)) [
        | inl done ↦ inl (subst (IsSettled (take lasting (up_to d steps)) (up_to d steps)) (sym (f.same k live)) done)
        | inr waits ↦ inr (waits_fewer ws ws' i k d keeps (apart k live) waits)
      ];
      waiting = λ k d lt'.
          let w : Wait = get_or ws' k d in
          let o = only w (k, lt', get_or_default ws' k w d lt') in
          let was : IsWaiting es steps w = All-contains (IsWaiting es steps) ws w h.waiting o.0 in
          let same : entry_at (forgotten es i) w.row ≡ entry_at es w.row = entry_at-other es i w.row (dead (entry_at es i)) o.1 in
          record {
            live = subst (λ (e : Entry). e.live ≡ true) (sym same) was.live;
            contained = subst (λ (e : Entry). Contains e.literals w.literal) (sym same) was.contained;
            rest = subst (λ (e : Entry). OthersFalse (up_to w.depth steps) e.literals w.literal) (sym same) was.rest;
          };
    }

filled_forgotten : (es : List Entry) (i : ℕ) → all_filled (forgotten es i) ≡ forgotten (all_filled es) i
filled_forgotten es i = map-set filled es i (dead (entry_at es i)) ∙ ap (λ (e : Entry). set (all_filled es) i (dead e)) (sym (at_filled es i))

pub IsKept-forgotten : (es : List Entry) (i : ℕ) (lists : List (List Watch)) (t : Assigned) (head : ℕ) (ws ws' : List Wait) (empty empty' : Option ℕ) → i < length es → All (λ (s : Step). s.reason ≡ Some i → ⊥) t.steps
    → ((w : Wait) → Contains ws w → (w.row ≡ i → ⊥) → Contains ws' w) → ((w : Wait) → Contains ws' w → Contains ws w × (w.row ≡ i → ⊥)) → NamesEmpty (forgotten es i) empty' → IsKept es lists t head ws empty → IsKept (forgotten es i) lists t head ws' empty'
IsKept-forgotten es i lists t head ws ws' empty empty' lt unused keeps only names h =
    let f : IsFewer es (forgotten es i) = Fewer-forgotten es i lt in
    record {
      known = known_fewer t.atoms es (forgotten es i) f h.known;
      justified = justified_forgotten es i t.steps lt unused h.justified;
      small = subst (λ n. n < 2 ^ 32) (sym f.count) h.small;
      empty_is = names;
      tight = record {
        watch = IsWatching-fewer t.atoms (all_filled es) (all_filled (forgotten es i)) lists (Fewer-filled es (forgotten es i) f) h.tight.watch;
        rested = subst (λ xs. Rested xs t.steps t.depth head head ws') (sym (filled_forgotten es i))
            (Rested-forgotten (all_filled es) i t.steps t.depth head head ws ws' (omega (arith, length_filled es)) keeps only h.tight.rested);
      };
    }

-- ---- clauses up to a level

and_true : (a b : Bool) → (a && b) ≡ true → b ≡ true
and_true true b h = h
and_true false b h = absurd (false_true h)

and_left : (a b : Bool) → (a && b) ≡ true → (a && b) ≡ b
and_left true b h = refl
and_left false b h = absurd (false_true h)

cut_same : (bound : ℕ) (e : Entry) → (cut_entry bound e).live ≡ true → cut_entry bound e ≡ e
cut_same bound e h = ap (λ (b : Bool). let x : Entry = record e { live = b } in x) (and_left (nat_lt e.level bound) e.live h)

cut_all : (bound : ℕ) (old new : List Entry) → IsCut bound old new (length old) → (k : ℕ) → (entry_at new k ≡ cut_entry bound (entry_at old k)) ⊎ (entry_at new k ≡ entry_at old k)
cut_all bound old new h k = elim (below_or_past k (length old)) [ inl lt ↦ inl (h.before k lt lt) | inr past ↦ inr (h.after k past) ]
  where
    below_or_past : (a b : ℕ) → (a < b) ⊎ (b ≤ a)
    below_or_past a b = grind arith

pub Fewer-cut : (bound : ℕ) (old new : List Entry) → IsCut bound old new (length old) → IsFewer old new
Fewer-cut bound old new h = record {
  count = h.count;
  literals = λ k. elim (cut_all bound old new h k) [ inl e ↦ ap (λ (x : Entry). x.literals) e | inr e ↦ ap (λ (x : Entry). x.literals) e ];
  first = λ k. elim (cut_all bound old new h k) [ inl e ↦ ap (λ (x : Entry). x.first) e | inr e ↦ ap (λ (x : Entry). x.first) e ];
  second = λ k. elim (cut_all bound old new h k) [ inl e ↦ ap (λ (x : Entry). x.second) e | inr e ↦ ap (λ (x : Entry). x.second) e ];
  same = λ k live. elim (cut_all bound old new h k) [
    | inl e ↦ e ∙ cut_same bound (entry_at old k) (sym (ap (λ (x : Entry). x.live) e) ∙ live)
    | inr e ↦ e
  ];
}

filter_head : {X : Type 0} (p q : X → Bool) (x : X) (xs : List X) (b : Bool) → q x ≡ b → p x ≡ q x → filter p xs ≡ filter q xs → filter p (x ∷ xs) ≡ filter q (x ∷ xs)
filter_head p q x xs true e h rest = let k : p x ≡ true = h ∙ e in rw (k, e) (ap (λ ys. x ∷ ys) rest)
filter_head p q x xs false e h rest = let k : p x ≡ false = h ∙ e in rw (k, e) rest

filter_same : {X : Type 0} (p q : X → Bool) (xs : List X) → ((x : X) → p x ≡ q x) → filter p xs ≡ filter q xs
filter_same p q [] h = refl
filter_same p q (x ∷ xs) h = filter_head p q x xs (q x) refl (h x) (filter_same p q xs h)

pub kept_from-cut : (bound : ℕ) (level : ℤ) (old new : List Entry) → ((n : ℕ) → nat_lt n bound ≡ int_le (pos n) level) → IsCut bound old new (length old) → kept_from 0 new ≡ up_to_level level (kept_from 0 old)
kept_from-cut bound level old new same h =
    kept_from-filtered (λ (c : Kept). nat_lt c.level bound) 0 old new h.count (λ k lt. rw (h.before k lt lt) (record { live = refl; literals = refl; level = refl }))
    ∙ filter_same (λ (c : Kept). nat_lt c.level bound) (λ (c : Kept). int_le (pos c.level) level) (kept_from 0 old) (λ c. same c.level)

lt_true : (a b : ℕ) → a < b → nat_lt a b ≡ true
lt_true a b h = grind (arith, nat_tests)

lt_false : (a b : ℕ) → b ≤ a → nat_lt a b ≡ false
lt_false a b h = grind (arith, nat_tests)

pub IsCut-start : (bound : ℕ) (es : List Entry) → IsCut bound es es 0
IsCut-start bound es = record { count = refl; before = λ k lt in'. absurd (omega arith); after = λ k le. refl }

-- at the next place: forgotten where its level is greater, else as it was
pub IsCut-kept : (bound : ℕ) (old new : List Entry) (i : ℕ) → i < length old → (entry_at new i).level < bound → IsCut bound old new i → IsCut bound old new (i + 1)
IsCut-kept bound old new i lt within h =
    let here : entry_at new i ≡ entry_at old i = h.after i (omega arith) in
    let low : nat_lt (entry_at old i).level bound ≡ true = lt_true (entry_at old i).level bound (subst (λ (e : Entry). e.level < bound) here within) in
    record {
      count = h.count;
      before = λ k lt' in'. elim (below_or_at k i lt') [
        | inl below ↦ h.before k below in'
        | inr at ↦ subst (λ n. entry_at new n ≡ cut_entry bound (entry_at old n)) (sym at) (here ∙ sym (rw low refl))
      ];
      after = λ k le. h.after k (omega arith);
    }

pub IsCut-forgotten : (bound : ℕ) (old new : List Entry) (i : ℕ) → i < length old → bound ≤ (entry_at new i).level → IsCut bound old new i → IsCut bound old (forgotten new i) (i + 1)
IsCut-forgotten bound old new i lt beyond h =
    let lt' : i < length new = omega (arith, h.count) in
    let here : entry_at new i ≡ entry_at old i = h.after i (omega arith) in
    let high : nat_lt (entry_at old i).level bound ≡ false = lt_false (entry_at old i).level bound (subst (λ (e : Entry). bound ≤ e.level) here beyond) in
    record {
      count = length-set new i (dead (entry_at new i)) ∙ h.count;
      before = λ k less in'. elim (below_or_at k i less) [
        | inl below ↦ entry_at-other new i k (dead (entry_at new i)) (omega arith) ∙ h.before k below in'
        | inr at ↦ subst (λ n. entry_at (forgotten new i) n ≡ cut_entry bound (entry_at old n)) (sym at)
            (entry_at-same new i (dead (entry_at new i)) lt' ∙ (ap dead here ∙ sym (rw high refl)))
      ];
      after = λ k le. entry_at-other new i k (dead (entry_at new i)) (omega arith) ∙ h.after k (omega arith);
    }

past_end : (old new : List Entry) (k : ℕ) → length new ≤ k → length old ≤ k → entry_at new k ≡ entry_at old k
past_end old new k a b = get_or_past new k no_entry a ∙ sym (get_or_past old k no_entry b)

pub IsCut-end : (bound : ℕ) (old new : List Entry) (i : ℕ) → length old ≤ i → IsCut bound old new i → IsCut bound old new (length old)
IsCut-end bound old new i le h = record {
  count = h.count;
  before = λ k lt in'. h.before k (omega arith) in';
  after = λ k past. past_end old new k (omega (arith, h.count)) past;
}

nothing_false : (l : Signed) → IsFalseOn [] l → ⊥
nothing_false l h = none_in (opposite l) h

awake_at_first : (n : ℕ) (e : Entry) → (e.first ≡ e.second → ⊥) → IsSettled (take n []) [] e
awake_at_first n e apart = inr (record {
  apart = apart;
  first = λ x. nothing_false e.first (Assigns-front n [] (opposite e.first) x);
  second = λ x. nothing_false e.second (Assigns-front n [] (opposite e.second) x);
})

pub Rested-cut : (atoms : ℕ) (es : List Entry) (lists : List (List Watch)) (ws : List Wait) → IsWatching atoms es lists → AreSingles es (length es) ws → Rested es [] 0 0 0 ws
Rested-cut atoms es lists ws w h =
    let at : (d i n : ℕ) → (entry_at es i).live ≡ true → IsSettled (take n []) [] (entry_at es i) ⊎ Waits ws i d = λ d i n live.
    elim (equal_or_apart (entry_at es i).first (entry_at es i).second) [
      | inl same ↦ inr (let x : Waits ws i 0 = h.all i (live_within es i live) live same in record { wait = x.wait; contained = x.contained; row = x.row; from = (let f : x.wait.depth ≤ 0 = x.from in omega arith) })
      | inr apart ↦ inl (awake_at_first n (entry_at es i) apart)
    ] in
    record {
      deepest = All-nil (λ (s : Step). s.depth ≤ 0);
      head_within = omega arith;
      lasting_within = omega arith;
      current = λ i live. at 0 i 0 live;
      each = λ d i live. at d i 0 live;
      waiting = λ k d lt.
          let x : Wait = get_or ws k d in
          let s : IsSingle es x = h.only x (Contains-get_or ws k d lt) in
          let pair : IsPair (entry_at es x.row) = w.pairs x.row s.live in
          record {
            live = s.live;
            contained = subst (Contains (entry_at es x.row).literals) (sym s.literal) pair.first;
            rest = All-weaker (λ m. m ≡ (entry_at es x.row).first) (λ m. (m ≡ x.literal) ⊎ IsFalseOn (up_to x.depth []) m) (λ m e. inl (e ∙ sym s.literal)) (entry_at es x.row).literals (pair.single s.single);
          };
    }

pub tight-cut : (es es' : List Entry) (lists : List (List Watch)) (t t' : Assigned) (ws : List Wait) → IsFewer es es' → t'.steps ≡ [] → t'.atoms ≡ t.atoms → t'.depth ≡ 0 → AreSingles es' (length es') ws
    → IsWatching t.atoms es lists → IsTight es' lists t' 0 ws
tight-cut es es' lists t t' ws f steps atoms depth singles w =
    let watch : IsWatching t.atoms es' lists = IsWatching-fewer t.atoms es es' lists f w in
    record {
      watch = subst (λ n. IsWatching n es' lists) (sym atoms) watch;
      rested = subst (λ ss. Rested es' ss t'.depth 0 0 ws) (sym steps) (subst (λ d. Rested es' [] d 0 0 ws) (sym depth) (Rested-cut t.atoms es' lists ws watch singles));
    }

-- the clauses that wait once one more is seen
pub AreSingles-none : (es : List Entry) → AreSingles es 0 []
AreSingles-none es = record { only = λ w c. absurd (none_in w c); all = λ k lt live same. absurd (omega arith) }

pub AreSingles-pass : (es : List Entry) (i : ℕ) (ws : List Wait) → ((entry_at es i).live ≡ true → (entry_at es i).first ≡ (entry_at es i).second → ⊥) → AreSingles es i ws → AreSingles es (i + 1) ws
AreSingles-pass es i ws none h = record {
  only = h.only;
  all = λ k lt live same. elim (below_or_at k i lt) [
    | inl below ↦ h.all k below live same
    | inr at ↦ absurd (none (subst (λ n. (entry_at es n).live ≡ true) at live) (subst (λ n. (entry_at es n).first ≡ (entry_at es n).second) at same))
  ];
}

pub AreSingles-push : (es : List Entry) (i : ℕ) (ws : List Wait) (w : Wait) → w.row ≡ i → w.depth ≡ 0 → w.literal ≡ (entry_at es i).first → (entry_at es i).live ≡ true → (entry_at es i).first ≡ (entry_at es i).second → AreSingles es i ws
    → AreSingles es (i + 1) (ws ++ w ∷ [])
AreSingles-push es i ws w row depth literal live same h =
    let single : IsSingle es w = record {
      live = subst (λ n. (entry_at es n).live ≡ true) (sym row) live;
      single = subst (λ n. (entry_at es n).first ≡ (entry_at es n).second) (sym row) same;
      literal = subst (λ n. w.literal ≡ (entry_at es n).first) (sym row) literal;
    } in
    record {
      only = λ x c. elim (Contains-push_cases ws w x c) [ inl old ↦ h.only x old | inr e ↦ subst (IsSingle es) e single ];
      all = λ k lt live' same'. elim (below_or_at k i lt) [
        | inl below ↦ let x : Waits ws k 0 = h.all k below live' same' in record { wait = x.wait; contained = Contains-append_left ws (w ∷ []) x.wait x.contained; row = x.row; from = x.from }
        | inr at ↦ record { wait = w; contained = Contains-push ws w; row = row ∙ sym at; from = omega arith }
      ];
    }

pub IsKept-cut : (es es' : List Entry) (lists : List (List Watch)) (t t' : Assigned) (head : ℕ) (ws ws' : List Wait) (empty empty' : Option ℕ) → IsFewer es es' → t'.steps ≡ [] → t'.atoms ≡ t.atoms
    → NamesEmpty es' empty' → IsTight (all_filled es') lists t' 0 ws' → IsKept es lists t head ws empty → IsKept es' lists t' 0 ws' empty'
IsKept-cut es es' lists t t' head ws ws' empty empty' f steps atoms names tight h = record {
  empty_is = names;
  known = subst (λ n. All (λ (c : Kept). All (λ (l : Signed). l.atom < n) c.literals) (kept_from 0 es')) (sym atoms) (known_fewer t.atoms es es' f h.known);
  justified = subst (EachAfter (IsJustified (kept_from 0 es'))) (sym steps) (λ k d lt. absurd (omega (arith, lt)));
  small = subst (λ n. n < 2 ^ 32) (sym f.count) h.small;
  tight = tight;
}

-- ---- more atoms, and none

pub IsWatching-more : (atoms atoms' : ℕ) (es : List Entry) (lists lists' : List (List Watch)) → atoms ≤ atoms' → 2 * atoms' ≤ length lists' → ((l : Signed) → watches_of lists' l ≡ watches_of lists l) → IsWatching atoms es lists → IsWatching atoms' es lists'
IsWatching-more atoms atoms' es lists lists' le room same h = record {
  known = λ i live.
      let k : IsKnown atoms (entry_at es i) = h.known i live in
      let first : (entry_at es i).first.atom < atoms = k.first in
      let second : (entry_at es i).second.atom < atoms = k.second in
      record {
        literals = All-weaker (λ (l : Signed). l.atom < atoms) (λ (l : Signed). l.atom < atoms') (λ l lt'. omega arith) (entry_at es i).literals k.literals;
        first = omega arith;
        second = omega arith;
      };
  pairs = h.pairs;
  sound = λ l. subst (All (IsSound atoms' es)) (sym (same l)) (All-weaker (IsSound atoms es) (IsSound atoms' es)
      (λ w s. let known : w.blocker.atom < atoms = s.known in record { within = s.within; known = omega arith; blocker = s.blocker }) (watches_of lists l) (h.sound l));
  listed = λ i live. rw (same (entry_at es i).first, same (entry_at es i).second) (h.listed i live);
  room = room;
  tidy = record {
    own = λ l. subst (All (IsOwn es l)) (sym (same l)) (h.tidy.own l);
    once = λ l. subst IsOnce (sym (same l)) (h.tidy.once l);
  };
}

pub IsKept-more : (es : List Entry) (lists lists' : List (List Watch)) (t t' : Assigned) (head : ℕ) (ws : List Wait) (empty : Option ℕ) → t'.steps ≡ t.steps → t'.depth ≡ t.depth → t.atoms ≤ t'.atoms
    → ((l : Signed) → watches_of lists' l ≡ watches_of lists l) → 2 * t'.atoms ≤ length lists' → IsKept es lists t head ws empty → IsKept es lists' t' head ws empty
IsKept-more es lists lists' t t' head ws empty steps depth le same room h = record {
  empty_is = h.empty_is;
  known = All-weaker (λ (c : Kept). All (λ (l : Signed). l.atom < t.atoms) c.literals) (λ (c : Kept). All (λ (l : Signed). l.atom < t'.atoms) c.literals)
      (λ c k. All-weaker (λ (l : Signed). l.atom < t.atoms) (λ (l : Signed). l.atom < t'.atoms) (λ l lt. omega arith) c.literals k) (kept_from 0 es) h.known;
  justified = subst (EachAfter (IsJustified (kept_from 0 es))) (sym steps) h.justified;
  small = h.small;
  tight = record {
    watch = IsWatching-more t.atoms t'.atoms (all_filled es) lists lists' le room same h.tight.watch;
    rested = subst (λ ss. Rested (all_filled es) ss t'.depth head head ws) (sym steps) (subst (λ d. Rested (all_filled es) t.steps d head head ws) (sym depth) h.tight.rested);
  };
}

pub IsKept-none : (t : Assigned) → t.steps ≡ [] → t.atoms ≡ 0 → t.depth ≡ 0 → IsKept [] [] t 0 [] None
IsKept-none t steps atoms depth =
    let watch : IsWatching 0 [] [] = record {
      known = λ i live. absurd (false_true live);
      pairs = λ i live. absurd (false_true live);
      sound = λ l. All-nil (IsSound 0 []);
      listed = λ i live. absurd (false_true live);
      room = omega arith;
      tidy = record { own = λ l. All-nil (IsOwn [] l); once = λ l j k lt. absurd (omega (arith, lt)) };
    } in
    record {
      known = All-nil (λ (c : Kept). All (λ (l : Signed). l.atom < t.atoms) c.literals);
      justified = subst (EachAfter (IsJustified [])) (sym steps) (λ k d lt. absurd (omega (arith, lt)));
      small = omega arith;
      empty_is = λ i x. false_true x.live;
      tight = record {
        watch = subst (λ n. IsWatching n [] []) (sym atoms) watch;
        rested = subst (λ ss. Rested [] ss t.depth 0 0 []) (sym steps) (subst (λ d. Rested [] [] d 0 0 []) (sym depth) (Rested-cut 0 [] [] [] watch (AreSingles-none [])));
      };
    }

pub HasSingles-none : (es : List Entry) → HasSingles es 0 []
HasSingles-none es = record { singles = AreSingles-none es; below = All-nil (λ (w : Wait). w.row < 0); apart = λ j k lt. absurd (omega (arith, lt)) }

below_more : (ws : List Wait) (i : ℕ) → All (λ (w : Wait). w.row < i) ws → All (λ (w : Wait). w.row < i + 1) ws
below_more ws i h = All-weaker (λ (w : Wait). w.row < i) (λ (w : Wait). w.row < i + 1) (λ w lt. omega arith) ws h

pub HasSingles-pass : (es : List Entry) (i : ℕ) (ws : List Wait) → ((entry_at es i).live ≡ true → (entry_at es i).first ≡ (entry_at es i).second → ⊥) → HasSingles es i ws → HasSingles es (i + 1) ws
HasSingles-pass es i ws none h = record { singles = AreSingles-pass es i ws none h.singles; below = below_more ws i h.below; apart = h.apart }

pub HasSingles-push : (es : List Entry) (i : ℕ) (ws : List Wait) (w : Wait) → w.row ≡ i → w.depth ≡ 0 → w.literal ≡ (entry_at es i).first → (entry_at es i).live ≡ true → (entry_at es i).first ≡ (entry_at es i).second → HasSingles es i ws
    → HasSingles es (i + 1) (ws ++ w ∷ [])
HasSingles-push es i ws w row depth literal live same h = record {
  singles = AreSingles-push es i ws w row depth literal live same h.singles;
  below = All-push (λ (x : Wait). x.row < i + 1) ws w (below_more ws i h.below) (omega (arith, row));
  apart = apart_fresh ws w h.apart (λ x c e. let lt : x.row < i = All-contains (λ (y : Wait). y.row < i) ws x h.below c in omega (arith, row, e));
}
