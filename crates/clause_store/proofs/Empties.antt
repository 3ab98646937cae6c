-- Clauses without literals among the entries.
use Rattle.std.proofs.Common.{◌≡◌, All, ℕ, ◌<◌, get_or, zero, suc, Bool, true, false, ◌&&◌, List, [], ◌∷◌, ◌++◌, Contains, length, subst, sym, ap, ◌∙◌, refl, inl, inr, arith, Option, Some, None, IfSome, IfNone}
use Rattle.std.proofs.lemmas.List.Elements.{All-weaker}
use Rattle.std.proofs.lemmas.List.{length-map, length_push, map-append}
use Rattle.literals.specs.Signed.{Signed}
use Rattle.clause_store.specs.Entries.{Entry, entry_at, watches_of}
use Rattle.clause_store.specs.Assigned.{Assigned}
use Rattle.clause_store.specs.Keeping.{IsTight}
use Rattle.clause_store.specs.Gaining.{GainsEntry}
use Rattle.clause_store.specs.Rested.{Rested, IsWaiting}
use Rattle.clause_store.specs.declared.trail.Step.{Step}
use Rattle.clause_store.specs.declared.waits.Wait.{Wait}
use Rattle.clause_store.specs.Empties.{IsEmptyAt, NamesEmpty, has_literals, filled, all_filled}
use Rattle.clause_store.specs.Watching.{IsWatching, IsSound, IsOwn}
use Rattle.clause_store.specs.Cutting.{IsFewer}
use Rattle.clause_store.specs.declared.lists.Watch.{Watch}
use Rattle.clause_store.proofs.Watches.{below_or_at}
use Rattle.clause_store.proofs.Sweeping.{live_within}
use Rattle.clause_store.proofs.Adding.{entry_at-old, entry_at-new}
use Rattle.clause_store.proofs.Filters.{none_in}

pub at_filled : (es : List Entry) (i : ℕ) → entry_at (all_filled es) i ≡ filled (entry_at es i)
at_filled [] i = refl
at_filled (e ∷ es) zero = refl
at_filled (e ∷ es) (suc i) = at_filled es i

pub length_filled : (es : List Entry) → length (all_filled es) ≡ length es
length_filled es = length-map es filled

both_true : (a b : Bool) → (a && b) ≡ true → a ≡ true
both_true true b h = refl
both_true false b h = cc

pub filled_live : (es : List Entry) (i : ℕ) → (entry_at (all_filled es) i).live ≡ true → (entry_at es i).live ≡ true
filled_live es i h = both_true (entry_at es i).live (has_literals (entry_at es i).literals) (sym (ap (λ (e : Entry). e.live) (at_filled es i)) ∙ h)

pub filled_literals : (es : List Entry) (i : ℕ) → (entry_at (all_filled es) i).literals ≡ (entry_at es i).literals
filled_literals es i = ap (λ (e : Entry). e.literals) (at_filled es i)

pub filled_first : (es : List Entry) (i : ℕ) → (entry_at (all_filled es) i).first ≡ (entry_at es i).first
filled_first es i = ap (λ (e : Entry). e.first) (at_filled es i)

pub filled_second : (es : List Entry) (i : ℕ) → (entry_at (all_filled es) i).second ≡ (entry_at es i).second
filled_second es i = ap (λ (e : Entry). e.second) (at_filled es i)

pub Fewer-filled : (es es' : List Entry) → IsFewer es es' → IsFewer (all_filled es) (all_filled es')
Fewer-filled es es' f = record {
  count = length_filled es' ∙ (f.count ∙ sym (length_filled es));
  literals = λ i. filled_literals es' i ∙ (f.literals i ∙ sym (filled_literals es i));
  first = λ i. ap (λ (e : Entry). e.first) (at_filled es' i) ∙ (f.first i ∙ sym (ap (λ (e : Entry). e.first) (at_filled es i)));
  second = λ i. ap (λ (e : Entry). e.second) (at_filled es' i) ∙ (f.second i ∙ sym (ap (λ (e : Entry). e.second) (at_filled es i)));
  same = λ i live. at_filled es' i ∙ (ap filled (f.same i (filled_live es' i live)) ∙ sym (at_filled es i));
}

-- ---- where no clause is empty

live_same : (b : Bool) (ls : List Signed) → (b ≡ true → ls ≡ [] → ⊥) → (b && has_literals ls) ≡ b
live_same true [] h = absurd (h refl refl)
live_same true (l ∷ ls) h = refl
live_same false ls h = refl

filled_same : (e : Entry) → (e.live ≡ true → e.literals ≡ [] → ⊥) → filled e ≡ e
filled_same e h = ap (λ (b : Bool). let x : Entry = record e { live = b } in x) (live_same e.live e.literals h)

nothing : (ls : List Signed) → 0 < length ls → ls ≡ [] → ⊥
nothing ls some none = omega (arith, ap (λ (xs : List Signed). length xs) none)

pub some_filled : (e : Entry) → 0 < length e.literals → filled e ≡ e
some_filled e some = filled_same e (λ live. nothing e.literals some)

pub whole : (es : List Entry) → ((i : ℕ) → IsEmptyAt es i → ⊥) → all_filled es ≡ es
whole [] h = refl
whole (e ∷ es) h =
    ap (λ (x : Entry). x ∷ all_filled es) (filled_same e (λ live none. h zero (record { live = live; none = none })))
    ∙ ap (λ (xs : List Entry). e ∷ xs) (whole es (λ i x. h (suc i) (record { live = x.live; none = x.none })))

pub none_empty : (atoms : ℕ) (es : List Entry) (lists : List (List Watch)) → IsWatching atoms es lists → (i : ℕ) → IsEmptyAt es i → ⊥
none_empty atoms es lists w i x = none_in (entry_at es i).first (subst (λ (ls : List Signed). Contains ls (entry_at es i).first) x.none (w.pairs i x.live).first)

-- ---- one clause more

pub filled_push : (es : List Entry) (e : Entry) → 0 < length e.literals → all_filled (es ++ e ∷ []) ≡ all_filled es ++ e ∷ []
filled_push es e some = map-append filled es (e ∷ []) ∙ ap (λ (x : Entry). all_filled es ++ x ∷ []) (some_filled e some)

still_at : (es : List Entry) (e : Entry) (i : ℕ) → IsEmptyAt es i → IsEmptyAt (es ++ e ∷ []) i
still_at es e i h =
    let same : entry_at (es ++ e ∷ []) i ≡ entry_at es i = entry_at-old es e i (live_within es i h.live) in
    record { live = rw same h.live; none = rw same h.none }

pub names_push : (es : List Entry) (e : Entry) (o : Option ℕ) → 0 < length e.literals → NamesEmpty es o → NamesEmpty (es ++ e ∷ []) o
names_push es e (Some i) some h = still_at es e i h
names_push es e None some h = λ i x. elim (below_or_at i (length es) (let lt : i < length (es ++ e ∷ []) = live_within (es ++ e ∷ []) i x.live in omega (arith, length_push es e))) [
  | inl below ↦ h i (record { live = rw (entry_at-old es e i below) at x.live; none = rw (entry_at-old es e i below) at x.none })
  | inr at ↦ nothing e.literals some (rw (entry_at-new es e i (sym at)) at x.none)
]

pub names_gains : (es es' : List Entry) (ls : List Signed) (level : ℕ) (o : Option ℕ) → GainsEntry es es' ls level → 0 < length ls → NamesEmpty es o → NamesEmpty es' o
names_gains es es' ls level o g some h =
    subst (λ xs. NamesEmpty xs o) (sym g.gains) (names_push es g.entry o (subst (λ (xs : List Signed). 0 < length xs) (sym g.literals) some) h)

pub names_new : (es : List Entry) (e : Entry) → e.live ≡ true → e.literals ≡ [] → NamesEmpty (es ++ e ∷ []) (Some (length es))
names_new es e live none =
    let same : entry_at (es ++ e ∷ []) (length es) ≡ e = entry_at-new es e (length es) refl in
    record { live = rw same live; none = rw same none }

-- ---- a clause more that isn't watched

live_false : (b : Bool) → b ≡ false → b ≡ true → ⊥
live_false b e f = cc

before_dead : (es : List Entry) (d : Entry) (i : ℕ) → d.live ≡ false → (entry_at (es ++ d ∷ []) i).live ≡ true → i < length es
before_dead es d i dead live = elim (below_or_at i (length es) (let lt : i < length (es ++ d ∷ []) = live_within (es ++ d ∷ []) i live in omega (arith, length_push es d))) [
  | inl below ↦ below
  | inr at ↦ absurd (live_false d.live dead (rw (entry_at-new es d i (sym at)) at live))
]

was_entry : (es : List Entry) (d : Entry) (i : ℕ) → d.live ≡ false → (entry_at (es ++ d ∷ []) i).live ≡ true → entry_at (es ++ d ∷ []) i ≡ entry_at es i
was_entry es d i dead live = entry_at-old es d i (before_dead es d i dead live)

IsWatching-dead : (atoms : ℕ) (es : List Entry) (d : Entry) (lists : List (List Watch)) → d.live ≡ false → IsWatching atoms es lists → IsWatching atoms (es ++ d ∷ []) lists
IsWatching-dead atoms es d lists dead h = record {
  known = λ i live. rw (was_entry es d i dead live) (h.known i (rw (was_entry es d i dead live) at live));
  pairs = λ i live. rw (was_entry es d i dead live) (h.pairs i (rw (was_entry es d i dead live) at live));
  sound = λ l. All-weaker (IsSound atoms es) (IsSound atoms (es ++ d ∷ []))
      (λ w s. let lt : w.row < length es = s.within in
      record { within = omega (arith, length_push es d); known = s.known; blocker = rw (entry_at-old es d w.row lt) s.blocker }) (watches_of lists l) (h.sound l);
  listed = λ i live. rw (was_entry es d i dead live) (h.listed i (rw (was_entry es d i dead live) at live));
  room = h.room;
  tidy = record {
    own = λ l j x lt.
        let s : IsSound atoms es (get_or (watches_of lists l) j x) = h.sound l j x lt in
        let o : IsOwn es l (get_or (watches_of lists l) j x) = h.tidy.own l j x lt in
        record { pair = rw (entry_at-old es d (get_or (watches_of lists l) j x).row s.within) o.pair; contained = rw (entry_at-old es d (get_or (watches_of lists l) j x).row s.within) o.contained };
    once = h.tidy.once;
  };
}

Rested-dead : (es : List Entry) (d : Entry) (steps : List Step) (depth head lasting : ℕ) (ws : List Wait) → d.live ≡ false → Rested es steps depth head lasting ws → Rested (es ++ d ∷ []) steps depth head lasting ws
Rested-dead es d steps depth head lasting ws dead h = record {
  deepest = h.deepest;
  head_within = h.head_within;
  lasting_within = h.lasting_within;
  current = λ i live. rw (was_entry es d i dead live) (h.current i (rw (was_entry es d i dead live) at live));
  each = λ n i live. rw (was_entry es d i dead live) (h.each n i (rw (was_entry es d i dead live) at live));
  waiting = All-weaker (IsWaiting es steps) (IsWaiting (es ++ d ∷ []) steps)
      (λ w x. let same : entry_at (es ++ d ∷ []) w.row ≡ entry_at es w.row = entry_at-old es d w.row (live_within es w.row x.live) in
      record { live = rw same x.live; contained = rw same x.contained; rest = rw same x.rest }) ws h.waiting;
}

not_live : (b : Bool) (ls : List Signed) → ls ≡ [] → (b && has_literals ls) ≡ false
not_live true [] e = refl
not_live false ls e = refl
not_live true (l ∷ ls) e = cc

pub tight-empty : (es : List Entry) (e : Entry) (lists : List (List Watch)) (t : Assigned) (head : ℕ) (ws : List Wait) → e.literals ≡ [] → IsTight (all_filled es) lists t head ws → IsTight (all_filled (es ++ e ∷ [])) lists t head ws
tight-empty es e lists t head ws none h =
    let dead : (filled e).live ≡ false = not_live e.live e.literals none in
    subst (λ xs. IsTight xs lists t head ws) (sym (map-append filled es (e ∷ [])))
    (record { watch = IsWatching-dead t.atoms (all_filled es) (filled e) lists dead h.watch; rested = Rested-dead (all_filled es) (filled e) t.steps t.depth head head ws dead h.rested })

-- ---- fewer clauses

was_empty : (es es' : List Entry) (i : ℕ) → IsFewer es es' → IsEmptyAt es' i → IsEmptyAt es i
was_empty es es' i f x = record { live = subst (λ (e : Entry). e.live ≡ true) (f.same i x.live) x.live; none = sym (f.literals i) ∙ x.none }

pub still_some : (es es' : List Entry) (o : Option ℕ) → IsFewer es es' → NamesEmpty es o → IfSome o (λ i. (i < length es') × ((entry_at es' i).literals ≡ []))
still_some es es' (Some i) f h = (subst (λ n. i < n) (sym f.count) (live_within es i h.live), f.literals i ∙ h.none)
still_some es es' None f h = tt

pub still_none : (es es' : List Entry) (o : Option ℕ) → IsFewer es es' → NamesEmpty es o → IfNone o ((i : ℕ) → IsEmptyAt es' i → ⊥)
still_none es es' (Some i) f h = tt
still_none es es' None f h = λ i x. h i (was_empty es es' i f x)

pub tight-within : (es : List Entry) (lists : List (List Watch)) (t : Assigned) (head : ℕ) (ws : List Wait) → IsTight (all_filled es) lists t head ws → All (λ (w : Wait). w.row < length es) ws
tight-within es lists t head ws h =
    All-weaker (IsWaiting (all_filled es) t.steps) (λ (w : Wait). w.row < length es) (λ w x. let lt : w.row < length (all_filled es) = live_within (all_filled es) w.row x.live in omega (arith, length_filled es)) ws h.rested.waiting
