-- How often going through a literal's watches looks at clauses.
use Rattle.std.proofs.Common.{◌≡◌, ℕ, ◌+◌, ◌<◌, ◌≤◌, Bool, true, false, List, [], ◌∷◌, ◌++◌, All, Contains, length, get_or, set, subst, sym, ap, ◌∙◌, refl, inl, inr, ◌⊎◌, arith}
use Rattle.std.specs.List.{swap_remove}
use Rattle.std.proofs.lemmas.List.{length-set, length_push, get_or-set_other, get_or_append_left, get_or_push, get_or_default}
use Rattle.std.proofs.lemmas.List.Elements.{All-weaker, All-push, All-nil, All-get_or}
use Rattle.literals.specs.Signed.{Signed, packed}
use Rattle.clause_store.specs.Entries.{Entry, entry_at}
use Rattle.clause_store.specs.Watching.{IsListed, IsOwn, IsOnce, SameShape, no_watch}
use Rattle.clause_store.specs.Sweeps.{State, watching}
use Rattle.clause_store.specs.Looks.{HasLiteral, AreApart, LooksAt}
use Rattle.clause_store.specs.declared.lists.Watch.{Watch}
use Rattle.clause_store.proofs.Watches.{below_or_at}
use Rattle.clause_store.proofs.Sweeping.{pair_lists, watched_of}
use Rattle.clause_store.proofs.Tidy.{CameFrom, came_from, removed_apart, own_in, once_in, row_at}

-- ---- numbers, none twice

pub AreApart-push : (ns : List ℕ) (n : ℕ) → ((j : ℕ) → j < length ns → get_or ns j 0 ≡ n → ⊥) → AreApart ns → AreApart (ns ++ n ∷ [])
AreApart-push ns n fresh apart = λ i j in-i in-j same.
    let len : length (ns ++ n ∷ []) ≡ length ns + 1 = length_push ns n in
    elim (below_or_at i (length ns) (omega arith)) [
      | inl bi ↦ elim (below_or_at j (length ns) (omega arith)) [
        | inl bj ↦ apart i j bi bj (sym (get_or_append_left ns (n ∷ []) 0 i bi) ∙ (same ∙ get_or_append_left ns (n ∷ []) 0 j bj))
        | inr aj ↦ absurd (fresh i bi (sym (get_or_append_left ns (n ∷ []) 0 i bi) ∙ (same ∙ get_or_push ns n 0 j (sym aj))))
      ]
      | inr ai ↦ elim (below_or_at j (length ns) (omega arith)) [
        | inl bj ↦ absurd (fresh j bj (sym (get_or_append_left ns (n ∷ []) 0 j bj) ∙ (sym same ∙ get_or_push ns n 0 i (sym ai))))
        | inr aj ↦ ai ∙ sym aj
      ]
    ]

-- ---- the clauses looked at so far

-- clauses that have the literal, none twice and none left in the list, at least as many as the count rose by
pub record Seen (f : Signed) (es : List Entry) (ws : List Watch) (k old new : ℕ) : Type 0 where
  pub rows : List ℕ
  pub apart : AreApart rows
  pub having : All (HasLiteral es f) rows
  pub passed : All (λ i. IsListed ws k i → ⊥) rows
  pub bound : new ≤ old + length rows

pub Seen-start : (f : Signed) (es : List Entry) (ws : List Watch) (n : ℕ) → Seen f es ws 0 n n
Seen-start f es ws n = record {
  rows = [];
  apart = λ i j lt. absurd (omega (arith, lt));
  having = All-nil (HasLiteral es f);
  passed = All-nil (λ i. IsListed ws 0 i → ⊥);
  bound = omega arith;
}

-- a clause is passed, with one look at it or none
passes : (f : Signed) (es : List Entry) (ws ws' : List Watch) (k k' old n n' r : ℕ) → ((i : ℕ) → IsListed ws' k' i → IsListed ws k i) → (IsListed ws' k' r → ⊥) → IsListed ws k r
    → (n' ≡ n) ⊎ (HasLiteral es f r × (n' ≤ n + 1)) → Seen f es ws k old n → Seen f es ws' k' old n'
passes f es ws ws' k k' old n n' r back gone at (inl same) h = record {
  rows = h.rows;
  apart = h.apart;
  having = h.having;
  passed = All-weaker (λ i. IsListed ws k i → ⊥) (λ i. IsListed ws' k' i → ⊥) (λ i p l. p (back i l)) h.rows h.passed;
  bound = omega (arith, h.bound, same);
}
passes f es ws ws' k k' old n n' r back gone at (inr look) h = record {
  rows = h.rows ++ r ∷ [];
  apart = AreApart-push h.rows r (λ j lt e. All-get_or (λ i. IsListed ws k i → ⊥) h.rows j 0 lt h.passed (subst (IsListed ws k) (sym e) at)) h.apart;
  having = All-push (HasLiteral es f) h.rows r h.having look.0;
  passed = All-push (λ i. IsListed ws' k' i → ⊥) h.rows r (All-weaker (λ i. IsListed ws k i → ⊥) (λ i. IsListed ws' k' i → ⊥) (λ i p l. p (back i l)) h.rows h.passed) gone;
  bound = omega (arith, length_push h.rows r, h.bound, look.1);
}

looks_by : (es : List Entry) (f : Signed) (r n n' : ℕ) (b : Bool) → (entry_at es r).live ≡ b → ((entry_at es r).live ≡ true → Contains (entry_at es r).literals f) → n' ≤ n + 1 → ((entry_at es r).live ≡ false → n' ≡ n)
    → (n' ≡ n) ⊎ (HasLiteral es f r × (n' ≤ n + 1))
looks_by es f r n n' true e has le dead = inr (record { live = e; contained = has e }, le)
looks_by es f r n n' false e has le dead = inl (dead e)

-- ---- one watch of the literal's list

-- the watch at a place, and what is known of the count once it is visited
pub record Visited (atoms : ℕ) (f : Signed) (s : State) (es : List Entry) (k : ℕ) (w : Watch) (n n' : ℕ) : Type 0 where
  pub place : packed f < length s.lists
  pub watch : watching atoms f s
  pub shape : SameShape es s.entries
  pub within : k < length s.list
  pub is : w ≡ get_or s.list k w
  pub once : n' ≤ n + 1
  pub dead : (entry_at s.entries w.row).live ≡ false → n' ≡ n

row_here : (ws : List Watch) (k : ℕ) (w : Watch) → k < length ws → w ≡ get_or ws k w → row_at ws k ≡ w.row
row_here ws k w lt is = ap (λ (x : Watch). x.row) (sym (is ∙ get_or_default ws k w no_watch lt))

look_at_it : (atoms : ℕ) (f : Signed) (s : State) (es : List Entry) (k : ℕ) (w : Watch) (n n' : ℕ) → Visited atoms f s es k w n n' → (n' ≡ n) ⊎ (HasLiteral es f w.row × (n' ≤ n + 1))
look_at_it atoms f s es k w n n' h =
    let own : IsOwn s.entries f (get_or s.list k no_watch) = All-get_or (IsOwn s.entries f) s.list k no_watch h.within (own_in s.entries s.lists f s.list h.place h.watch.tidy) in
    let pair : ((entry_at s.entries w.row).first ≡ f) ⊎ ((entry_at s.entries w.row).second ≡ f) =
    subst (λ i. ((entry_at s.entries i).first ≡ f) ⊎ ((entry_at s.entries i).second ≡ f)) (row_here s.list k w h.within h.is) own.pair in
    let whole : List (List Watch) = set s.lists (packed f) s.list in
    let live : (entry_at s.entries w.row).live ≡ (entry_at es w.row).live = h.shape.live w.row in
    looks_by es f w.row n n' (entry_at es w.row).live refl
    (λ l. subst (λ ls. Contains ls f) (h.shape.literals w.row) (pair_lists atoms s.entries whole w.row f (watched_of atoms s.entries whole h.watch) (live ∙ l) pair).0)
    h.once (λ l. h.dead (live ∙ l))

listed_here : (ws : List Watch) (k r : ℕ) → k < length ws → row_at ws k ≡ r → IsListed ws k r
listed_here ws k r lt e = record { place = k; at_least = omega arith; within = lt; row = e }

listed_set : (ws : List Watch) (k i : ℕ) (v : Watch) → IsListed (set ws k v) (k + 1) i → IsListed ws (k + 1) i
listed_set ws k i v h =
    let least : k + 1 ≤ h.place = h.at_least in
    record {
      place = h.place;
      at_least = h.at_least;
      within = omega (arith, length-set ws k v, h.within);
      row = ap (λ (x : Watch). x.row) (sym (get_or-set_other ws k h.place v no_watch (λ e. omega arith))) ∙ h.row;
    }

listed_before : (ws : List Watch) (k i : ℕ) → IsListed ws (k + 1) i → IsListed ws k i
listed_before ws k i h = let least : k + 1 ≤ h.place = h.at_least in record { place = h.place; at_least = omega arith; within = h.within; row = h.row }

listed_kept : (ws : List Watch) (k i : ℕ) (d : Watch) → k < length ws → IsListed (swap_remove ws k d) k i → IsListed ws k i
listed_kept ws k i d lt h =
    let a : CameFrom ws k h.place (get_or (swap_remove ws k d) h.place no_watch) = came_from ws k h.place d lt h.within in
    let least : k ≤ h.place = h.at_least in
    record {
      place = a.place;
      at_least = elim a.from [ inl p ↦ let last : a.place + 1 ≡ length ws = p.1 in omega arith | inr p ↦ let same : a.place ≡ h.place = p.1 in omega arith ];
      within = a.within;
      row = ap (λ (x : Watch). x.row) (sym a.is) ∙ h.row;
    }

pub Seen-keep : (atoms : ℕ) (f : Signed) (s : State) (es : List Entry) (k : ℕ) (w v : Watch) (old n n' : ℕ) → v.row ≡ w.row → Visited atoms f s es k w n n' → Seen f es s.list k old n → Seen f es (set s.list k v) (k + 1) old n'
Seen-keep atoms f s es k w v old n n' same h seen =
    let here : row_at s.list k ≡ w.row = row_here s.list k w h.within h.is in
    let once : IsOnce s.list = once_in s.entries s.lists f s.list h.place h.watch.tidy in
    passes f es s.list (set s.list k v) k (k + 1) old n n' w.row (λ i l. listed_before s.list k i (listed_set s.list k i v l))
    (λ l. let after : IsListed s.list (k + 1) w.row = listed_set s.list k w.row v l in
    let least : k + 1 ≤ after.place = after.at_least in
    let at : after.place ≡ k = once after.place k after.within h.within (after.row ∙ sym here) in
    omega arith)
    (listed_here s.list k w.row h.within here) (look_at_it atoms f s es k w n n' h) seen

pub Seen-gone : (atoms : ℕ) (f : Signed) (s : State) (es : List Entry) (k : ℕ) (w : Watch) (old n n' : ℕ) → Visited atoms f s es k w n n' → Seen f es s.list k old n → Seen f es (swap_remove s.list k w) k old n'
Seen-gone atoms f s es k w old n n' h seen =
    let here : row_at s.list k ≡ w.row = row_here s.list k w h.within h.is in
    let once : IsOnce s.list = once_in s.entries s.lists f s.list h.place h.watch.tidy in
    passes f es s.list (swap_remove s.list k w) k k old n n' w.row (λ i l. listed_kept s.list k i w h.within l)
    (λ l. removed_apart s.list k l.place w h.within once l.within (l.row ∙ sym here))
    (listed_here s.list k w.row h.within here) (look_at_it atoms f s es k w n n' h) seen

pub Seen-whole : (f : Signed) (es : List Entry) (ws : List Watch) (k old n : ℕ) → Seen f es ws k old n → LooksAt f es old n
Seen-whole f es ws k old n h = record { rows = h.rows; apart = h.apart; having = h.having; bound = h.bound }

pub Seen-last : (atoms : ℕ) (f : Signed) (s : State) (es : List Entry) (k : ℕ) (w : Watch) (old n n' : ℕ) → Visited atoms f s es k w n n' → Seen f es s.list k old n → LooksAt f es old n'
Seen-last atoms f s es k w old n n' h seen = Seen-whole f es (set s.list k w) (k + 1) old n' (Seen-keep atoms f s es k w w old n n' refl h seen)
