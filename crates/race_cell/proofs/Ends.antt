-- What the table tells at its end.
use Rattle.std.proofs.Common.{◌≡◌, ℕ, zero, suc, ◌+◌, ◌<◌, ◌≢◌, Bool, true, false, List, [], ◌∷◌, ◌++◌, length, sym, refl, ap, ◌∙◌, subst, ⊎_elim, arith, append_assoc, map, add-one, All, length-append}
use Rattle.std.proofs.Math.ListN.{get_or-append}
use Rattle.std.proofs.Math.Seq.{get_or-append_seam}
use Rattle.std.proofs.lemmas.List.{map-append}
use Rattle.atomic_table.specs.Table.{Me, Joins}
use Rattle.race_model.specs.declared.shelf.Shelf.{Ghosts}
use Rattle.race_cell.specs.declared.race.Pass.{Pass}
use Rattle.race_cell.specs.Passes.{claim_of}
use Rattle.race_cell.proofs.Keeps.{joins}
use mathlib.Core.Option.{Option, none, some, some-injective}
use lib.ListN.{get_elem?}
use Rattle.atomic_table.specs.Table.{Final, Seen}
use Rattle.race_cell.specs.Actions.{numbers_from}
use Rattle.race_cell.proofs.Legal.{whole_race}
use Rattle.std.specs.Prelude.{Option as Maybe}
use Rattle.race_model.specs.Shelves.{ShelfState}
use Rattle.race_cell.specs.declared.view.Claim.{Claim}
use Rattle.race_cell.specs.declared.view.View.{View}
use Rattle.race_cell.specs.Rules.{total, weight, holder, claim_count, IsAt, Kept, with_claims, alone, claim, joined, spent_view, AtEnd, Ended}
use Rattle.race_cell.proofs.Lists.{terms_le}

holder_or : {S : Type 0} (b : Bool) (v : View S) (vs : List (View S)) → v.holds ≡ b → 0 < holder v + total holder vs → (0 < total holder vs → (j : ℕ) × (u : View S) × (get_elem? vs j ≡ some u) × (u.holds ≡ true)) → (j : ℕ) × (u : View S) × (get_elem? (v ∷ vs) j ≡ some u) × (u.holds ≡ true)
holder_or true v vs e more further = (0, v, refl, e)
holder_or false v vs e more further = let none-here : holder v ≡ 0 = ap weight e in let t = further (omega arith) in (suc t.0, t.1, t.2, t.3)

some_holder : {S : Type 0} (vs : List (View S)) → 0 < total holder vs → (j : ℕ) × (u : View S) × (get_elem? vs j ≡ some u) × (u.holds ≡ true)
some_holder [] more = absurd (omega arith)
some_holder (v ∷ vs) more = holder_or v.holds v vs refl more (some_holder vs)

module _ {S : Type 0} (state : S → ShelfState) where
  -- a seat with all claims shows that the slot is at home
  pub at_end : (b : ShelfState) (b' : Maybe S) (n id : ℕ) (cs : List Claim) (v : View S) (ws : List ℕ) (xs : List S) (y : S) → v ≡ with_claims b' cs → length cs ≡ n → 0 < n
      → Final (Seen (Kept state b n) id v) ws xs → get_elem? xs 0 ≡ some y → AtEnd state b n cs y
  at_end b b' n id cs v ws xs y is all some-one fin at0 =
      let s = fin.0 in
      let r : Kept state b n s = fin.1.0 in
      let there : get_elem? s.views id ≡ some (with_claims b' cs) = fin.1.1 ∙ ap some is in
      let f = r.each id (with_claims b' cs) there in
      let home : (y' : S) × (s.homes ≡ some y' ∷ []) × IsAt state b r.log y' = ⊎_elim
      (λ (h : (r.turn ≡ 0) × ((y' : S) × (s.homes ≡ some y' ∷ []) × IsAt state b r.log y')). h.1)
      (λ (h : (r.turn ≡ 1) × (s.homes ≡ none ∷ [])).
      let o = some_holder s.views (let t = r.holders in let u = h.0 in omega arith) in
      let other : o.0 ≢ id = λ same. (let e : some o.1 ≡ some (with_claims b' cs) = sym o.2 ∙ (ap (get_elem? s.views) same ∙ there) in let back : o.1.holds ≡ false = ap (λ (z : View S). z.holds) (some-injective o.1 (with_claims b' cs) e) in let yes = o.3 in cc) in
      let one : length o.1.claims ≡ 1 = ((r.each o.0 o.1 o.2).holds o.3).0 in
      let sum = terms_le claim_count s.views id o.0 (with_claims b' cs) o.1 other there o.2 in
      let count = r.count in
      absurd (omega arith))
      r.slot in
      let same : y ≡ home.0 = some-injective y home.0 (sym at0 ∙ fin.4 0 home.0 (ap (λ (l : List (Option S)). get_elem? l 0) home.1)) in
      record {
        log = r.log;
        winner = r.winner;
        at = r.at;
        shelf = subst (IsAt state b r.log) (sym same) home.2;
        won = r.won;
        legal = r.legal;
        room = r.room;
        each = f.claims;
      }

module _ {S : Type 0} (state : S → ShelfState) where
  pub ended : (b : ShelfState) (n : ℕ) (cs : List Claim) (y z : S) → AtEnd state b n cs y → (state z).entries ≡ (state y).entries → (state z).base ≡ (state y).base → (state z).global ≡ (state y).global → (state z).ended ≡ (state y).ended ++ numbers_from 0 n → Ended state b n cs z
  ended b n cs y z e same base global more =
      let r = whole_race b n e.winner e.at e.log e.legal e.won.0 in
      record {
        log = e.log;
        winner = e.winner;
        at = e.at;
        won = e.won.0;
        last = r.0;
        legal = r.1;
        entries = same ∙ (e.shelf.held ∙ sym r.3);
        base = base ∙ (e.shelf.based ∙ sym r.2);
        global = global ∙ (e.shelf.global ∙ sym r.4);
        ended = more ∙ ap (λ l. l ++ numbers_from 0 n) e.shelf.ended;
        each = e.each;
      }

numbers-push : (w k : ℕ) → numbers_from w (suc k) ≡ numbers_from w k ++ (w + k) ∷ []
numbers-push w zero = let e : w ≡ w + 0 = omega arith in ap (λ x. x ∷ []) e
numbers-push w (suc k) = let e : suc w + k ≡ w + suc k = omega arith in ap (λ l. w ∷ l) (numbers-push (suc w) k ∙ ap (λ x. numbers_from (suc w) k ++ x ∷ []) e)

module _ {S : Type 0} (state : S → ShelfState) where
  pub may_join : (b : ShelfState) (n id other : ℕ) (m k : Me S (View S)) → m ≡ (alone m.0.base (claim m.0), []) → k ≡ (with_claims k.0.base k.0.claims, []) → Joins (Kept state b n) id m.0 other k.0 (joined m.0 k.0) spent_view
  may_join b n id other m k e f =
      subst (λ (z : Me S (View S) × Me S (View S)). Joins (Kept state b n) id z.0.0 other z.1.0 (joined z.0.0 z.1.0) spent_view) (λ i. (sym e i, sym f i))
      (joins state b n id other m.0.base k.0.base (claim m.0 ∷ []) k.0.claims (omega arith))

module _ {S : Type 0} where
  pub still_plain : (m k m' : Me S (View S)) → m ≡ (alone m.0.base (claim m.0), []) → m' ≡ (joined m.0 k.0, m.1) → m' ≡ (with_claims m'.0.base m'.0.claims, [])
  still_plain m k m' e after =
      let now : m' ≡ (with_claims m.0.base (claim m.0 ∷ k.0.claims), []) = after ∙ ap (λ (z : Me S (View S)). (joined z.0 k.0, z.1)) e in
      let P : Me S (View S) → Type 0 = λ z. z ≡ (with_claims z.0.base z.0.claims, []) in
      subst P (sym now) refl

module _ {S : Type 0} {G : Ghosts S} where
  pub gathers : (items items' : List (Pass S G)) (p : Pass S G) (k m' : Me S (View S)) (all : List Claim) → items ≡ items' ++ p ∷ [] → map claim_of items ++ k.0.claims ≡ all
      → p.seat.me ≡ (alone p.seat.me.0.base (claim p.seat.me.0), []) → m' ≡ (joined p.seat.me.0 k.0, p.seat.me.1) → map claim_of items' ++ m'.0.claims ≡ all
  gathers items items' p k m' all e is one after =
      let now : m'.0.claims ≡ claim_of p ∷ k.0.claims = ap (λ (z : Me S (View S)). z.0.claims) (after ∙ ap (λ (z : Me S (View S)). (joined z.0 k.0, z.1)) one) in
      ap (λ l. map claim_of items' ++ l) now
      ∙ (sym (append_assoc (map claim_of items') (claim_of p ∷ []) k.0.claims)
      ∙ (ap (λ l. l ++ k.0.claims) (sym (ap (map claim_of) e ∙ map-append claim_of items' (p ∷ []))) ∙ is))

module _ {X : Type 0} (P : X → Type 0) (ys xs : List X) (p : X) where
  pub all_last : ys ≡ xs ++ p ∷ [] → All P ys → P p
  all_last e h = let h' : All P (xs ++ p ∷ []) = subst (All P) e h in subst P (get_or-append_seam xs p [] p) (h' (length xs) p (omega (arith, length-append xs (p ∷ []))))

  pub all_front : ys ≡ xs ++ p ∷ [] → All P ys → All P xs
  all_front e h k d lt = let h' : All P (xs ++ p ∷ []) = subst (All P) e h in subst P (get_or-append xs (p ∷ []) d k lt) (h' k d (omega (arith, length-append xs (p ∷ []))))

pub grows : (before now next : List ℕ) (w : ℕ) → next ≡ now ++ w ∷ [] → now ≡ before ++ numbers_from 0 w → next ≡ before ++ numbers_from 0 (w + 1)
grows before now next w e is =
    let z : 0 + w ≡ w = omega arith in
    e ∙ (ap (λ l. l ++ w ∷ []) is ∙ (append_assoc before (numbers_from 0 w) (w ∷ []) ∙ ap (λ l. before ++ l) (ap (λ x. numbers_from 0 w ++ x ∷ []) (sym z) ∙ (sym (numbers-push 0 w) ∙ ap (numbers_from 0) (sym (add-one w))))))
