-- The same of a seat as the calls have it.
use Rattle.std.proofs.Common.{◌≡◌, ℕ, ◌+◌, ◌%◌, ◌^◌, ◌<◌, ◌≤◌, List, [], ◌∷◌, ◌++◌, length, get_or, eqb, arith, sym, refl, ap, ◌∙◌, subst, drop, Vec, Ok, Err, Global, All}
use Rattle.std.specs.declared.alloc.AllocError.{AllocError}
use mathlib.Core.Option.{none}
use prog.Atomic.{either}
use Rattle.atomic_table.specs.Table.{State, Me, step, Allows, rest}
use Rattle.smt_meaning.specs.declared.clauses.Clause.{Clause}
use Rattle.race_model.specs.declared.event.Entry.{Entry}
use Rattle.race_model.specs.declared.shelf.Told.{Told}
use Rattle.race_model.specs.declared.shelf.Told.TheVariants.{Shared, Full, Memory}
use Rattle.race_model.specs.Base.{Base}
use Rattle.race_model.specs.Race.{most_entries}
use Rattle.race_model.specs.Laws.{IsSound}
use Rattle.race_model.specs.Shelves.{ShelfState, IsSame, Adds, Shares}
use Rattle.race_cell.specs.declared.action.Action.{Action}
use Rattle.race_cell.specs.declared.action.Action.TheVariants.{Share, TakeBatch}
use Rattle.race_cell.specs.Actions.{worker_of, entries_after, MayFollow}
use Rattle.race_cell.specs.declared.view.View.{View}
use Rattle.race_cell.specs.Rules.{Kept, IsAt, holding, adds, last_share, share_out, base_in, claim, taken, entered_share, entered_batch, given, given_back, raced, asked}
use Rattle.race_cell.specs.Calls.{IsAlone, Held, Ready, Puts, Draws, entries_seen}
use Rattle.race_cell.proofs.Lists.{last_share-push, entries_after-share, entries_after-batch}
use Rattle.race_cell.proofs.Keeps.{takes_turn, gives_turn, gives_turn_back, enters, races, asks}

module _ {S : Type 0} (state : S → ShelfState) (b : ShelfState) (n : ℕ) where
  abbrev Rule : State S (View S) → Type 0
  Rule = Kept state b n

  pub may_take : (slots id : ℕ) (m : Me S (View S)) → IsAlone m → Allows Rule slots id m 1 (λ x. either (eqb x 0) 1 x) (taken state (step slots 1 0 1 none) m)
  may_take slots id m e = subst (λ (z : Me S (View S)). Allows Rule slots id z 1 (λ x. either (eqb x 0) 1 x) (taken state (step slots 1 0 1 none) z)) (sym e) (takes_turn state b n slots id m.0.base (claim m.0))

  pub may_give : (slots id : ℕ) (m : Me S (View S)) → Held state m → Allows Rule slots id m 1 (λ _. 0) (λ _. given (step slots 1 0 0 none) m 0)
  may_give slots id m h = subst (λ (z : Me S (View S)). Allows Rule slots id z 1 (λ _. 0) (λ _. given (step slots 1 0 0 none) z 0)) (sym h.1) (gives_turn state b n slots id m.0.base (claim m.0) h.0 h.2)

  pub may_give_back : (slots id : ℕ) (m : Me S (View S)) → Held state m → Allows Rule slots id m 1 (λ _. 0) (λ _. given_back (step slots 1 0 0 none) m 0)
  may_give_back slots id m h = subst (λ (z : Me S (View S)). Allows Rule slots id z 1 (λ _. 0) (λ _. given_back (step slots 1 0 0 none) z 0)) (sym h.1) (gives_turn_back state b n slots id m.0.base (claim m.0) h.0 h.2)

  pub may_enter_share : (slots id : ℕ) (m : Me S (View S)) → worker_of (share_out state m.1) ≡ (claim m.0).worker → Ready state (share_out state m.1) m
      → Allows Rule slots id m 0 (λ x. (x + 1) % 2 ^ 64) (entered_share state (step slots 0 1 0 none) m)
  may_enter_share slots id m own h = go m h.0 own h.1 h.3
    where
      go : (m : Me S (View S)) (y : S) → worker_of (share_out state m.1) ≡ (claim m.0).worker → m ≡ (holding m.0.base (claim m.0), (0, y) ∷ [])
          → MayFollow (base_in state m.0.base).base (entries_after (base_in state m.0.base).entries (claim m.0).seen) (share_out state m.1)
          → Allows Rule slots id m 0 (λ x. (x + 1) % 2 ^ 64) (entered_share state (step slots 0 1 0 none) m)
      go m y own e may =
          let out : share_out state m.1 ≡ share_out state ((0, y) ∷ []) = ap (λ (z : Me S (View S)). share_out state z.1) e in
          subst (λ (z : Me S (View S)). Allows Rule slots id z 0 (λ x. (x + 1) % 2 ^ 64) (entered_share state (step slots 0 1 0 none) z)) (sym e)
          (enters state b n slots id m.0.base (claim m.0) y (share_out state ((0, y) ∷ [])) (entered_share state (step slots 0 1 0 none) (holding m.0.base (claim m.0), (0, y) ∷ []))
          (ap worker_of (sym out) ∙ own) (subst (MayFollow (base_in state m.0.base).base (entries_after (base_in state m.0.base).entries (claim m.0).seen)) out may) (λ x. refl))

  pub may_enter_batch : (slots id : ℕ) (m : Me S (View S)) → Ready state (TakeBatch (claim m.0).worker) m → Allows Rule slots id m 0 (λ x. (x + 1) % 2 ^ 64) (entered_batch (step slots 0 1 0 none) m)
  may_enter_batch slots id m h =
      subst (λ (z : Me S (View S)). Allows Rule slots id z 0 (λ x. (x + 1) % 2 ^ 64) (entered_batch (step slots 0 1 0 none) z)) (sym h.1)
      (enters state b n slots id m.0.base (claim m.0) h.0 (TakeBatch (claim m.0).worker) (entered_batch (step slots 0 1 0 none) (holding m.0.base (claim m.0), (0, h.0) ∷ [])) refl h.3 (λ x. refl))

  pub may_race : (slots id : ℕ) (m : Me S (View S)) (new : ℕ) → IsAlone m → new ≡ (claim m.0).worker + 1 → Allows Rule slots id m 2 (λ x. either (eqb x 0) new x) (raced (step slots 2 0 new none) m)
  may_race slots id m new e mark = subst (λ (z : Me S (View S)). Allows Rule slots id z 2 (λ x. either (eqb x 0) new x) (raced (step slots 2 0 new none) z)) (sym e) (races state b n slots id m.0.base (claim m.0) new mark)

  pub may_ask : (slots id : ℕ) (m : Me S (View S)) → IsAlone m → Allows Rule slots id m 2 (λ x. x) (asked (step slots 2 0 0 none) m)
  may_ask slots id m e = subst (λ (z : Me S (View S)). Allows Rule slots id z 2 (λ x. x) (asked (step slots 2 0 0 none) z)) (sym e) (asks state b n slots id m.0.base (claim m.0))

module _ {S : Type 0} (state : S → ShelfState) where
  pub enter_gives : (m : Me S (View S)) (e : Action) (m' : Me S (View S)) (h : Ready state e m) → m' ≡ (holding m.0.base (adds (claim m.0) e), m.1) → Held state m'
  enter_gives m e m' h is =
      let out : m.1 ≡ (0, h.0) ∷ [] = ap (λ (z : Me S (View S)). z.1) h.1 in
      let now : m' ≡ (holding m.0.base (adds (claim m.0) e), (0, h.0) ∷ []) = is ∙ (λ i. (holding m.0.base (adds (claim m.0) e), out i)) in
      subst (Held state) (sym now) (h.0, refl, h.2)

  -- what lies in the slot is what was seen
  same_shelf : (m : Me S (View S)) (h : Held state m) (y : S) → m.1 ≡ (0, y) ∷ rest m.1 → h.0 ≡ y
  same_shelf m h y is = ap (λ (l : List (ℕ × S)). (get_or l 0 (0, y)).1) (sym (ap (λ (z : Me S (View S)). z.1) h.1) ∙ is)

  nothing_else : (m : Me S (View S)) (h : Held state m) → rest m.1 ≡ []
  nothing_else m h = ap (λ (z : Me S (View S)). rest z.1) h.1

  -- and it is as it was seen
  seen_at : (m : Me S (View S)) (h : Held state m) (y : S) → m.1 ≡ (0, y) ∷ rest m.1 → IsAt state (base_in state m.0.base) (claim m.0).seen y
  seen_at m h y is = subst (IsAt state (base_in state m.0.base) (claim m.0).seen) (same_shelf m h y is) h.2

  -- another lies in the slot
  in_slot : (m : Me S (View S)) (h : Held state m) (t : S) → ◌≡◌ {A = Me S (View S)} (m.0, (0, t) ∷ rest m.1) (holding m.0.base (claim m.0), (0, t) ∷ [])
  in_slot m h t = let v = ap (λ (z : Me S (View S)). z.0) h.1 in λ i. (v i, (0, t) ∷ nothing_else m h i)

  still_held : (m : Me S (View S)) (h : Held state m) (y t : S) → m.1 ≡ (0, y) ∷ rest m.1 → IsSame (state y) (state t) → Held state (m.0, (0, t) ∷ rest m.1)
  still_held m h y t is e =
      let at = seen_at m h y is in
      let a = at.room in
      let b = e.room in
      (t, in_slot m h t, record { held = e.entries ∙ at.held; based = e.base ∙ at.based; ended = e.ended ∙ at.ended; global = e.global ∙ at.global; room = omega arith })

  before : (m : Me S (View S)) (h : Held state m) (y : S) → m.1 ≡ (0, y) ∷ rest m.1 → (state y).entries ≡ entries_seen state m.0
  before m h y is = (seen_at m h y is).held

  pub same_base : (m : Me S (View S)) (h : Held state m) (y : S) → m.1 ≡ (0, y) ∷ rest m.1 → (state y).base ≡ (base_in state m.0.base).base
  same_base m h y is = (seen_at m h y is).based

  -- the clause stands at the end
  now_shared : (worker : ℕ) (clause : Clause) (m : Me S (View S)) (h : Held state m) (y t : S) → m.1 ≡ (0, y) ∷ rest m.1 → Adds (record { clause = clause; worker = worker }) (state y) (state t)
      → length (entries_seen state m.0) < most_entries → IsSound (base_in state m.0.base).base clause → Ready state (Share worker clause) (m.0, (0, t) ∷ rest m.1)
  now_shared worker clause m h y t is a few sound =
      let at = seen_at m h y is in
      let p = at.room in
      let q = a.room in (
        t,
        in_slot m h t,
        record {
          held = a.entries ∙ (ap (λ l. l ++ record { clause = clause; worker = worker } ∷ []) at.held ∙ sym (entries_after-share (base_in state m.0.base).entries (claim m.0).seen worker clause));
          based = a.base ∙ at.based;
          ended = a.ended ∙ at.ended;
          global = a.global ∙ at.global;
          room = omega arith;
        },
        (few, sound),
      )

  pub puts : (worker : ℕ) (clause : Clause) (m : Me S (View S)) → Held state m → IsSound (base_in state m.0.base).base clause → (y t : S) → m.1 ≡ (0, y) ∷ rest m.1 → (told : Told) → Shares worker clause (state y) (state t) told
      → Puts state worker clause m told (m.0, (0, t) ∷ rest m.1)
  puts worker clause m h sound y t is (Shared place) a =
      let here = before m h y is in (
        refl,
        now_shared worker clause m h y t is a.0 (subst (λ (l : List Entry). length l < most_entries) here a.1) sound,
        a.2 ∙ ap length here,
        ap last_share a.0.entries ∙ last_share-push (state y).entries clause worker,
      )
  puts worker clause m h sound y t is (Full back) a = (refl, still_held m h y t is a.0, subst (λ (l : List Entry). most_entries ≤ length l) (before m h y is) a.1, a.2)
  puts worker clause m h sound y t is (Memory back) a = (refl, still_held m h y t is a.0, a.2)

  pub draws : (mark : ℕ) (m : Me S (View S)) → Held state m → (y : S) → m.1 ≡ (0, y) ∷ rest m.1 → (v : Vec Entry Global) (count : ℕ)
      → v.items ≡ drop mark (state y).entries → count ≡ length (state y).entries → All (λ (e : Entry). IsSound (state y).base e.clause) v.items
      → Draws state mark m (Ok (v, count)) (m.0, (0, y) ∷ rest m.1)
  draws mark m h y is v count got counted sound =
      let here = before m h y is in
      let at = seen_at m h y is in (
        refl,
        (
          y,
          in_slot m h y,
          record { held = here ∙ sym (entries_after-batch (base_in state m.0.base).entries (claim m.0).seen (claim m.0).worker); based = at.based; ended = at.ended; global = at.global; room = at.room },
          tt,
        ),
        got ∙ ap (drop mark) here,
        counted ∙ ap length here,
        subst (λ (z : Base). All (λ (e : Entry). IsSound z e.clause) v.items) (same_base m h y is) sound,
      )

  pub draws_nothing : (mark : ℕ) (m : Me S (View S)) → Held state m → (y : S) (failed : AllocError) → m.1 ≡ (0, y) ∷ rest m.1 → Draws state mark m (Err failed) (m.0, (0, y) ∷ rest m.1)
  draws_nothing mark m h y failed is =
      (refl, (y, in_slot m h y, seen_at m h y is))
