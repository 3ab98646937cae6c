-- Each step keeps the rule.
use Rattle.std.proofs.Common.{◌≡◌, ℕ, zero, suc, ◌+◌, ◌%◌, ◌^◌, ◌<◌, ◌≤◌, ◌≢◌, ◌⊎◌, true, List, [], ◌∷◌, ◌++◌, length, set, get_or, eqb, sym, refl, ap, ◌∙◌, subst, ⊎_elim, inl, inr, arith, eq-eqb, append_assoc, append-nil, length-append, add-one}
use Rattle.std.specs.Prelude.{Option as Maybe}
use mathlib.Core.Option.{Option, none, some, some-injective, some-ne-none}
use lib.ListN.{get_elem?}
use prog.Atomic.{either}
use Rattle.atomic_table.specs.Table.{State, Me, Act, Valid, carried_after, step, keeps, takes, gives, stepped, Allows, Splits, Joins}
use Rattle.atomic_table.proofs.Lists.{at_set, at_snoc, set_else, exchanged}
use Rattle.race_cell.specs.declared.action.Action.{Action}
use Rattle.race_cell.specs.declared.action.Action.TheVariants.{Win}
use Rattle.race_cell.specs.Actions.{worker_of, actions_by, entries_after, MayFollow, Works}
use Rattle.race_model.specs.Shelves.{ShelfState}
use Rattle.race_cell.specs.declared.view.Claim.{Claim}
use Rattle.race_cell.specs.declared.view.View.{View}
use Rattle.race_cell.specs.Rules.{total, weight, claims_of, claim_count, holder, history, Saw, FitsClaim, Fits, IsAt, Slot, Kept, alone, holding, sees, adds, finds, wins, busier, returns, looks_at, with_claims, spent_view, base_in, taken, given, given_back, raced, asked}
use Rattle.race_cell.proofs.Lists.{next_round, works-push, total-set, term_le, terms_le, total-append, by_own, by_other, by-append, history-append, history_other, history_own}

-- a claim of two lists in a row is of one of them
at_append : (cs ds : List Claim) (i : ℕ) (c : Claim) → get_elem? (cs ++ ds) i ≡ some c → ((k : ℕ) × (get_elem? cs k ≡ some c)) ⊎ ((k : ℕ) × (get_elem? ds k ≡ some c))
at_append [] ds i c e = inr (i, e)
at_append (x ∷ xs) ds zero c e = inl (0, e)
at_append (x ∷ xs) ds (suc i) c e = ⊎_elim (λ (t : (k : ℕ) × (get_elem? xs k ≡ some c)). inl (suc t.0, t.1)) (λ (t : (k : ℕ) × (get_elem? ds k ≡ some c)). inr t) (at_append xs ds i c e)

set_each : {S : Type 0} (P : View S → Type 0) (views : List (View S)) (id : ℕ) (w : View S) → P w → ((j : ℕ) (u : View S) → j ≢ id → get_elem? views j ≡ some u → P u) → (j : ℕ) (u : View S) → get_elem? (set views id w) j ≡ some u → P u
set_each P views id w mine others j u e = ⊎_elim (λ (t : (j ≡ id) × (w ≡ u)). subst P t.1 mine) (λ (t : (j ≢ id) × (get_elem? views j ≡ some u)). others j u t.0 t.1) (at_set views id j w u e)

of_one : (P : Claim → Type 0) (c : Claim) → P c → (i : ℕ) (d : Claim) → get_elem? (c ∷ []) i ≡ some d → P d
of_one P c p zero d e = subst P (some-injective c d e) p
of_one P c p (suc i) d e = absurd (some-ne-none d (sym e))

counted : (w : ℕ) (cs : List Claim) (i : ℕ) (c : Claim) → get_elem? cs i ≡ some c → c.worker ≡ w → 1 ≤ total (λ (d : Claim). weight (eqb d.worker w)) cs
counted w cs i c at is = let e : weight (eqb c.worker w) ≡ 1 = ap weight (eq-eqb c.worker w is) in let t = term_le (λ (d : Claim). weight (eqb d.worker w)) cs i c at in omega arith

module _ {S : Type 0} (state : S → ShelfState) (b : ShelfState) (n : ℕ) where
  abbrev Rule : State S (View S) → Type 0
  Rule = Kept state b n

  -- no other seat has a claim of a worker of this one
  apart_from : (s : State S (View S)) (r : Rule s) (id j : ℕ) (v u : View S) → j ≢ id → get_elem? s.views id ≡ some v → get_elem? s.views j ≡ some u
      → (i k : ℕ) (c d : Claim) → get_elem? v.claims i ≡ some c → get_elem? u.claims k ≡ some d → d.worker ≢ c.worker
  apart_from s r id j v u ne at there i k c d ci dk same =
      let one = counted c.worker v.claims i c ci refl in
      let two = counted c.worker u.claims k d dk same in
      let sum = terms_le (claims_of c.worker) s.views id j v u ne at there in
      let most = r.apart c.worker in
      omega arith

  -- no other seat holds the slot
  none_else : (s : State S (View S)) (r : Rule s) (id j : ℕ) (v u : View S) → j ≢ id → get_elem? s.views id ≡ some v → get_elem? s.views j ≡ some u → v.holds ≡ true → u.holds ≡ true → ⊥
  none_else s r id j v u ne at there h k =
      let one : holder v ≡ 1 = ap weight h in
      let two : holder u ≡ 1 = ap weight k in
      let sum = terms_le holder s.views id j v u ne at there in
      let is = r.holders in
      ⊎_elim (λ home. let z = home.0 in omega arith) (λ out. let z = out.0 in omega arith) r.slot

  -- one view changes, and with it the words, the slot and the history
  rebuilt : (s : State S (View S)) (r : Rule s) (id : ℕ) (v w : View S) → get_elem? s.views id ≡ some v
      → (words : List ℕ) (homes : List (Option S)) (log : List Action) (turn winner at : ℕ)
      → words ≡ length log % 2 ^ 64 ∷ turn ∷ winner ∷ [] → Slot state b turn log homes → winner ≤ n → at ≤ length log → Works b.base n b.entries log
      → r.turn + holder w ≡ turn + holder v → length w.claims ≡ length v.claims → ((x : ℕ) → claims_of x w ≡ claims_of x v)
      → Fits state b n log winner at w
      → ((j : ℕ) (u : View S) → j ≢ id → get_elem? s.views j ≡ some u → Fits state b n r.log r.winner r.at u → Fits state b n log winner at u)
      → Rule record { words = words; homes = homes; views = set s.views id w }
  rebuilt s r id v w there words homes log turn winner at is slot most within legal turns size same fits others = record {
    log = log;
    turn = turn;
    winner = winner;
    at = at;
    words = is;
    slot = slot;
    won = (most, within);
    legal = legal;
    room = r.room;
    few = r.few;
    holders = let t = total-set holder s.views id v w there in let h = r.holders in omega arith;
    count = let t = total-set claim_count s.views id v w there in let h = r.count in omega arith;
    apart = λ x. let t = total-set (claims_of x) s.views id v w there in let h = r.apart x in let e = same x in omega arith;
    each = set_each (Fits state b n log winner at) s.views id w fits (λ j u ne e. others j u ne e (r.each j u e));
  }

  saw_all : (w : ℕ) (log : List Action) → Saw w log log
  saw_all w log = record { since = []; whole = sym (append-nil log); idle = refl }

  now_sees : (log : List Action) (winner at : ℕ) (c : Claim) → FitsClaim n log winner at c → FitsClaim n log winner at (sees c log)
  now_sees log winner at c f = record { known = f.known; saw = saw_all c.worker log; own = f.own; found = f.found; place = f.place }

  fits_alone : (log : List Action) (winner at : ℕ) (b' : Maybe S) (c : Claim) → base_in state b' ≡ b → FitsClaim n log winner at c → Fits state b n log winner at (alone b' c)
  fits_alone log winner at b' c e f = record { claims = of_one (FitsClaim n log winner at) c f; based = λ _. e; holds = λ h. absurd (cc) }

  fits_holding : (log : List Action) (winner at : ℕ) (b' : Maybe S) (c : Claim) → base_in state b' ≡ b → FitsClaim n log winner at c → c.seen ≡ log → Fits state b n log winner at (holding b' c)
  fits_holding log winner at b' c e f all = record { claims = of_one (FitsClaim n log winner at) c f; based = λ _. e; holds = λ _. (refl, all) }

  pub takes_turn : (slots id : ℕ) (b' : Maybe S) (c : Claim) → Allows Rule slots id (alone b' c, []) 1 (λ x. either (eqb x 0) 1 x) (taken state (step slots 1 0 1 none) (alone b' c, []))
  takes_turn slots id b' c s r _ there _ =
      let x : ℕ = get_or s.words 1 0 in
      let is : x ≡ r.turn = ap (λ (l : List ℕ). get_or l 1 0) r.words in
      let f = r.each id (alone b' c) there in
      let mine = f.claims 0 c refl in
      let based : base_in state b' ≡ b = f.based (omega arith) in
      exchanged x 0 1 (λ z. (w : View S) × (a : Act S) × Valid s.homes [] a × Rule (stepped s 1 z id [] w a) × taken state (step slots 1 0 1 none) (alone b' c, []) x (w, carried_after [] a))
      (λ hit. ⊎_elim
      (λ (home : (r.turn ≡ 0) × ((y : S) × (s.homes ≡ some y ∷ []) × IsAt state b r.log y)). let y = home.1.0 in (
        holding b' (sees c r.log),
        takes 0 y,
        ap (λ (h : List (Option S)). get_elem? h 0) home.1.1,
        rebuilt s r id (alone b' c) (holding b' (sees c r.log)) there (set s.words 1 1) (set s.homes 0 none) r.log 1 r.winner r.at
            (ap (λ (l : List ℕ). set l 1 1) r.words) (inr (refl, ap (λ (h : List (Option S)). set h 0 none) home.1.1)) r.won.0 r.won.1 r.legal (ap (λ k. k + 1) home.0) refl (λ _. refl)
            (fits_holding r.log r.winner r.at b' (sees c r.log) based (now_sees r.log r.winner r.at c mine) refl) (λ j u _ _ same. same),
        ((λ _. (r.log, y, mine.saw, subst (λ (z : ShelfState). IsAt state z r.log y) (sym based) home.1.2, refl)), (λ ne. absurd (ne hit))),
      ))
      (λ (out : (r.turn ≡ 1) × (s.homes ≡ none ∷ [])). let o = out.0 in absurd (omega arith))
      r.slot)
      (λ miss. (
        alone b' (busier c),
        keeps,
        tt,
        rebuilt s r id (alone b' c) (alone b' (busier c)) there (set s.words 1 x) s.homes r.log r.turn r.winner r.at
            (ap (λ (l : List ℕ). set l 1 (get_or l 1 0)) r.words) r.slot r.won.0 r.won.1 r.legal refl refl (λ _. refl)
            (fits_alone r.log r.winner r.at b' (busier c) based record { known = mine.known; saw = mine.saw; own = mine.own; found = mine.found; place = mine.place }) (λ j u _ _ same. same),
        ((λ z. absurd (miss z)), (λ _. refl)),
      ))

  -- the slot is out while a seat holds it
  is_out : (s : State S (View S)) (r : Rule s) (id : ℕ) (v : View S) → get_elem? s.views id ≡ some v → v.holds ≡ true → (r.turn ≡ 1) × (s.homes ≡ none ∷ [])
  is_out s r id v there h =
      let one : holder v ≡ 1 = ap weight h in
      let t = term_le holder s.views id v there in
      let is = r.holders in
      ⊎_elim (λ (home : (r.turn ≡ 0) × ((y : S) × (s.homes ≡ some y ∷ []) × IsAt state b r.log y)). let z = home.0 in absurd (omega arith)) (λ (out : (r.turn ≡ 1) × (s.homes ≡ none ∷ [])). out) r.slot

  pub gives_as : (slots id : ℕ) (b' : Maybe S) (c d : Claim) (y : S) (then : ℕ → Me S (View S) → Type 0) → ((x : ℕ) → then x (alone b' d, [])) → d.worker ≡ c.worker → ((log : List Action) (winner at : ℕ) → FitsClaim n log winner at c → FitsClaim n log winner at d)
      → IsAt state (base_in state b') c.seen y → Allows Rule slots id (holding b' c, (0, y) ∷ []) 1 (λ _. 0) then
  gives_as slots id b' c d y then told same_worker also held s r _ there _ =
      let f = r.each id (holding b' c) there in
      let mine = f.claims 0 c refl in
      let based : base_in state b' ≡ b = f.based (omega arith) in
      let all : c.seen ≡ r.log = (f.holds refl).1 in
      let out = is_out s r id (holding b' c) there refl in (
        alone b' d,
        gives,
        tt,
        rebuilt s r id (holding b' c) (alone b' d) there (set s.words 1 0) (set s.homes 0 (some y)) r.log 0 r.winner r.at
            (ap (λ (l : List ℕ). set l 1 0) r.words)
            (inl (refl, (y, ap (λ (h : List (Option S)). set h 0 (some y)) out.1, subst (λ (z : ShelfState × List Action). IsAt state z.0 z.1 y) (λ i. (based i, all i)) held)))
            r.won.0 r.won.1 r.legal (let o = out.0 in omega arith) refl (λ x. ap (λ k. weight (eqb k x) + 0) same_worker) (fits_alone r.log r.winner r.at b' d based (also r.log r.winner r.at mine)) (λ j u _ _ same. same),
        told (get_or s.words 1 0),
      )

  pub gives_turn : (slots id : ℕ) (b' : Maybe S) (c : Claim) (y : S) → IsAt state (base_in state b') c.seen y → Allows Rule slots id (holding b' c, (0, y) ∷ []) 1 (λ _. 0) (λ _. given (step slots 1 0 0 none) (holding b' c, (0, y) ∷ []) 0)
  gives_turn slots id b' c y held = gives_as slots id b' c c y (λ _. given (step slots 1 0 0 none) (holding b' c, (0, y) ∷ []) 0) (λ _. refl) refl (λ _ _ _ f. f) held

  pub gives_turn_back : (slots id : ℕ) (b' : Maybe S) (c : Claim) (y : S) → IsAt state (base_in state b') c.seen y → Allows Rule slots id (holding b' c, (0, y) ∷ []) 1 (λ _. 0) (λ _. given_back (step slots 1 0 0 none) (holding b' c, (0, y) ∷ []) 0)
  gives_turn_back slots id b' c y held = gives_as slots id b' c (returns c) y (λ _. given_back (step slots 1 0 0 none) (holding b' c, (0, y) ∷ []) 0) (λ _. refl) refl (λ _ _ _ f. record { known = f.known; saw = f.saw; own = f.own; found = f.found; place = f.place }) held

  grown : (e : Action) (log : List Action) (winner at : ℕ) (d : Claim) → at ≤ length log → worker_of e ≢ d.worker → FitsClaim n log winner at d → FitsClaim n (log ++ e ∷ []) winner at d
  grown e log winner at d within other f = record {
    known = f.known;
    saw = record {
      since = f.saw.since ++ e ∷ [];
      whole = ap (λ l. l ++ e ∷ []) f.saw.whole ∙ append_assoc d.seen f.saw.since (e ∷ []);
      idle = by-append d.worker f.saw.since (e ∷ []) ∙ (ap (λ l. l ++ actions_by d.worker (e ∷ [])) f.saw.idle ∙ by_other d.worker e other);
    };
    own = f.own ∙ sym (ap (actions_by d.worker) (history-append winner at log e within) ∙ (by-append d.worker (history winner at log) (e ∷ []) ∙ (ap (λ l. actions_by d.worker (history winner at log) ++ l) (by_other d.worker e other) ∙ append-nil (actions_by d.worker (history winner at log)))));
    found = f.found;
    place = f.place;
  }

  pub enters : (slots id : ℕ) (b' : Maybe S) (c : Claim) (y : S) (e : Action) (then : ℕ → Me S (View S) → Type 0) → worker_of e ≡ c.worker → MayFollow (base_in state b').base (entries_after (base_in state b').entries c.seen) e
      → ((x : ℕ) → then x (holding b' (adds c e), (0, y) ∷ []))
      → Allows Rule slots id (holding b' c, (0, y) ∷ []) 0 (λ x. (x + 1) % 2 ^ 64) then
  enters slots id b' c y e then own may told s r _ there _ =
      let f = r.each id (holding b' c) there in
      let mine = f.claims 0 c refl in
      let based : base_in state b' ≡ b = f.based (omega arith) in
      let all : c.seen ≡ r.log = (f.holds refl).1 in
      let out = is_out s r id (holding b' c) there refl in
      let x : ℕ = get_or s.words 0 0 in
      let is : x ≡ length r.log % 2 ^ 64 = ap (λ (l : List ℕ). get_or l 0 0) r.words in
      let next : (x + 1) % 2 ^ 64 ≡ length (r.log ++ e ∷ []) % 2 ^ 64 = ap (λ k. (k + 1) % 2 ^ 64) is ∙ (next_round (length r.log) (2 ^ 64) ∙ ap (λ k. k % 2 ^ 64) (sym (length-append r.log (e ∷ [])))) in
      let legal : Works b.base n b.entries (r.log ++ e ∷ []) =
      works-push b.base n b.entries r.log e r.legal (subst (λ k. k < n) (sym own) mine.known) (subst (λ (z : ShelfState × List Action). MayFollow z.0.base (entries_after z.0.entries z.1) e) (λ i. (based i, all i)) may) in
      let w = holding b' (adds c e) in (
        w,
        keeps,
        tt,
        rebuilt s r id (holding b' c) w there (set s.words 0 ((x + 1) % 2 ^ 64)) s.homes (r.log ++ e ∷ []) r.turn r.winner r.at
            (ap (λ (l : List ℕ). set l 0 ((x + 1) % 2 ^ 64)) r.words ∙ ap (λ k. k ∷ r.turn ∷ r.winner ∷ []) next)
            (inr out) r.won.0 (let a = r.won.1 in omega (arith, length-append r.log (e ∷ []))) legal refl refl (λ _. refl)
            (fits_holding (r.log ++ e ∷ []) r.winner r.at b' (adds c e) based
            record {
              known = mine.known;
              saw = record { since = []; whole = ap (λ l. l ++ e ∷ []) (sym all) ∙ sym (append-nil (c.seen ++ e ∷ [])); idle = refl };
              own = ap (λ l. l ++ e ∷ []) mine.own ∙ sym (ap (actions_by c.worker) (history-append r.winner r.at r.log e r.won.1) ∙ (by-append c.worker (history r.winner r.at r.log) (e ∷ []) ∙ ap (λ l. actions_by c.worker (history r.winner r.at r.log) ++ l) (by_own c.worker e own)));
              found = mine.found;
              place = mine.place;
            }
            (ap (λ l. l ++ e ∷ []) all))
            (λ j u ne at same. record {
              claims = λ k d dk. grown e r.log r.winner r.at d r.won.1 (λ eq. apart_from s r id j (holding b' c) u ne there at 0 k c d refl dk (sym eq ∙ own)) (same.claims k d dk);
              based = same.based;
              holds = λ h. absurd (none_else s r id j (holding b' c) u ne there at refl h);
            }),
        told x,
      )

  beaten : (log : List Action) (at at' w : ℕ) (d : Claim) → w ≢ d.worker → FitsClaim n log 0 at d → FitsClaim n log (suc w) at' d
  beaten log at at' w d other f = record {
    known = f.known;
    saw = f.saw;
    own = f.own ∙ sym (history_other w d.worker at' log other);
    found = λ some-one. absurd (some-one (sym (f.found some-one)));
    place = λ same. absurd (other (cc));
  }

  pub races : (slots id : ℕ) (b' : Maybe S) (c : Claim) (new : ℕ) → new ≡ c.worker + 1 → Allows Rule slots id (alone b' c, []) 2 (λ x. either (eqb x 0) new x) (raced (step slots 2 0 new none) (alone b' c, []))
  races slots id b' c new mark s r _ there _ =
      let x : ℕ = get_or s.words 2 0 in
      let is : x ≡ r.winner = ap (λ (l : List ℕ). get_or l 2 0) r.words in
      let f = r.each id (alone b' c) there in
      let mine = f.claims 0 c refl in
      let based : base_in state b' ≡ b = f.based (omega arith) in
      exchanged x 0 new (λ z. (w : View S) × (a : Act S) × Valid s.homes [] a × Rule (stepped s 2 z id [] w a) × raced (step slots 2 0 new none) (alone b' c, []) x (w, carried_after [] a))
      (λ hit.
      let nobody-yet : r.winner ≡ 0 = sym is ∙ hit in
      let place : length c.seen ≤ length r.log = let t = ap length mine.saw.whole in let u = length-append c.seen mine.saw.since in omega arith in
      let up : new ≡ suc c.worker = mark ∙ add-one c.worker in (
        alone b' (wins c),
        keeps,
        tt,
        rebuilt s r id (alone b' c) (alone b' (wins c)) there (set s.words 2 new) s.homes r.log r.turn (suc c.worker) (length c.seen)
            (ap (λ (l : List ℕ). set l 2 new) r.words ∙ ap (λ k. length r.log % 2 ^ 64 ∷ r.turn ∷ k ∷ []) up) r.slot (let k = mine.known in omega arith) place r.legal refl refl (λ _. refl)
            (fits_alone r.log (suc c.worker) (length c.seen) b' (wins c) based record {
              known = mine.known;
              saw = mine.saw;
              own = ap (λ l. l ++ Win c.worker ∷ []) (mine.own ∙ (ap (λ k. actions_by c.worker (history k r.at r.log)) nobody-yet ∙ ap (actions_by c.worker) mine.saw.whole))
                  ∙ (sym (history_own c.worker c.seen mine.saw.since mine.saw.idle) ∙ ap (λ l. actions_by c.worker (history (suc c.worker) (length c.seen) l)) (sym mine.saw.whole));
              found = λ _. sym (add-one c.worker);
              place = λ _. refl;
            })
            (λ j u ne at same. record {
              claims = λ k d dk. beaten r.log r.at (length c.seen) c.worker d (λ eq. apart_from s r id j (alone b' c) u ne there at 0 k c d refl dk (sym eq)) (subst (λ z. FitsClaim n r.log z r.at d) nobody-yet (same.claims k d dk));
              based = same.based;
              holds = same.holds;
            }),
        (let l = r.won.0 in let m = r.few in omega arith, (λ h. is ∙ mine.found h), (λ _. refl), (λ ne. absurd (ne hit))),
      ))
      (λ miss. (
        alone b' (finds c x),
        keeps,
        tt,
        rebuilt s r id (alone b' c) (alone b' (finds c x)) there (set s.words 2 x) s.homes r.log r.turn r.winner r.at
            (ap (λ (l : List ℕ). set l 2 (get_or l 2 0)) r.words) r.slot r.won.0 r.won.1 r.legal refl refl (λ _. refl)
            (fits_alone r.log r.winner r.at b' (finds c x) based record { known = mine.known; saw = mine.saw; own = mine.own; found = λ _. sym is; place = mine.place }) (λ j u _ _ same. same),
        (let l = r.won.0 in let m = r.few in omega arith, (λ h. is ∙ mine.found h), (λ z. absurd (miss z)), (λ _. refl)),
      ))

  pub asks : (slots id : ℕ) (b' : Maybe S) (c : Claim) → Allows Rule slots id (alone b' c, []) 2 (λ x. x) (asked (step slots 2 0 0 none) (alone b' c, []))
  asks slots id b' c s r _ there _ =
      let f = r.each id (alone b' c) there in
      let mine = f.claims 0 c refl in
      let x : ℕ = get_or s.words 2 0 in
      let is : x ≡ r.winner = ap (λ (l : List ℕ). get_or l 2 0) r.words in (
        alone b' (looks_at c x),
        keeps,
        tt,
        rebuilt s r id (alone b' c) (alone b' (looks_at c x)) there (set s.words 2 x) s.homes r.log r.turn r.winner r.at
            (ap (λ (l : List ℕ). set l 2 (get_or l 2 0)) r.words) r.slot r.won.0 r.won.1 r.legal refl refl (λ _. refl)
            (fits_alone r.log r.winner r.at b' (looks_at c x) (f.based (omega arith)) record { known = mine.known; saw = mine.saw; own = mine.own; found = λ _. sym (ap (λ (l : List ℕ). get_or l 2 0) r.words); place = mine.place }) (λ j u _ _ same. same),
        (let l = r.won.0 in let m = r.few in omega arith, (λ h. is ∙ mine.found h), refl),
      )

  pub splits : (id : ℕ) (b' : Maybe S) (c : Claim) (cs : List Claim) → Splits Rule id (with_claims b' (c ∷ cs)) (with_claims b' cs) (with_claims b' (c ∷ []))
  splits id b' c cs s r there =
      let v = with_claims b' (c ∷ cs) in
      let left = with_claims b' cs in
      let right = with_claims b' (c ∷ []) in
      let f = r.each id v there in
      let based : base_in state b' ≡ b = f.based (omega arith) in
      let Q : View S → Type 0 = Fits state b n r.log r.winner r.at in
      let first : Q right = fits_alone r.log r.winner r.at b' c based (f.claims 0 c refl) in
      let others : Q left = record { claims = λ i d e. f.claims (suc i) d e; based = λ _. based; holds = λ h. absurd (cc) } in
      let shares = λ (g : View S → ℕ) (h : g left + g right ≡ g v). (let t = total-set g s.views id v left there in let u = total-append g (set s.views id left) (right ∷ []) in let done : total g (set s.views id left ++ right ∷ []) ≡ total g s.views = omega arith in done) in
      record {
        log = r.log;
        turn = r.turn;
        winner = r.winner;
        at = r.at;
        words = r.words;
        slot = r.slot;
        won = r.won;
        legal = r.legal;
        room = r.room;
        few = r.few;
        holders = shares holder refl ∙ r.holders;
        count = shares claim_count (omega arith) ∙ r.count;
        apart = λ x. let e = shares (claims_of x) (omega arith) in let h = r.apart x in omega arith;
        each = λ j u e. ⊎_elim (λ (old : get_elem? (set s.views id left) j ≡ some u). set_each Q s.views id left others (λ k w _ at. r.each k w at) j u old) (λ (new : right ≡ u). subst Q new first) (at_snoc (set s.views id left) right u j e);
      }

  pub joins : (id other : ℕ) (b' b'' : Maybe S) (cs ds : List Claim) → 0 < length cs → Joins Rule id (with_claims b' cs) other (with_claims b'' ds) (with_claims b' (cs ++ ds)) spent_view
  joins id other b' b'' cs ds some-one s r there apart that =
      let v = with_claims b' cs in
      let w = with_claims b'' ds in
      let both = with_claims b' (cs ++ ds) in
      let f = r.each id v there in
      let g = r.each other w (sym (set_else s.views id other both apart) ∙ that) in
      let Q : View S → Type 0 = Fits state b n r.log r.winner r.at in
      let whole : Q both = record {
        claims = λ i c e. ⊎_elim (λ (t : (k : ℕ) × (get_elem? cs k ≡ some c)). f.claims t.0 c t.1) (λ (t : (k : ℕ) × (get_elem? ds k ≡ some c)). g.claims t.0 c t.1) (at_append cs ds i c e);
        based = λ _. f.based some-one;
        holds = λ h. absurd (cc);
      } in
      let none-left : Q spent_view = record { claims = λ i c e. absurd (some-ne-none c (sym e)); based = λ h. absurd (omega arith); holds = λ h. absurd (cc) } in
      let keep = λ (m : View S → ℕ) (h : m both + m spent_view ≡ m v + m w). (let t = total-set m s.views id v both there in let u = total-set m (set s.views id both) other w spent_view that in let done : total m (set (set s.views id both) other spent_view) ≡ total m s.views = omega arith in done) in
      record {
        log = r.log;
        turn = r.turn;
        winner = r.winner;
        at = r.at;
        words = r.words;
        slot = r.slot;
        won = r.won;
        legal = r.legal;
        room = r.room;
        few = r.few;
        holders = keep holder refl ∙ r.holders;
        count = keep claim_count (omega (arith, length-append cs ds)) ∙ r.count;
        apart = λ x. let e = keep (claims_of x) (omega (arith, total-append (λ (c : Claim). weight (eqb c.worker x)) cs ds)) in let h = r.apart x in omega arith;
        each = set_each Q (set s.views id both) other spent_view none-left (λ j u _ e. set_each Q s.views id both whole (λ k x _ at. r.each k x at) j u e);
      }
