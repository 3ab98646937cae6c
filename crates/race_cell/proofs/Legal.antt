-- Shares and batches of workers, with a win among them and an end of each, are a race.
use Rattle.std.proofs.Common.{◌≡◌, ◌≢◌, ℕ, zero, suc, ◌+◌, ◌<◌, ◌≤◌, Bool, true, false, List, [], ◌∷◌, ◌++◌, map, length, take, drop, replicate, set, get_or, sym, refl, ap, ◌∙◌, subst, arith, append_assoc, All, Contains, Option, Some, None}
use mathlib.Core.Logic.{dite}
use native.Mathlib.Decide.{ℕ_discrete}
use Rattle.std.specs.Prelude.{slice_get, IfSome}
use Rattle.std.proofs.Math.ListN.{length-set}
use Rattle.std.proofs.lemmas.List.{take-append-drop}
use Rattle.std.proofs.lemmas.List.Elements.{All-nil, All-cons, All-head, All-tail, All-append, All-set, All-get_or, All-replicate, Contains-push}
use Rattle.smt_meaning.specs.declared.clauses.Clause.{Clause}
use Rattle.smt_meaning.specs.Term.{Tree, Interpretation}
use Rattle.smt_meaning.specs.Stack.{Frame, Satisfies, Holds, terms_of, assertions_of, up_to}
use Rattle.smt_meaning.specs.Follows.{follows_from}
use Rattle.race_model.specs.declared.event.Entry.{Entry}
use Rattle.race_model.specs.declared.event.Premise.{Premise}
use Rattle.race_model.specs.declared.event.Premise.TheVariants.{Asserted}
use Rattle.race_model.specs.declared.event.Event.{Event}
use Rattle.race_model.specs.declared.state.Worker.{Worker}
use Rattle.race_model.specs.Base.{Base}
use Rattle.race_model.specs.Race.{State, IsRace, after, nobody, IsRunning, terms_at, Supports, PremiseTrue, IsShown, fresh_worker}
use Rattle.race_model.specs.Laws.{IsSound}
use Rattle.race_model.specs.Shelves.{ShelfState, racing}
use Rattle.race_cell.specs.declared.action.Action.{Action}
use Rattle.race_cell.specs.declared.action.Action.TheVariants.{Share, TakeBatch, Win, End}
use Rattle.race_cell.specs.Actions.{entries_after, Works, ends_from, assertions_from, premises_from, premises_of, events_of, events_in}
use Rattle.race_cell.specs.Rules.{history}

-- ---- all assertions of some levels

at_head : (P : Premise → Type 0) (level i n : ℕ) → ((j : ℕ) → j < i + n → i ≤ j → P (Asserted level j)) → All P (assertions_from level i n)
at_head P level i zero h = All-nil P
at_head P level i (suc n) h =
    All-cons P (Asserted level i) (assertions_from level (suc i) n) (h i (omega arith) (omega arith)) (at_head P level (suc i) n (λ j lt le. h j (omega arith) (omega arith)))

all_premises : (P : Premise → Type 0) (level : ℕ) (fs : List Frame) → ((k i : ℕ) → k < length fs → i < length (terms_at k fs) → P (Asserted (level + k) i)) → All P (premises_from level fs)
all_premises P level [] h = All-nil P
all_premises P level (f ∷ fs) h =
    let here : level + 0 ≡ level = omega arith in
    All-append P (assertions_from level 0 (length (terms_of f))) (premises_from (suc level) fs)
    (at_head P level 0 (length (terms_of f)) (λ j lt le. subst (λ l. P (Asserted l j)) here (h 0 j (omega arith) (omega arith))))
    (all_premises P (suc level) fs (λ k i lt within. (let next : level + suc k ≡ suc level + k = omega arith in subst (λ l. P (Asserted l i)) next (h (suc k) i (omega arith) within))))

-- back
in_head : (P : Premise → Type 0) (level i n : ℕ) (rest : List Premise) → All P (assertions_from level i n ++ rest) → ((j : ℕ) → j < i + n → i ≤ j → P (Asserted level j)) × All P rest
in_head P level i zero rest h = ((λ j lt le. absurd (omega arith)), h)
in_head P level i (suc n) rest h =
    let t = in_head P level (suc i) n rest (All-tail P (Asserted level i) (assertions_from level (suc i) n ++ rest) h) in
    let first : P (Asserted level i) = All-head P (Asserted level i) (assertions_from level (suc i) n ++ rest) h in
    ((λ j lt le. at_or_after P level i n first t.0 j lt le), t.1)
  where
    at_or_after : (P : Premise → Type 0) (level i n : ℕ) → P (Asserted level i) → ((j : ℕ) → j < suc i + n → suc i ≤ j → P (Asserted level j)) → (j : ℕ) → j < i + suc n → i ≤ j → P (Asserted level j)
    at_or_after P level i n first more j lt le =
        dite (ℕ_discrete i j) (λ same. subst (λ k. P (Asserted level k)) same first) (λ other. more j (omega arith) (omega arith))

from_premises : (P : Premise → Type 0) (level : ℕ) (fs : List Frame) → All P (premises_from level fs) → (k i : ℕ) → k < length fs → i < length (terms_at k fs) → P (Asserted (level + k) i)
from_premises P level [] h k i lt within = absurd (omega arith)
from_premises P level (f ∷ fs) h zero i lt within =
    let here : level ≡ level + 0 = omega arith in
    subst (λ l. P (Asserted l i)) here ((in_head P level 0 (length (terms_of f)) (premises_from (suc level) fs) h).0 i (omega arith) (omega arith))
from_premises P level (f ∷ fs) h (suc k) i lt within =
    let next : suc level + k ≡ level + suc k = omega arith in
    subst (λ l. P (Asserted l i)) next (from_premises P (suc level) fs (in_head P level 0 (length (terms_of f)) (premises_from (suc level) fs) h).1 k i (omega arith) within)

-- ---- the levels up to l

up_to_same : (frames : List Frame) (n k : ℕ) → k < n → terms_at k (take n frames) ≡ terms_at k frames
up_to_same frames zero k lt = absurd (omega arith)
up_to_same [] (suc n) k lt = refl
up_to_same (f ∷ fs) (suc n) zero lt = refl
up_to_same (f ∷ fs) (suc n) (suc k) lt = up_to_same fs n k (omega arith)

few_levels : (n : ℕ) (frames : List Frame) → length (take n frames) ≤ n
few_levels zero frames = omega arith
few_levels (suc n) [] = omega arith
few_levels (suc n) (f ∷ fs) = let t = few_levels n fs in omega arith

supported : (s : State) (w l : ℕ) → All (Supports s w l) (premises_of l s.base.frames)
supported s w l =
    all_premises (Supports s w l) 0 (up_to l s.base.frames)
    (λ k i lt within.
    let below : k < l + 1 = let t = few_levels (l + 1) s.base.frames in omega arith in
    let here : k ≡ 0 + k = omega arith in
    subst (λ j. Supports s w l (Asserted j i)) here (subst (λ ts. i < length ts) (up_to_same s.base.frames (l + 1) k below) within, (let le : k ≤ l = omega arith in le)))

all_at : (P : Tree → Type 0) (ts : List Tree) → ((i : ℕ) → i < length ts → IfSome (slice_get ts i) P) → All P ts
all_at P [] h = All-nil P
all_at P (t ∷ ts) h = All-cons P t ts (h 0 (omega arith)) (all_at P ts (λ i lt. h (suc i) (omega arith)))

all_hold : (I : Interpretation) (fs : List Frame) → ((k i : ℕ) → k < length fs → i < length (terms_at k fs) → IfSome (slice_get (terms_at k fs) i) (Satisfies I)) → Holds I fs
all_hold I [] h = All-nil (Satisfies I)
all_hold I (f ∷ fs) h =
    All-append (Satisfies I) (terms_of f) (assertions_of fs) (all_at (Satisfies I) (terms_of f) (λ i lt. h 0 i (omega arith) lt)) (all_hold I fs (λ k i lt within. h (suc k) i (omega arith) within))

holds_up_to : (s : State) (l : ℕ) (I : Interpretation) → All (PremiseTrue s I) (premises_of l s.base.frames) → Holds I (up_to l s.base.frames)
holds_up_to s l I h =
    all_hold I (up_to l s.base.frames)
    (λ k i lt within.
    let below : k < l + 1 = let t = few_levels (l + 1) s.base.frames in omega arith in
    let here : 0 + k ≡ k = omega arith in
    subst (λ ts. IfSome (slice_get ts i) (Satisfies I)) (sym (up_to_same s.base.frames (l + 1) k below))
    (subst (λ j. PremiseTrue s I (Asserted j i)) here (from_premises (PremiseTrue s I) 0 (up_to l s.base.frames) h k i lt within)))

-- a clause that follows at its level is shown by all assertions up to there
shown : (s : State) (c : Clause) → IsSound s.base c → IsShown s (premises_of c.level s.base.frames) c
shown s c sound =
    let from = follows_from s.base.trees s.base.frames c.level c sound.follows in
    record {
      true_wherever = λ I interprets h. from.true_wherever I interprets (holds_up_to s c.level I h);
      declared = from.declared;
      within = from.within;
    }

-- ---- workers at work

abbrev AtWork : Worker → Type 0
AtWork x = x.ended ≡ false

abbrev at : Bool → Base → List Entry → List Worker → Option ℕ → State
at g b xs ws o = record { base = b; entries = xs; workers = ws; winner = o; global = g }

race-append : (es fs : List Event) (s t u : State) → IsRace s es t → IsRace t fs u → IsRace s (es ++ fs) u
race-append [] fs s t u h g = subst (λ z. IsRace z fs u) h g
race-append (e ∷ es) fs s t u h g = (h.0, race-append es fs (after s e) t u h.1 g)

running : (g : Bool) (b : Base) (xs : List Entry) (ws : List Worker) (o : Option ℕ) (w : ℕ) → w < length ws → All AtWork ws → IsRunning (at g b xs ws o) w
running g b xs ws o w lt all = (lt, All-get_or AtWork ws w nobody lt all)

own_after : (ws : List Worker) (w : ℕ) (x : Worker) → w < length ws → get_or (set ws w x) w nobody ≡ x
own_after [] w x lt = absurd (omega arith)
own_after (y ∷ ys) zero x lt = refl
own_after (y ∷ ys) (suc w) x lt = own_after ys w x (omega arith)

other_after : (ws : List Worker) (w v : ℕ) (x : Worker) → v ≢ w → get_or (set ws w x) v nobody ≡ get_or ws v nobody
other_after [] w v x ne = refl
other_after (y ∷ ys) zero zero x ne = absurd (ne refl)
other_after (y ∷ ys) zero (suc v) x ne = refl
other_after (y ∷ ys) (suc w) zero x ne = refl
other_after (y ∷ ys) (suc w) (suc v) x ne = other_after ys w v x (λ h. ne (ap suc h))

events-append : (b : Base) (acts bs : List Action) → events_in b (acts ++ bs) ≡ events_in b acts ++ events_in b bs
events-append b [] bs = refl
events-append b (a ∷ acts) bs = ap (λ es. events_of b a ++ es) (events-append b acts bs) ∙ sym (append_assoc (events_of b a) (events_in b acts) (events_in b bs))

-- shares and batches
work : (g : Bool) (b : Base) (n : ℕ) (o : Option ℕ) (acts : List Action) (xs : List Entry) (ws : List Worker) → Works b n xs acts → length ws ≡ n → All AtWork ws
    → (vs : List Worker) × IsRace (at g b xs ws o) (events_in b acts) (at g b (entries_after xs acts) vs o) × (length vs ≡ n) × All AtWork vs
work g b n o [] xs ws h size all = (ws, refl, size, all)
work g b n o (Share w c ∷ acts) xs ws h size all =
    let x = get_or ws w nobody in
    let y : Worker = record x { own = x.own ++ c ∷ [] } in
    let vs = set ws w y in
    let lt : w < length ws = omega (arith, h.0) in
    let goes : IsRunning (at g b xs ws o) w = running g b xs ws o w lt all in
    let all' : All AtWork vs = All-set AtWork ws w y goes.1 all in
    let size' : length vs ≡ n = length-set ws w y ∙ size in
    let lt' : w < length vs = omega arith in
    let owns : Contains (get_or vs w nobody).own c = subst (λ (z : Worker). Contains z.own c) (sym (own_after ws w y lt)) (Contains-push x.own c) in
    let t = work g b n o acts (xs ++ record { clause = c; worker = w } ∷ []) vs h.2 size' all' in (
      t.0,
      (
        ((goes, h.1.1.within, supported (at g b xs ws o) w c.level), shown (at g b xs ws o) c h.1.1),
        (((running g b xs vs o w lt' all', h.1.0, owns), tt), t.1),
      ),
      t.2,
      t.3,
    )
work g b n o (TakeBatch w ∷ acts) xs ws h size all =
    let x = get_or ws w nobody in
    let y : Worker = record { own = x.own ++ map (λ (e : Entry). e.clause) (drop x.mark xs); mark = length xs; ended = x.ended } in
    let lt : w < length ws = omega (arith, h.0) in
    let goes : IsRunning (at g b xs ws o) w = running g b xs ws o w lt all in
    let t = work g b n o acts xs (set ws w y) h.2 (length-set ws w y ∙ size) (All-set AtWork ws w y goes.1 all) in
    (t.0, ((goes, tt), t.1), t.2, t.3)
work g b n o (Win w ∷ acts) xs ws h size all = absurd h.1
work g b n o (End w ∷ acts) xs ws h size all = absurd h.1

-- ends of all from w on
ends : (g : Bool) (b : Base) (o : Option ℕ) (xs : List Entry) (w k : ℕ) (ws : List Worker) → w + k ≡ length ws → ((v : ℕ) → w ≤ v → v < length ws → (get_or ws v nobody).ended ≡ false)
    → (vs : List Worker) × IsRace (at g b xs ws o) (events_in b (ends_from w k)) (at g b xs vs o)
ends g b o xs w zero ws size open-ones = (ws, refl)
ends g b o xs w (suc k) ws size open-ones =
    let x = get_or ws w nobody in
    let y : Worker = record x { ended = true } in
    let vs = set ws w y in
    let same : length vs ≡ length ws = length-set ws w y in
    let t = ends g b o xs (suc w) k vs (omega arith)
    (λ v le lt. (ap (λ (z : Worker). z.ended) (other_after ws w v y (λ h. omega arith)) ∙ open-ones v (omega arith) (omega arith))) in
    let lt : w < length ws = omega arith in
    (t.0, (((lt, open-ones w (omega arith) lt), tt), t.1))

works-cut : (b : Base) (n : ℕ) (xs : List Entry) (es fs : List Action) → Works b n xs (es ++ fs) → Works b n xs es × Works b n (entries_after xs es) fs
works-cut b n xs [] fs h = (tt, h)
works-cut b n xs (Share w c ∷ es) fs h = let t = works-cut b n (xs ++ record { clause = c; worker = w } ∷ []) es fs h.2 in ((h.0, h.1, t.0), t.1)
works-cut b n xs (TakeBatch w ∷ es) fs h = let t = works-cut b n xs es fs h.2 in ((h.0, h.1, t.0), t.1)
works-cut b n xs (Win w ∷ es) fs h = absurd h.1
works-cut b n xs (End w ∷ es) fs h = absurd h.1

entries-cut : (xs : List Entry) (es fs : List Action) → entries_after xs (es ++ fs) ≡ entries_after (entries_after xs es) fs
entries-cut xs [] fs = refl
entries-cut xs (Share w c ∷ es) fs = entries-cut (xs ++ record { clause = c; worker = w } ∷ []) es fs
entries-cut xs (TakeBatch w ∷ es) fs = entries-cut xs es fs
entries-cut xs (Win w ∷ es) fs = entries-cut xs es fs
entries-cut xs (End w ∷ es) fs = entries-cut xs es fs

length-replicate : (n : ℕ) (x : Worker) → length (replicate n x) ≡ n
length-replicate zero x = refl
length-replicate (suc n) x = ap suc (length-replicate n x)

abbrev winner_of : ℕ → Option ℕ
winner_of zero = None
winner_of (suc w) = Some w

-- the work, with the win among it
played : (b : ShelfState) (n winner moment : ℕ) (log : List Action) → Works b.base n b.entries log → winner ≤ n
    → (vs : List Worker) × IsRace (racing n b) (events_in b.base (history winner moment log)) (at b.global b.base (entries_after b.entries log) vs (winner_of winner)) × (length vs ≡ n) × All AtWork vs
played b n zero moment log works le =
    work b.global b.base n None log b.entries (replicate n fresh_worker) works (length-replicate n fresh_worker) (All-replicate AtWork n fresh_worker refl)
played b n (suc w) moment log works le =
    let front = take moment log in
    let back = drop moment log in
    let cut = works-cut b.base n b.entries front back (subst (Works b.base n b.entries) (sym (take-append-drop moment log)) works) in
    let one = work b.global b.base n None front b.entries (replicate n fresh_worker) cut.0 (length-replicate n fresh_worker) (All-replicate AtWork n fresh_worker refl) in
    let two = work b.global b.base n (Some w) back (entries_after b.entries front) one.0 cut.1 one.2 one.3 in
    let lt : w < length one.0 = let size = one.2 in omega arith in
    let here = at b.global b.base (entries_after b.entries front) one.0 None in
    let won : IsRace here (events_in b.base (Win w ∷ back)) (at b.global b.base (entries_after (entries_after b.entries front) back) two.0 (Some w)) =
    (((running b.global b.base (entries_after b.entries front) one.0 None w lt one.3, refl), tt), two.1) in
    let last : at b.global b.base (entries_after (entries_after b.entries front) back) two.0 (Some w) ≡ at b.global b.base (entries_after b.entries log) two.0 (Some w) =
    ap (λ xs. at b.global b.base xs two.0 (Some w)) (sym (entries-cut b.entries front back) ∙ ap (entries_after b.entries) (take-append-drop moment log)) in (
      two.0,
      subst (λ z. IsRace (racing n b) (events_in b.base (front ++ Win w ∷ back)) z) last
          (subst (λ es. IsRace (racing n b) es (at b.global b.base (entries_after (entries_after b.entries front) back) two.0 (Some w))) (sym (events-append b.base front (Win w ∷ back)))
          (race-append (events_in b.base front) (events_in b.base (Win w ∷ back)) (racing n b) here _ one.1 won)),
      two.2,
      two.3,
    )

-- and then the ends of all
pub whole_race : (b : ShelfState) (n winner moment : ℕ) (log : List Action) → Works b.base n b.entries log → winner ≤ n
    → (t : State) × IsRace (racing n b) (events_in b.base (history winner moment log ++ ends_from 0 n)) t × (t.base ≡ b.base) × (t.entries ≡ entries_after b.entries log) × (t.global ≡ b.global)
whole_race b n winner moment log works le =
    let p = played b n winner moment log works le in
    let e = ends b.global b.base (winner_of winner) (entries_after b.entries log) 0 n p.0 (let size = p.2 in omega arith) (λ v from lt. All-get_or AtWork p.0 v nobody lt p.3) in (
      at b.global b.base (entries_after b.entries log) e.0 (winner_of winner),
      subst (λ es. IsRace (racing n b) es (at b.global b.base (entries_after b.entries log) e.0 (winner_of winner))) (sym (events-append b.base (history winner moment log) (ends_from 0 n)))
          (race-append (events_in b.base (history winner moment log)) (events_in b.base (ends_from 0 n)) (racing n b) _ _ p.1 e.1),
      refl,
      refl,
      refl,
    )
