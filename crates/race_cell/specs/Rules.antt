-- The rule of the table, and what each step tells.
-- Word 0, LENGTH, counts the shares and batches of the race. Word 1, TURN, is 1 while the slot is out. Word 2, WINNER, is 0, or 1 more than the worker that won.
use Rattle.std.specs.Prelude.{◌≡◌, ◌≢◌, ℕ, zero, suc, ◌+◌, ◌%◌, ◌^◌, ◌<◌, ◌≤◌, ◌==◌, ◌⊎◌, Bool, true, false, List, [], ◌∷◌, ◌++◌, length, take, drop, Option as Maybe, Some, None}
use mathlib.Core.Option.{Option, none, some}
use lib.ListN.{get_elem?}
use Rattle.atomic_table.specs.Table.{State, Me, Step}
use Rattle.race_model.specs.declared.event.Entry.{Entry}
use Rattle.race_model.specs.Shelves.{ShelfState, racing}
use Rattle.race_model.specs.Race.{State as RaceState, IsRace}
use Rattle.race_cell.specs.declared.action.Action.{Action}
use Rattle.race_cell.specs.declared.action.Action.TheVariants.{Share, TakeBatch, Win}
use Rattle.race_cell.specs.Actions.{actions_by, entries_after, Works, ends_from, numbers_from, events_in}
use Rattle.race_cell.specs.declared.view.Claim.{Claim}
use Rattle.race_cell.specs.declared.view.View.{View}

-- the weights, added up
abbrev pub total : {A : Type 0} → (A → ℕ) → List A → ℕ
total f [] = 0
total f (x ∷ xs) = f x + total f xs

abbrev pub weight : Bool → ℕ
weight true = 1
weight false = 0

-- how many claims are of the worker
abbrev pub claims_of : {S : Type 0} → ℕ → View S → ℕ
claims_of w v = total (λ (c : Claim). weight (c.worker == w)) v.claims

-- a claim that knows nothing yet
abbrev pub fresh : ℕ → Claim
fresh w = record { worker = w; own = []; seen = []; found = 0; place = 0; busy = 0; returned = 0; looks = 0 }

-- the first claim; a pass has one
abbrev pub first_of : List Claim → Claim
first_of [] = fresh 0
first_of (c ∷ cs) = c

abbrev pub claim : {S : Type 0} → View S → Claim
claim v = first_of v.claims

abbrev pub claim_count : {S : Type 0} → View S → ℕ
claim_count v = length v.claims

abbrev pub holder : {S : Type 0} → View S → ℕ
holder v = weight v.holds

abbrev pub no_shelf : ShelfState
no_shelf = record { base = record { trees = []; frames = [] }; entries = []; ended = []; room = 0; spare = 0; global = false }

-- the state of the shelf as the race began
abbrev pub base_in : {S : Type 0} → (S → ShelfState) → Maybe S → ShelfState
base_in state None = no_shelf
base_in state (Some y) = state y

-- the actions of the race with the win, where there is one: its worker had seen so many
abbrev pub history : ℕ → ℕ → List Action → List Action
history zero at log = log
history (suc w) at log = take at log ++ Win w ∷ drop at log

-- the log begins with what was seen, and the worker has done nothing since
pub record Saw (worker : ℕ) (log seen : List Action) : Type 0 where
  pub since : List Action
  pub whole : log ≡ seen ++ since
  pub idle : actions_by worker since ≡ []

pub record FitsClaim (n : ℕ) (log : List Action) (winner at : ℕ) (c : Claim) : Type 0 where
  pub known : c.worker < n
  pub saw : Saw c.worker log c.seen
  pub own : c.own ≡ actions_by c.worker (history winner at log)
  pub found : c.found ≢ 0 → winner ≡ c.found
  pub place : winner ≡ suc c.worker → at ≡ c.place

module _ {S : Type 0} (state : S → ShelfState) where
  pub record Fits (b : ShelfState) (n : ℕ) (log : List Action) (winner at : ℕ) (v : View S) : Type 0 where
    pub claims : (i : ℕ) (c : Claim) → get_elem? v.claims i ≡ some c → FitsClaim n log winner at c
    pub based : 0 < length v.claims → base_in state v.base ≡ b
    pub holds : v.holds ≡ true → (length v.claims ≡ 1) × ((claim v).seen ≡ log)

  -- the shelf after these actions of the race
  pub record IsAt (b : ShelfState) (log : List Action) (y : S) : Type 0 where
    pub held : (state y).entries ≡ entries_after b.entries log
    pub based : (state y).base ≡ b.base
    pub ended : (state y).ended ≡ b.ended
    pub room : b.room ≤ (state y).room
    pub global : (state y).global ≡ b.global

  -- the slot is at home with all actions, or out
  abbrev pub Slot : ShelfState → ℕ → List Action → List (Option S) → Type 0
  Slot b turn log homes = ((turn ≡ 0) × ((y : S) × (homes ≡ some y ∷ []) × IsAt b log y)) ⊎ ((turn ≡ 1) × (homes ≡ none ∷ []))

  pub record Kept (b : ShelfState) (n : ℕ) (s : State S (View S)) : Type 0 where
    pub log : List Action
    pub turn : ℕ
    pub winner : ℕ
    pub at : ℕ
    pub words : s.words ≡ length log % 2 ^ 64 ∷ turn ∷ winner ∷ []
    pub slot : Slot b turn log s.homes
    pub won : (winner ≤ n) × (at ≤ length log)
    pub legal : Works b.base n b.entries log
    pub room : n ≤ b.room
    pub few : n < 256
    pub holders : total holder s.views ≡ turn
    pub count : total claim_count s.views ≡ n
    pub apart : (w : ℕ) → total (claims_of w) s.views ≤ 1
    pub each : (id : ℕ) (v : View S) → get_elem? s.views id ≡ some v → Fits b n log winner at v

-- the claims at the start, of so many workers from w on
abbrev pub fresh_from : ℕ → ℕ → List Claim
fresh_from w zero = []
fresh_from w (suc k) = fresh w ∷ fresh_from (suc w) k

-- a seat that holds nothing
abbrev pub with_claims : {S : Type 0} → Maybe S → List Claim → View S
with_claims b cs = record { base = b; claims = cs; holds = false }

abbrev pub opening_view : {S : Type 0} → S → ℕ → View S
opening_view y n = with_claims (Some y) (fresh_from 0 n)

abbrev pub without_head : {S : Type 0} → View S → View S
without_head v = record { base = v.base; claims = drop 1 v.claims; holds = v.holds }

abbrev pub with_head : {S : Type 0} → View S → View S
with_head v = record { base = v.base; claims = take 1 v.claims; holds = false }

abbrev pub joined : {S : Type 0} → View S → View S → View S
joined v w = record { base = v.base; claims = v.claims ++ w.claims; holds = v.holds }

abbrev pub spent_view : {S : Type 0} → View S
spent_view = record { base = None; claims = []; holds = false }

-- the view of a pass with one worker
abbrev pub alone : {S : Type 0} → Maybe S → Claim → View S
alone b c = record { base = b; claims = c ∷ []; holds = false }

abbrev pub holding : {S : Type 0} → Maybe S → Claim → View S
holding b c = record { base = b; claims = c ∷ []; holds = true }

abbrev pub sees : Claim → List Action → Claim
sees c log = record c { seen = log }

-- the action of the worker itself, after all that it has seen
abbrev pub adds : Claim → Action → Claim
adds c e = record c { own = c.own ++ e ∷ []; seen = c.seen ++ e ∷ [] }

abbrev pub finds : Claim → ℕ → Claim
finds c r = record c { found = r }

abbrev pub wins : Claim → Claim
wins c = record c { own = c.own ++ Win c.worker ∷ []; found = c.worker + 1; place = length c.seen }

-- one more try that found the slot out
abbrev pub busier : Claim → Claim
busier c = record c { busy = c.busy + 1 }

-- once more the slot was taken and given back as it was
abbrev pub returns : Claim → Claim
returns c = record c { returned = c.returned + 1 }

-- one more look at WINNER, which found this word
abbrev pub looks_at : Claim → ℕ → Claim
looks_at c r = record c { found = r; looks = c.looks + 1 }

-- the share that the last entry is
abbrev pub last_share : List Entry → Action
last_share [] = Win 0
last_share (e ∷ []) = Share e.worker e.clause
last_share (e ∷ f ∷ es) = last_share (f ∷ es)

-- the last share of the shelf that is out
abbrev pub share_out : {S : Type 0} → (S → ShelfState) → List (ℕ × S) → Action
share_out state [] = Win 0
share_out state (x ∷ xs) = last_share (state x.1).entries

module _ {S : Type 0} (state : S → ShelfState) where
  -- the slot is out with the seat, which has seen all actions, or nothing changed
  abbrev pub taken : Step S → Me S (View S) → ℕ → Me S (View S) → Type 0
  taken st m r m' =
      (r ≡ 0 → (log : List Action) × (y : S) × Saw (claim m.0).worker log (claim m.0).seen × IsAt state (base_in state m.0.base) log y × (m' ≡ (holding m.0.base (sees (claim m.0) log), (0, y) ∷ [])))
      × (r ≢ 0 → m' ≡ (alone m.0.base (busier (claim m.0)), []))

  -- the last share of the shelf is the seat's own
  abbrev pub entered_share : Step S → Me S (View S) → ℕ → Me S (View S) → Type 0
  entered_share st m r m' = m' ≡ (holding m.0.base (adds (claim m.0) (share_out state m.1)), m.1)

abbrev pub entered_batch : {S : Type 0} → Step S → Me S (View S) → ℕ → Me S (View S) → Type 0
entered_batch st m r m' = m' ≡ (holding m.0.base (adds (claim m.0) (TakeBatch (claim m.0).worker)), m.1)

abbrev pub given : {S : Type 0} → Step S → Me S (View S) → ℕ → Me S (View S) → Type 0
given st m r m' = m' ≡ (alone m.0.base (claim m.0), [])

abbrev pub given_back : {S : Type 0} → Step S → Me S (View S) → ℕ → Me S (View S) → Type 0
given_back st m r m' = m' ≡ (alone m.0.base (returns (claim m.0)), [])

abbrev pub raced : {S : Type 0} → Step S → Me S (View S) → ℕ → Me S (View S) → Type 0
raced st m r m' =
    (r < 256) × ((claim m.0).found ≢ 0 → r ≡ (claim m.0).found) × (r ≡ 0 → m' ≡ (alone m.0.base (wins (claim m.0)), [])) × (r ≢ 0 → m' ≡ (alone m.0.base (finds (claim m.0) r), []))

abbrev pub asked : {S : Type 0} → Step S → Me S (View S) → ℕ → Me S (View S) → Type 0
asked st m r m' = (r < 256) × ((claim m.0).found ≢ 0 → r ≡ (claim m.0).found) × (m' ≡ (alone m.0.base (looks_at (claim m.0) r), []))

-- the last state of a race, before its workers end
module _ {S : Type 0} (state : S → ShelfState) where
  pub record AtEnd (b : ShelfState) (n : ℕ) (claims : List Claim) (y : S) : Type 0 where
    pub log : List Action
    pub winner : ℕ
    pub at : ℕ
    pub shelf : IsAt state b log y
    pub won : (winner ≤ n) × (at ≤ length log)
    pub legal : Works b.base n b.entries log
    pub room : n ≤ b.room
    pub each : (i : ℕ) (c : Claim) → get_elem? claims i ≡ some c → FitsClaim n log winner at c

  -- There is one history of shares and batches, with one win at most and an end of each worker. As events it is a race from the shelf at the start to the entries that the shelf has,
  -- and each claim is true of it
  pub record Ended (b : ShelfState) (n : ℕ) (claims : List Claim) (y : S) : Type 0 where
    pub log : List Action
    pub winner : ℕ
    pub at : ℕ
    pub won : winner ≤ n
    pub last : RaceState
    pub legal : IsRace (racing n b) (events_in b.base (history winner at log ++ ends_from 0 n)) last
    pub entries : (state y).entries ≡ last.entries
    pub base : (state y).base ≡ last.base
    pub global : (state y).global ≡ last.global
    pub ended : (state y).ended ≡ b.ended ++ numbers_from 0 n
    pub each : (i : ℕ) (c : Claim) → get_elem? claims i ≡ some c → FitsClaim n log winner at c
