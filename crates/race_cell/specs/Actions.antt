-- What workers do in a race, and the events that this is.
use Rattle.std.specs.Prelude.{ℕ, ◌+◌, ◌<◌, ◌==◌, zero, suc, List, [], ◌∷◌, ◌++◌, length, flat_map, if◌then◌else◌}
use Rattle.std.specs.List.{filter}
use Rattle.smt_meaning.specs.Stack.{Frame, terms_of, up_to}
use Rattle.race_model.specs.declared.event.Entry.{Entry}
use Rattle.race_model.specs.declared.event.Premise.{Premise}
use Rattle.race_model.specs.declared.event.Premise.TheVariants.{Asserted}
use Rattle.race_model.specs.declared.event.Event.{Event}
use Rattle.race_model.specs.declared.event.Event.TheVariants as event
use Rattle.race_model.specs.Base.{Base}
use Rattle.race_model.specs.Race.{most_entries}
use Rattle.race_model.specs.Laws.{IsSound}
use Rattle.race_cell.specs.declared.action.Action.{Action}
use Rattle.race_cell.specs.declared.action.Action.TheVariants.{Share, TakeBatch, Win, End}

abbrev pub worker_of : Action → ℕ
worker_of (Share w c) = w
worker_of (TakeBatch w) = w
worker_of (Win w) = w
worker_of (End w) = w

-- the actions of one worker, in their order
abbrev pub actions_by : ℕ → List Action → List Action
actions_by w es = filter (λ e. worker_of e == w) es

-- the entries after the actions
abbrev pub entries_after : List Entry → List Action → List Entry
entries_after xs [] = xs
entries_after xs (Share w c ∷ es) = entries_after (xs ++ record { clause = c; worker = w } ∷ []) es
entries_after xs (TakeBatch w ∷ es) = entries_after xs es
entries_after xs (Win w ∷ es) = entries_after xs es
entries_after xs (End w ∷ es) = entries_after xs es

-- the mark of a worker after the actions, where there were so many entries, and the mark was this
abbrev pub mark_after : ℕ → ℕ → ℕ → List Action → ℕ
mark_after w entries mark [] = mark
mark_after w entries mark (Share v c ∷ es) = mark_after w (entries + 1) mark es
mark_after w entries mark (TakeBatch v ∷ es) = mark_after w entries (if v == w then entries else mark) es
mark_after w entries mark (Win v ∷ es) = mark_after w entries mark es
mark_after w entries mark (End v ∷ es) = mark_after w entries mark es

-- over a shelf with these entries the action may come while workers are at work: a shared clause follows from the levels
abbrev pub MayFollow : Base → List Entry → Action → Type 0
MayFollow b xs (Share w c) = (length xs < most_entries) × IsSound b c
MayFollow b xs (TakeBatch w) = Unit {0}
MayFollow b xs (Win w) = ⊥
MayFollow b xs (End w) = ⊥

-- shares and batches alone, of n workers
abbrev pub Works : Base → ℕ → List Entry → List Action → Type 0
Works b n xs [] = Unit {0}
Works b n xs (e ∷ es) = (worker_of e < n) × MayFollow b xs e × Works b n (entries_after xs (e ∷ [])) es

-- an end of each of so many workers, from w on
abbrev pub ends_from : ℕ → ℕ → List Action
ends_from w zero = []
ends_from w (suc k) = End w ∷ ends_from (suc w) k

-- so many numbers, from w on
abbrev pub numbers_from : ℕ → ℕ → List ℕ
numbers_from w zero = []
numbers_from w (suc k) = w ∷ numbers_from (suc w) k

-- ---- as events

-- the assertions of a level at so many places, from place i on
abbrev pub assertions_from : ℕ → ℕ → ℕ → List Premise
assertions_from level i zero = []
assertions_from level i (suc n) = Asserted level i ∷ assertions_from level (suc i) n

-- all assertions of levels, of which the first has this number
abbrev pub premises_from : ℕ → List Frame → List Premise
premises_from level [] = []
premises_from level (f ∷ fs) = assertions_from level 0 (length (terms_of f)) ++ premises_from (suc level) fs

-- all assertions of the levels from 0 to l
abbrev pub premises_of : ℕ → List Frame → List Premise
premises_of l frames = premises_from 0 (up_to l frames)

-- a clause is learnt from the assertions before it is shared
abbrev pub events_of : Base → Action → List Event
events_of b (Share w c) = event.Learn w (premises_of c.level b.frames) c ∷ event.Share w c ∷ []
events_of b (TakeBatch w) = event.TakeBatch w ∷ []
events_of b (Win w) = event.Win w ∷ []
events_of b (End w) = event.End w ∷ []

abbrev pub events_in : Base → List Action → List Event
events_in b es = flat_map (events_of b) es
