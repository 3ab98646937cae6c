-- The race as a pure machine: its state, its events, and what each event does.
use Rattle.std.specs.Prelude.{◌≡◌, ℕ, zero, suc, ◌+◌, ◌-◌, ◌<◌, ◌≤◌, Bool, true, false, not, ◌&&◌, ◌||◌, nat_eq, nat_lt, List, [], ◌∷◌, ◌++◌, map, length, take, drop, filter, slice_set, slice_index_or, slice_get, Option, Some, None, IfSome, IsTrue, All, Contains}
use Rattle.std.specs.List.{AllZip}
use Rattle.smt_meaning.specs.Declaration.{Declaration}
use Rattle.smt_meaning.specs.declared.clauses.Clause.{Clause}
use Rattle.smt_meaning.specs.declared.tokens.Token.{Token}
use Rattle.smt_meaning.specs.declared.values.Sort.TheVariants.{Bool as Truths}
use Rattle.smt_meaning.specs.Term.{Tree, Interpretation}
use Rattle.smt_meaning.specs.Sexp.{sexp}
use Rattle.smt_meaning.specs.Interpretation.{Interprets}
use Rattle.smt_meaning.specs.Sorts.{Scope, done, judge}
use Rattle.smt_meaning.specs.Stack.{Assertion, Frame, Satisfies, signature_of, assertions_of, terms_of, depth, up_to, on_top, with_declared, pushed}
use Rattle.smt_meaning.specs.StackCommand.{in_assert}
use Rattle.smt_meaning.specs.Clause.{ClauseTrue, clause_symbols, places}
use Rattle.smt_meaning.specs.Follows.{declared_ids}
use Rattle.race_model.specs.declared.event.Entry.{Entry}
use Rattle.race_model.specs.declared.event.Formula.{Formula}
use Rattle.race_model.specs.declared.event.Addition.{Addition}
use Rattle.race_model.specs.declared.event.Premise.{Premise}
use Rattle.race_model.specs.declared.event.Premise.TheVariants.{Known, Asserted}
use Rattle.race_model.specs.declared.event.Event.{Event}
use Rattle.race_model.specs.declared.event.Event.TheVariants.{Learn, Share, TakeBatch, Win, End, Push, Pop, Assert}
use Rattle.race_model.specs.declared.state.Worker.{Worker}
use Rattle.race_model.specs.declared.state.RaceState.{RaceState}
use Rattle.race_model.specs.Base.{Base, base_of, assertion_of}

pub record State : Type 0 where
  pub base : Base
  -- the clauses that were shared, in order
  pub entries : List Entry
  pub workers : List Worker
  pub winner : Option ℕ
  -- declarations and definitions join level 0; no event changes this
  pub global : Bool

abbrev pub state_of : RaceState → State
state_of s = record { base = base_of s.levels; entries = s.entries.items; workers = s.workers.items; winner = s.winner; global = s.global }

-- the most entries that a race has
abbrev pub most_entries : ℕ
most_entries = 65536

-- the most levels above level 0
abbrev pub most_depth : ℕ
most_depth = 65535

-- a worker that has no number here has ended
abbrev pub nobody : Worker
nobody = record { own = []; mark = 0; ended = true }

abbrev pub worker_at : State → ℕ → Worker
worker_at s w = slice_index_or s.workers w nobody

abbrev pub IsRunning : State → ℕ → Type 0
IsRunning s w = (w < length s.workers) × ((worker_at s w).ended ≡ false)

-- ---- what a learnt clause rests on

-- the terms that a level asserts
abbrev pub terms_at : ℕ → List Frame → List Tree
terms_at k [] = []
terms_at zero (f ∷ fs) = terms_of f
terms_at (suc k) (f ∷ fs) = terms_at k fs

-- an own clause of the worker or an assertion, of a level that is at most l
abbrev pub Supports : State → ℕ → ℕ → Premise → Type 0
Supports s w l (Known c) = Contains (worker_at s w).own c × (c.level ≤ l)
Supports s w l (Asserted k i) = (i < length (terms_at k s.base.frames)) × (k ≤ l)

abbrev pub PremiseTrue : State → Interpretation → Premise → Type 0
PremiseTrue s I (Known c) = ClauseTrue s.base.trees I c
PremiseTrue s I (Asserted k i) = IfSome (slice_get (terms_at k s.base.frames) i) (Satisfies I)

-- whatever makes the premises true makes the clause true, and its symbols are declared at levels up to its own
pub record IsShown (s : State) (ps : List Premise) (c : Clause) : Type 0 where
  pub true_wherever : (I : Interpretation) → Interprets (signature_of (up_to c.level s.base.frames)) I → All (PremiseTrue s I) ps → ClauseTrue s.base.trees I c
  pub declared : All (Contains (declared_ids (up_to c.level s.base.frames))) (clause_symbols s.base.trees c)
  pub within : All (λ i. i < length s.base.trees) (places c.literals)

-- ---- what joins the levels

abbrev pub has_id : ℕ → List Declaration → Bool
has_id i [] = false
has_id i (d ∷ ds) = nat_eq i d.id || has_id i ds

-- each has an id that stands neither in the signature, nor among the others, nor in what comes after it
abbrev pub are_new : List Declaration → List Declaration → List Declaration → Bool
are_new signature others [] = true
are_new signature others (d ∷ ds) = not (has_id d.id signature || has_id d.id others || has_id d.id ds) && are_new signature others ds

-- the declarations and definitions of an addition, and the names that its term gives, are new
abbrev pub is_new : List Declaration → Addition → Bool
is_new signature a = are_new signature a.named a.declared && are_new signature [] a.named

-- the tokens are a Bool term over the declarations, with this tree, which gives these names
pub record IsBoolTerm (ds : List Declaration) (text : List Token) (t : Tree) (names : List Declaration) : Type 0 where
  -- how many ids were given before
  pub given : ℕ
  pub after : Scope
  pub judged : judge in_assert [] (sexp text) (record { signature = ds; given = given; trees = [] }) ≡ done (record { tree = t; sort = Truths }) after
  pub names_are : after.signature ≡ ds ++ names

-- the frames with the declarations and definitions of an addition
abbrev pub with_additions : State → Addition → List Frame
with_additions s a = with_declared s.global a.declared s.base.frames

abbrev pub IsStated : State → Addition → Option Formula → Type 0
IsStated s a None = a.named ≡ []
IsStated s a (Some f) = IsBoolTerm (signature_of (with_additions s a)) f.text (assertion_of s.base.trees f).term a.named

-- ---- when an event is a step

-- what no test finds out
abbrev pub Owes : State → Event → Type 0
Owes s (Learn w ps c) = IsShown s ps c
Owes s (Assert a) = IsStated s a a.formula
Owes s _ = Unit {0}

abbrev pub Passes : State → Event → Type 0
Passes s (Learn w ps c) = IsRunning s w × (c.level < length s.base.frames) × All (Supports s w c.level) ps
Passes s (Share w c) = IsRunning s w × (length s.entries < most_entries) × Contains (worker_at s w).own c
Passes s (TakeBatch w) = IsRunning s w
Passes s (Win w) = IsRunning s w × (s.winner ≡ None)
Passes s (End w) = IsRunning s w
Passes s (Push n) = depth s.base.frames + n ≤ most_depth
Passes s (Pop n) = n ≤ depth s.base.frames
Passes s (Assert a) = (0 < length s.base.frames) × IsTrue (is_new (signature_of s.base.frames) a)

abbrev pub Allowed : State → Event → Type 0
Allowed s e = Passes s e × Owes s e

-- ---- what an event does

abbrev pub with_worker : State → ℕ → Worker → State
with_worker s w x = record s { workers = slice_set s.workers w x }

abbrev pub with_frames : State → List Frame → State
with_frames s fs = record s { base = record s.base { frames = fs } }

abbrev pub clauses_of : List Entry → List Clause
clauses_of es = map (λ (e : Entry). e.clause) es

-- the clauses of levels below n, and such entries
abbrev pub clauses_below : ℕ → List Clause → List Clause
clauses_below n cs = filter (λ (c : Clause). nat_lt c.level n) cs

abbrev pub entries_below : ℕ → List Entry → List Entry
entries_below n es = filter (λ (e : Entry). nat_lt e.clause.level n) es

-- what a worker keeps where the levels below n stay: its mark becomes the number of entries before it that stay
abbrev pub cut_worker : ℕ → List Entry → Worker → Worker
cut_worker n es x = record { own = clauses_below n x.own; mark = length (entries_below n (take x.mark es)); ended = x.ended }

abbrev pub after_cut : ℕ → State → State
after_cut n s = record {
  base = record s.base { frames = take n s.base.frames };
  entries = entries_below n s.entries;
  workers = map (cut_worker n s.entries) s.workers;
  winner = s.winner;
  global = s.global;
}

-- a formula that is there or not, as a list
abbrev pub formulas_of : Option Formula → List Formula
formulas_of None = []
formulas_of (Some f) = f ∷ []

abbrev pub asserted_by : State → Addition → List Assertion
asserted_by s a = map (assertion_of s.base.trees) (formulas_of a.formula)

abbrev pub after : State → Event → State
after s (Learn w ps c) = with_worker s w (record (worker_at s w) { own = (worker_at s w).own ++ c ∷ [] })
after s (Share w c) = record s { entries = s.entries ++ record { clause = c; worker = w } ∷ [] }
after s (TakeBatch w) =
    with_worker s w (record { own = (worker_at s w).own ++ clauses_of (drop (worker_at s w).mark s.entries); mark = length s.entries; ended = (worker_at s w).ended })
after s (Win w) = record s { winner = Some w }
after s (End w) = with_worker s w (record (worker_at s w) { ended = true })
after s (Push n) = with_frames s (pushed n s.base.frames)
after s (Pop n) = after_cut (length s.base.frames - n) s
after s (Assert a) = with_frames s (on_top a.named (asserted_by s a) (with_additions s a))

-- it was a step, or it is none and nothing changed
abbrev pub StepTells : State → Event → Bool → State → Type 0
StepTells s e true t = Allowed s e × (t ≡ after s e)
StepTells s e false t = (Passes s e → ⊥) × (t ≡ s)

-- ---- races and runs

-- the events can be made in this order, and lead from the one state to the other
abbrev pub IsRace : State → List Event → State → Type 0
IsRace s [] t = t ≡ s
IsRace s (e ∷ es) t = Allowed s e × IsRace (after s e) es t

-- a worker begins a next race with any part of its own clauses
pub record BeginsAgain (x y : Worker) : Type 0 where
  pub own : All (Contains x.own) y.own
  pub mark : y.mark ≡ 0
  pub ended : y.ended ≡ false

-- a next race begins where the one before stopped, with no winner; the list of trees may have gone on
pub record BeginsAfter (s t : State) : Type 0 where
  pub frames : t.base.frames ≡ s.base.frames
  pub trees : (more : List Tree) × (t.base.trees ≡ s.base.trees ++ more)
  pub entries : t.entries ≡ s.entries
  pub winner : t.winner ≡ None
  pub global : t.global ≡ s.global
  pub workers : AllZip BeginsAgain s.workers t.workers

-- a worker that has no clause, has read nothing and is at work
abbrev pub fresh_worker : Worker
fresh_worker = record { own = []; mark = 0; ended = false }

-- the first race begins with no assertion, entry or own clause, and whether declarations are global is one for the whole run
pub record IsStart (s : State) : Type 0 where
  pub asserted : assertions_of s.base.frames ≡ []
  pub entries : s.entries ≡ []
  pub workers : All (λ (x : Worker). x ≡ fresh_worker) s.workers
  pub winner : s.winner ≡ None

-- races, one after another, from a first state to a last one
pub data IsRun : State → List (List Event) → State → Type 0 where
  no_race : {s : State} → IsRun s [] s
  race : {s t u v : State} {es : List Event} {rest : List (List Event)} → IsRace s es t → BeginsAfter t u → IsRun u rest v → IsRun s (es ∷ rest) v
