-- Propagation, from what waits to the last step.
use Rattle.std.proofs.Common.{◌≡◌, ℕ, ◌<◌, ◌≤◌, List, [], Contains, length, take, get_or, set, subst, sym, ◌⊎◌, arith}
use Rattle.std.proofs.lemmas.List.Elements.{All-contains}
use Rattle.literals.specs.Signed.{Signed, packed}
use Rattle.clause_store.specs.Trail.{Assigns, up_to}
use Rattle.clause_store.specs.declared.trail.Step.{Step}
use Rattle.clause_store.specs.Stored.{IsFalseOn}
use Rattle.clause_store.specs.Entries.{Entry, entry_at, watches_of}
use Rattle.clause_store.specs.Visits.{Parts}
use Rattle.clause_store.specs.Watching.{IsSettled, SameShape, IsWatching, Grows, kept_from}
use Rattle.clause_store.specs.Sweeps.{State}
use Rattle.clause_store.specs.Rested.{Rested, IsWaiting, Waits}
use Rattle.clause_store.specs.Forcing.{AllForced}
use Rattle.clause_store.specs.From.{AreLast}
use Rattle.clause_store.specs.Runs.{Runs, RunGives, IsFalseAt}
use Rattle.clause_store.specs.Driving.{Drives, DriveGives}
use Rattle.clause_store.specs.Late.{LateCovers, LateHolds, LateSweptGives, LateTurnGives}
use Rattle.clause_store.specs.declared.lists.Watch.{Watch}
use Rattle.clause_store.specs.declared.waits.Wait.{Wait}
use Rattle.clause_store.specs.declared.sweep.Swept.{Swept}
use Rattle.clause_store.specs.declared.sweep.Swept.TheVariants.{Whole, False as FalseClause}
use Rattle.clause_store.specs.declared.run.Reached.{Reached}
use Rattle.clause_store.specs.declared.run.Reached.TheVariants.{Fixpoint, False as FalseReached}
use Rattle.clause_store.proofs.Filters.{up_to-assigns}
use Rattle.clause_store.proofs.Forces.{OthersFalse-more}
use Rattle.clause_store.proofs.Kept.{Grows-assigns}
use Rattle.clause_store.proofs.Looks.{all_false}
use Rattle.clause_store.proofs.Turning.{code_within, list_is}
use Rattle.clause_store.proofs.Depths.{Rested-grown, Rested-none, Rested-run, Rested-lasts, up_to-all, whole}
use Rattle.clause_store.proofs.LateDepths.{Late-whole, Late-back}

-- ---- one late step

pub late-turn : (atoms depth : ℕ) (f : Signed) (es : List Entry) (lists : List (List Watch)) (steps : List Step) (spare list d : List Watch) (code : ℕ) (s' : State) (r : Swept) (ws ws' : List Wait) (head : ℕ) → code ≡ packed f → list ≡ get_or lists code d → f.atom < atoms → IsWatching atoms es lists
    → LateSweptGives atoms depth f (record { entries = es; lists = set lists code spare; steps = steps; list = list }) s' ws ws' r → LateCovers head f es steps (watches_of lists f) 0 ws
    → LateTurnGives atoms depth head (record { entries = es; lists = lists; steps = steps }) (record { entries = s'.entries; lists = set s'.lists (packed f) s'.list; steps = s'.steps }) ws' r
late-turn atoms depth f es lists steps spare list d code s' Whole ws ws' head e is lt w h c =
    let same : list ≡ watches_of lists f = list_is lists f code list d e is (code_within f atoms (length lists) lt w.room) in
    let cs : LateCovers head f s'.entries s'.steps s'.list (length s'.list) ws' = h.covers head (subst (λ xs. LateCovers head f es steps xs 0 ws) (sym same) c) in
    let within : head < length s'.steps = cs.within in
    (record { watch = h.watch; covered = Late-whole head f s'.entries s'.steps s'.list (length s'.list) ws' (omega arith) cs; ready = h.ready; within = omega arith }, h.shape)
late-turn atoms depth f es lists steps spare list d code s' (FalseClause row) ws ws' head e is lt w h c =
    let same : list ≡ watches_of lists f = list_is lists f code list d e is (code_within f atoms (length lists) lt w.room) in
    let cs : LateCovers head f s'.entries s'.steps s'.list h.place ws' = h.sweeps.covers head (subst (λ xs. LateCovers head f es steps xs 0 ws) (sym same) c) in
    let within : head < length s'.steps = cs.within in
    (record { watch = h.sweeps.watch; covered = Late-back head f s'.entries s'.steps s'.list h.place ws' cs; ready = h.sweeps.ready; within = omega arith }, record { live = h.live; all_false = h.all_false })

-- ---- all steps

pub holds-rested : (atoms depth : ℕ) (p : Parts) (ws : List Wait) (head : ℕ) → IsWatching atoms p.entries p.lists → AllForced p.steps ws → Rested p.entries p.steps depth head head ws → LateHolds atoms depth p ws head
holds-rested atoms depth p ws head watch forced h = record {
  watch = watch;
  covered = λ i live d. h.each d i live;
  ready = record { deepest = h.deepest; waiting = h.waiting; forced = forced };
  within = h.head_within;
}

pub rested-holds : (atoms depth : ℕ) (p : Parts) (ws : List Wait) (head : ℕ) → LateHolds atoms depth p ws head → Rested p.entries p.steps depth head head ws
rested-holds atoms depth p ws head h = record {
  deepest = h.ready.deepest;
  head_within = h.within;
  lasting_within = h.within;
  current = λ i live. subst (λ xs. IsSettled (take head xs) xs (entry_at p.entries i) ⊎ Waits ws i depth) (up_to-all depth p.steps h.ready.deepest) (h.covered i live depth);
  each = λ d i live. h.covered i live d;
  waiting = h.ready.waiting;
}

pub drives-holds : (atoms depth : ℕ) (p : Parts) (ws : List Wait) (head : ℕ) → LateHolds atoms depth p ws head → Drives atoms depth p head ws
drives-holds atoms depth p ws head h = record { watch = h.watch; rested = rested-holds atoms depth p ws head h }

drives-run : (atoms depth : ℕ) (p p' : Parts) (ws : List Wait) (head head' : ℕ) → Grows (kept_from 0 p.entries) depth p.steps p'.steps → LateHolds atoms depth p ws head → AreLast p.steps depth head → head' ≤ length p'.steps → Runs atoms p p' head head' → Drives atoms depth p' head' ws
drives-run atoms depth p p' ws head head' grows h last within r = record {
  watch = r.watch;
  rested = Rested-lasts p'.entries (kept_from 0 p.entries) p.steps p'.steps depth head' head ws grows last
      (Rested-run atoms (kept_from 0 p.entries) p p' depth head head' head ws grows within h.ready.forced (rested-holds atoms depth p ws head h) r);
}

pub drive-run : (atoms depth : ℕ) (p p' : Parts) (ws : List Wait) (head head' : ℕ) (r : Reached) → Grows (kept_from 0 p.entries) depth p.steps p'.steps → LateHolds atoms depth p ws head → AreLast p.steps depth head → RunGives atoms p p' head head' r → DriveGives atoms depth p' head' ws r
drive-run atoms depth p p' ws head head' Fixpoint grows h last g =
    let at_end : head' ≡ length p'.steps = g.1 in (
      drives-run atoms depth p p' ws head head' grows h last (omega arith) g.0,
      record {
        consistent = g.2;
        settled = λ i live. subst (λ xs. IsSettled xs p'.steps (entry_at p'.entries i)) (whole head' p'.steps g.1)
            ((g.0.rests [] (Rested-none p.entries p.steps depth head head ws h.ready.forced (rested-holds atoms depth p ws head h))).current i live);
      },
      g.1,
    )
drive-run atoms depth p p' ws head head' (FalseReached row) grows h last g = (drives-run atoms depth p p' ws head head' grows h last g.2 g.0, g.1)

pub drive-false : (atoms depth : ℕ) (es : List Entry) (lists : List (List Watch)) (old new : List Step) (ws : List Wait) (head : ℕ) (w : Wait) → IsWatching atoms es lists → Grows (kept_from 0 es) depth old new → Rested es old depth head head ws → Contains ws w → IsFalseOn new w.literal
    → Drives atoms depth (record { entries = es; lists = lists; steps = new }) head ws × IsFalseAt (record { entries = es; lists = lists; steps = new }) w.row
drive-false atoms depth es lists old new ws head w watch grows h contained is_false =
    let more : (l : Signed) → Assigns old l → Assigns new l = λ l a. Grows-assigns (kept_from 0 es) depth old new l grows a in
    let here : IsWaiting es old w = All-contains (IsWaiting es old) ws w h.waiting contained in (
      record { watch = watch; rested = Rested-grown (kept_from 0 es) es old new depth head head ws grows h },
      record {
        live = here.live;
        all_false = all_false new w.literal (entry_at es w.row).literals is_false (OthersFalse-more (up_to w.depth old) new (entry_at es w.row).literals w.literal (λ l a. more l (up_to-assigns w.depth old l a)) here.rest);
      },
    )

pub late_shape : (atoms depth : ℕ) (f : Signed) (s s' : State) (ws ws' : List Wait) (r : Swept) → LateSweptGives atoms depth f s s' ws ws' r → SameShape s.entries s'.entries
late_shape atoms depth f s s' ws ws' Whole h = h.shape
late_shape atoms depth f s s' ws ws' (FalseClause row) h = h.sweeps.shape
