-- What stays true of a store.
use Rattle.std.proofs.Common.{◌≡◌, ℕ, ◌+◌, ◌^◌, ◌<◌, ◌≤◌, true, List, [], ◌∷◌, ◌++◌, All, Contains, length, take, drop, subst, sym, ap, ◌∙◌, refl, arith, None, zero-add, ◌*◌, Option}
use Rattle.std.proofs.lemmas.List.{take_at, take-append-le, get_or_append_left, length-append, length_push}
use Rattle.std.proofs.lemmas.List.Elements.{All-contains, All-push, All-weaker, Contains-append_left}
use Rattle.literals.specs.Signed.{Signed, packed}
use Rattle.clause_store.specs.Assigned.{Assigned}
use Rattle.clause_store.specs.Each.{EachAfter}
use Rattle.clause_store.specs.Trail.{up_to}
use Rattle.clause_store.specs.declared.trail.Step.{Step}
use Rattle.clause_store.specs.Stored.{Kept, Stored, IsJustified, Propagated, IsQuiet, AllFalse}
use Rattle.clause_store.specs.Found.{HasKept}
use Rattle.clause_store.specs.Entries.{Entry, entry_at}
use Rattle.clause_store.specs.Empties.{NamesEmpty, all_filled}
use Rattle.clause_store.specs.Visits.{Parts}
use Rattle.clause_store.specs.Watching.{IsWatching, Grows, kept_from, kept_of}
use Rattle.clause_store.specs.Gaining.{GainsEntry, KeepsUp}
use Rattle.clause_store.proofs.Turning.{code_within}
use Rattle.clause_store.specs.Keeping.{IsKept, IsTight}
use Rattle.clause_store.specs.Rested.{Rested}
use Rattle.clause_store.specs.Driving.{Drives, DriveGives, IsQuietAll}
use Rattle.clause_store.specs.declared.run.Reached.TheVariants.{Fixpoint}
use Rattle.clause_store.specs.Runs.{IsFalseAt}
use Rattle.clause_store.proofs.Kept.{Grows-none, EachAfter-append, EachAfter-push, All-kept, has_kept, kept_in}
use Rattle.clause_store.proofs.Adding.{kept_from-push}
use Rattle.clause_store.proofs.Depths.{settled_quiet, Rested-done, Rested-decide, Rested-undo, up_to-all}
use Rattle.clause_store.specs.declared.lists.Watch.{Watch}
use Rattle.clause_store.specs.declared.waits.Wait.{Wait}

same_trail : (t : Assigned) (steps : List Step) (atoms depth : ℕ) → t.steps ≡ steps → t.atoms ≡ atoms → t.depth ≡ depth → let u : Assigned = record { steps = steps; atoms = atoms; depth = depth } in t ≡ u
same_trail t steps atoms depth s a d =
    ap (λ (x : List Step). let u : Assigned = record { steps = x; atoms = t.atoms; depth = t.depth } in u) s
    ∙ (ap (λ (x : ℕ). let u : Assigned = record { steps = steps; atoms = x; depth = t.depth } in u) a
    ∙ ap (λ (x : ℕ). let u : Assigned = record { steps = steps; atoms = atoms; depth = x } in u) d)

pub Propagated-grows : (clauses clauses' : List Kept) (t t' : Assigned) → Grows clauses t.depth t.steps t'.steps → clauses' ≡ clauses → t'.atoms ≡ t.atoms → t'.depth ≡ t.depth
    → Propagated (record { clauses = clauses; trail = t }) (record { clauses = clauses'; trail = t' })
Propagated-grows clauses clauses' t t' grows e a d = record {
  added = grows.added;
  gains =
      ap (λ (cs : List Kept). let s : Stored = record { clauses = cs; trail = t' } in s) e
      ∙ ap (λ (x : Assigned). let s : Stored = record { clauses = clauses; trail = x } in s) (same_trail t' (t.steps ++ grows.added) t.atoms t.depth grows.gains a d);
  reached = grows.reached;
}

pub Propagated-none : (a : Stored) → Propagated a a
Propagated-none a = Propagated-grows a.clauses a.clauses a.trail a.trail (Grows-none a.clauses a.trail.depth a.trail.steps) refl refl refl

pub justified-grown : (clauses : List Kept) (depth : ℕ) (old new : List Step) → Grows clauses depth old new → EachAfter (IsJustified clauses) old → EachAfter (IsJustified clauses) new
justified-grown clauses depth old new h each =
    subst (EachAfter (IsJustified clauses)) (sym h.gains)
    (EachAfter-append (IsJustified clauses) old h.added each (λ k d lt id e. h.reached.forced k d lt))

pub known_live : (atoms : ℕ) (es : List Entry) → All (λ (c : Kept). All (λ (l : Signed). l.atom < atoms) c.literals) (kept_from 0 es) → (i : ℕ) → (entry_at es i).live ≡ true → All (λ (l : Signed). l.atom < atoms) (entry_at es i).literals
known_live atoms es h i live = All-contains (λ (c : Kept). All (λ (l : Signed). l.atom < atoms) c.literals) (kept_from 0 es) (kept_of (0 + i) (entry_at es i)) h (kept_in 0 es i live)

pub tight-driven : (es' : List Entry) (lists' : List (List Watch)) (t t' : Assigned) (head' : ℕ) (ws' : List Wait) → t'.atoms ≡ t.atoms → t'.depth ≡ t.depth
    → Drives t.atoms t.depth (record { entries = es'; lists = lists'; steps = t'.steps }) head' ws' → IsTight es' lists' t' head' ws'
tight-driven es' lists' t t' head' ws' a d dr = record {
  watch = subst (λ n. IsWatching n es' lists') (sym a) dr.watch;
  rested = subst (λ n. Rested es' t'.steps n head' head' ws') (sym d) dr.rested;
}

-- the store after steps that its clauses force
pub IsKept-settled : (es es' : List Entry) (lists lists' : List (List Watch)) (t t' : Assigned) (head head' : ℕ) (ws ws' : List Wait) (empty : Option ℕ) → IsKept es lists t head ws empty
    → Grows (kept_from 0 es) t.depth t.steps t'.steps → kept_from 0 es' ≡ kept_from 0 es → length es' ≡ length es → t'.atoms ≡ t.atoms → NamesEmpty es' empty → IsTight (all_filled es') lists' t' head' ws'
    → IsKept es' lists' t' head' ws' empty
IsKept-settled es es' lists lists' t t' head head' ws ws' empty h grows e count a names tight = record {
  empty_is = names;
  known = subst (λ cs. All (λ (c : Kept). All (λ (l : Signed). l.atom < t'.atoms) c.literals) cs) (sym e) (subst (λ n. All (λ (c : Kept). All (λ (l : Signed). l.atom < n) c.literals) (kept_from 0 es)) (sym a) h.known);
  justified = subst (λ cs. EachAfter (IsJustified cs) t'.steps) (sym e) (justified-grown (kept_from 0 es) t.depth t.steps t'.steps grows h.justified);
  small = subst (λ n. n < 2 ^ 32) (sym count) h.small;
  tight = tight;
}

pub tight-settled : (es' : List Entry) (lists' : List (List Watch)) (t t' : Assigned) (head' : ℕ) (ws ws' : List Wait) → t'.atoms ≡ t.atoms → t'.depth ≡ t.depth
    → DriveGives t.atoms t.depth (record { entries = es'; lists = lists'; steps = t'.steps }) head' ws Fixpoint
    → ((w : Wait) → Contains ws w → w.depth < t'.depth → Contains ws' w) → ((w : Wait) → Contains ws' w → Contains ws w × (w.depth < t'.depth)) → IsTight es' lists' t' head' ws'
tight-settled es' lists' t t' head' ws ws' a d gives keeps only =
    let driven : IsTight es' lists' t' head' ws = tight-driven es' lists' t t' head' ws a d gives.0 in
    record {
      watch = driven.watch;
      rested = Rested-done es' t'.steps t'.depth head' head' ws ws' gives.2 gives.1.settled keeps only driven.rested;
    }

pub all_quiet : (atoms : ℕ) (p : Parts) → IsWatching atoms p.entries p.lists → IsQuietAll p → All (λ (c : Kept). IsQuiet p.steps c.literals) (kept_from 0 p.entries)
all_quiet atoms p w q = All-kept (IsQuiet p.steps) 0 p.entries (λ i live. settled_quiet p.steps (entry_at p.entries i) (w.pairs i live) q.consistent (q.settled i live))

pub false_kept : (p : Parts) (row : ℕ) → IsFalseAt p row → HasKept (kept_from 0 p.entries) row (AllFalse p.steps)
false_kept p row h = has_kept (AllFalse p.steps) p.entries row h.live h.all_false

-- a slice put back into its `Vec`
pub back_whole : {X : Type 0} (new items : List X) (n : ℕ) → length new ≡ n → take n (new ++ drop (length new) items) ≡ new
back_whole new items n e = take_at new (drop (length new) items) n e

pub lists_back : {X : Type 0} (new items : List X) (n : ℕ) (P : List X → Type 0) → length new ≡ n → P new → P (take n (new ++ drop (length new) items))
lists_back new items n P e h = subst P (sym (back_whole new items n e)) h

pub IsKept-decide : (es : List Entry) (lists : List (List Watch)) (t : Assigned) (head : ℕ) (ws : List Wait) (empty : Option ℕ) (s : Step) → IsKept es lists t head ws empty
    → s.reason ≡ None → s.depth ≡ t.depth + 1 → IsKept es lists (record { steps = t.steps ++ s ∷ []; atoms = t.atoms; depth = t.depth + 1 }) head ws empty
IsKept-decide es lists t head ws empty s h reason deep = record {
  empty_is = h.empty_is;
  known = h.known;
  justified = EachAfter-push (IsJustified (kept_from 0 es)) t.steps s h.justified (λ id e. cc);
  small = h.small;
  tight = record { watch = h.tight.watch; rested = Rested-decide (all_filled es) t.steps t.depth head head ws s deep h.tight.rested };
}

EachAfter-front : {X : Type 0} (P : List X → X → Type 0) (xs ys : List X) → EachAfter P (xs ++ ys) → EachAfter P xs
EachAfter-front P xs ys each k d h = rw (take-append-le k xs ys (omega arith), get_or_append_left xs ys d k h) at (each k d (omega (arith, length-append xs ys)))

pub IsKept-undo : (es : List Entry) (lists : List (List Watch)) (t t' : Assigned) (rest : List Step) (head head' : ℕ) (ws ws' : List Wait) (empty : Option ℕ) → IsKept es lists t head ws empty
    → t'.atoms ≡ t.atoms → t.steps ≡ t'.steps ++ rest → IsTight (all_filled es) lists t' head' ws' → IsKept es lists t' head' ws' empty
IsKept-undo es lists t t' rest head head' ws ws' empty h a e tight = record {
  empty_is = h.empty_is;
  known = subst (λ n. All (λ (c : Kept). All (λ (l : Signed). l.atom < n) c.literals) (kept_from 0 es)) (sym a) h.known;
  justified = EachAfter-front (IsJustified (kept_from 0 es)) t'.steps rest (subst (EachAfter (IsJustified (kept_from 0 es))) e h.justified);
  small = h.small;
  tight = tight;
}

pub tight-same : (es : List Entry) (lists : List (List Watch)) (t : Assigned) (d head : ℕ) (ws : List Wait) → d ≤ t.depth → t.depth ≤ d → IsTight es lists t head ws
    → IsTight es lists (record { steps = up_to d t.steps; atoms = t.atoms; depth = d }) head ws
tight-same es lists t d head ws le ge h =
    let e : t.depth ≡ d = omega arith in
    record {
      watch = h.watch;
      rested = subst (λ n. Rested es (up_to n t.steps) n head head ws) e (subst (λ ss. Rested es ss t.depth head head ws) (sym (up_to-all t.depth t.steps h.rested.deepest)) h.rested);
    }

pub tight-undo : (es : List Entry) (lists : List (List Watch)) (t : Assigned) (d head head' : ℕ) (ws ws' : List Wait) → head' ≤ head → head' ≤ length (up_to d t.steps)
    → ((w : Wait) → Contains ws w → w.depth < d + 1 → Contains ws' w) → ((w : Wait) → Contains ws' w → Contains ws w × (w.depth < d + 1)) → IsTight es lists t head ws
    → IsTight es lists (record { steps = up_to d t.steps; atoms = t.atoms; depth = d }) head' ws'
tight-undo es lists t d head head' ws ws' le within keeps only h = record { watch = h.watch; rested = Rested-undo es t.steps t.depth head head d ws ws' head' h.rested le within keeps only }

-- a clause more
pub IsKept-add : (es : List Entry) (lists lists' : List (List Watch)) (t : Assigned) (head : ℕ) (ws ws' : List Wait) (empty empty' : Option ℕ) (e : Entry) → IsKept es lists t head ws empty → e.live ≡ true
    → All (λ (l : Signed). l.atom < t.atoms) e.literals → length es + 1 < 2 ^ 32 → NamesEmpty (es ++ e ∷ []) empty' → IsTight (all_filled (es ++ e ∷ [])) lists' t head ws' → IsKept (es ++ e ∷ []) lists' t head ws' empty'
IsKept-add es lists lists' t head ws ws' empty empty' e h live known small names tight =
    let c : Kept = kept_of (0 + length es) e in
    let more : kept_from 0 (es ++ e ∷ []) ≡ kept_from 0 es ++ c ∷ [] = kept_from-push 0 es e live in
    record {
      known = subst (All (λ (k : Kept). All (λ (l : Signed). l.atom < t.atoms) k.literals)) (sym more) (All-push (λ (k : Kept). All (λ (l : Signed). l.atom < t.atoms) k.literals) (kept_from 0 es) c h.known known);
      justified = subst (λ cs. EachAfter (IsJustified cs) t.steps) (sym more)
          (λ k d lt id r. let f = h.justified k d lt id r in record { by = f.by; kept = Contains-append_left (kept_from 0 es) (c ∷ []) f.by f.kept; reason = f.reason; unit = f.unit });
      small = omega (arith, length_push es e);
      empty_is = names;
      tight = tight;
    }

pub stored_more : (es es' : List Entry) (ls : List Signed) (level : ℕ) (t : Assigned) → GainsEntry es es' ls level
    → let kept : Kept = record { id = length es; literals = ls; level = level } in let a : Stored = record { clauses = kept_from 0 es'; trail = t } in let b : Stored = record { clauses = kept_from 0 es ++ kept ∷ []; trail = t } in a ≡ b
stored_more es es' ls level t g =
    let stored : List Kept → Stored = λ cs. record { clauses = cs; trail = t } in
    ap (λ (xs : List Entry). stored (kept_from 0 xs)) g.gains
    ∙ (ap stored (kept_from-push 0 es g.entry g.live)
    ∙ (ap (λ n. stored (kept_from 0 es ++ kept_of n g.entry ∷ [])) (zero-add (length es))
    ∙ (ap (λ (xs : List Signed). let k : Kept = record { id = length es; literals = xs; level = g.entry.level } in stored (kept_from 0 es ++ k ∷ [])) g.literals
    ∙ ap (λ (n : ℕ). let k : Kept = record { id = length es; literals = ls; level = n } in stored (kept_from 0 es ++ k ∷ [])) g.level_is)))

pub IsKept-gains : (es es' : List Entry) (ls : List Signed) (level : ℕ) (lists lists' : List (List Watch)) (t : Assigned) (head : ℕ) (ws ws' : List Wait) (empty empty' : Option ℕ) → GainsEntry es es' ls level → IsKept es lists t head ws empty
    → All (λ (l : Signed). l.atom < t.atoms) ls → length es + 1 < 2 ^ 32 → NamesEmpty es' empty' → IsTight (all_filled es') lists' t head ws' → IsKept es' lists' t head ws' empty'
IsKept-gains es es' ls level lists lists' t head ws ws' empty empty' g h known small names tight =
    subst (λ xs. IsKept xs lists' t head ws' empty') (sym g.gains)
    (IsKept-add es lists lists' t head ws ws' empty empty' g.entry h g.live (subst (All (λ (l : Signed). l.atom < t.atoms)) (sym g.literals) known) small
    (subst (λ xs. NamesEmpty xs empty') g.gains names)
    (subst (λ xs. IsTight (all_filled xs) lists' t head ws') g.gains tight))

pub tight-kept : (es es' : List Entry) (lists lists' : List (List Watch)) (t : Assigned) (head : ℕ) (ws ws' : List Wait) → KeepsUp t.atoms t.steps es es' lists lists' ws ws' → IsTight es lists t head ws → IsTight es' lists' t head ws'
tight-kept es es' lists lists' t head ws ws' k h =
    let r = k head head t.depth (record { watch = h.watch; rested = h.rested }) in
    record { watch = r.watch; rested = r.rested }

pub codes_within : (atoms n : ℕ) (ls : List Signed) → 2 * atoms ≤ n → All (λ (l : Signed). l.atom < atoms) ls → All (λ (l : Signed). packed l < n) ls
codes_within atoms n ls le h = All-weaker (λ (l : Signed). l.atom < atoms) (λ (l : Signed). packed l < n) (λ l lt. code_within l atoms n lt le) ls h

pub gains_new : (es : List Entry) (e : Entry) → e.live ≡ true → GainsEntry es (es ++ e ∷ []) e.literals e.level
gains_new es e live = record { entry = e; gains = refl; literals = refl; level_is = refl; live = live }
