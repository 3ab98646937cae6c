-- Sums over views of which one changes, and histories that grow at their end.
use Rattle.std.proofs.Common.{◌≡◌, ℕ, zero, suc, ◌+◌, ◌*◌, ◌/◌, ◌%◌, ◌<◌, ◌≤◌, ◌≢◌, Bool, true, false, List, [], ◌∷◌, ◌++◌, length, set, take, drop, eqb, sym, refl, ap, ◌∙◌, arith, eq-eqb, ne_eqb, append_assoc, append-nil, length-append, if◌then◌else◌}
use Rattle.std.proofs.Math.Nat.{mod-add-div, add-mul-mod_self_left}
use mathlib.Core.Option.{some, some-injective, some-ne-none}
use lib.ListN.{get_elem?}
use Rattle.std.proofs.lemmas.List.{take-append-le, drop-append-le, take-append-drop}
use Rattle.std.proofs.lemmas.List.Elements.{filter-append}
use Rattle.smt_meaning.specs.declared.clauses.Clause.{Clause}
use Rattle.race_model.specs.Base.{Base}
use Rattle.race_model.specs.declared.event.Entry.{Entry}
use Rattle.race_cell.specs.declared.action.Action.{Action}
use Rattle.race_cell.specs.declared.action.Action.TheVariants.{Share, TakeBatch, Win, End}
use Rattle.race_cell.specs.Actions.{worker_of, actions_by, entries_after, mark_after, MayFollow, Works}
use Rattle.race_cell.specs.Rules.{total, history, last_share}

module _ {A : Type 0} (g : A → ℕ) where
  pub total-append : (l m : List A) → total g (l ++ m) ≡ total g l + total g m
  total-append [] m = omega arith
  total-append (x ∷ xs) m = omega (arith, total-append xs m)

  pub total-set : (l : List A) (j : ℕ) (v w : A) → get_elem? l j ≡ some v → total g (set l j w) + g v ≡ total g l + g w
  total-set [] j v w e = absurd (some-ne-none v (sym e))
  total-set (x ∷ xs) zero v w e = omega (arith, ap g (some-injective x v e))
  total-set (x ∷ xs) (suc j) v w e = omega (arith, total-set xs j v w e)

  pub term_le : (l : List A) (j : ℕ) (v : A) → get_elem? l j ≡ some v → g v ≤ total g l
  term_le [] j v e = absurd (some-ne-none v (sym e))
  term_le (x ∷ xs) zero v e = omega (arith, ap g (some-injective x v e))
  term_le (x ∷ xs) (suc j) v e = omega (arith, term_le xs j v e)

  pub terms_le : (l : List A) (j k : ℕ) (v u : A) → k ≢ j → get_elem? l j ≡ some v → get_elem? l k ≡ some u → g v + g u ≤ total g l
  terms_le [] j k v u n e d = absurd (some-ne-none v (sym e))
  terms_le (x ∷ xs) zero zero v u n e d = absurd (n refl)
  terms_le (x ∷ xs) zero (suc k) v u n e d = omega (arith, ap g (some-injective x v e), term_le xs k u d)
  terms_le (x ∷ xs) (suc j) zero v u n e d = omega (arith, ap g (some-injective x u d), term_le xs j v e)
  terms_le (x ∷ xs) (suc j) (suc k) v u n e d = omega (arith, terms_le xs j k v u (λ h. n (ap suc h)) e d)

-- the worker's own event, and another's
pub by_own : (w : ℕ) (e : Action) → worker_of e ≡ w → actions_by w (e ∷ []) ≡ e ∷ []
by_own w e is = rw (eq-eqb (worker_of e) w is)

pub by_other : (w : ℕ) (e : Action) → worker_of e ≢ w → actions_by w (e ∷ []) ≡ []
by_other w e ne = rw (ne_eqb (worker_of e) w ne)

pub by-append : (w : ℕ) (xs ys : List Action) → actions_by w (xs ++ ys) ≡ actions_by w xs ++ actions_by w ys
by-append w xs ys = filter-append (λ e. eqb (worker_of e) w) xs ys

pub history-append : (winner at : ℕ) (log : List Action) (e : Action) → at ≤ length log → history winner at (log ++ e ∷ []) ≡ history winner at log ++ e ∷ []
history-append zero at log e le = refl
history-append (suc w) at log e le = rw (take-append-le at log (e ∷ []) le, drop-append-le at log (e ∷ []) le) (sym (append_assoc (take at log) (Win w ∷ drop at log) (e ∷ [])))

-- a win of another worker does not show among the events of a worker
pub history_other : (w x at : ℕ) (log : List Action) → w ≢ x → actions_by x (history (suc w) at log) ≡ actions_by x log
history_other w x at log ne =
    by-append x (take at log) (Win w ∷ drop at log)
    ∙ (ap (λ l. actions_by x (take at log) ++ l) (by-append x (Win w ∷ []) (drop at log) ∙ ap (λ l. l ++ actions_by x (drop at log)) (by_other x (Win w) ne))
    ∙ (sym (by-append x (take at log) (drop at log)) ∙ ap (actions_by x) (take-append-drop at log)))

-- a win after all that the worker has done is its last event
pub history_own : (w : ℕ) (seen since : List Action) → actions_by w since ≡ [] → actions_by w (history (suc w) (length seen) (seen ++ since)) ≡ actions_by w (seen ++ since) ++ Win w ∷ []
history_own w seen since none =
    rw (take-append-le (length seen) seen since (le_r (length seen)), drop-append-le (length seen) seen since (le_r (length seen)), take_whole seen, drop_whole seen)
    (by-append w seen (Win w ∷ since)
    ∙ (ap (λ l. actions_by w seen ++ l) (by-append w (Win w ∷ []) since ∙ (ap (λ l. actions_by w (Win w ∷ []) ++ l) none ∙ (append-nil (actions_by w (Win w ∷ [])) ∙ by_own w (Win w) refl)))
    ∙ ap (λ l. l ++ Win w ∷ []) (sym (by-append w seen since ∙ (ap (λ l. actions_by w seen ++ l) none ∙ append-nil (actions_by w seen))))))
  where
    le_r : (n : ℕ) → n ≤ n
    le_r n = omega arith

    take_whole : (l : List Action) → take (length l) l ≡ l
    take_whole [] = refl
    take_whole (x ∷ xs) = ap (λ l. x ∷ l) (take_whole xs)

    drop_whole : (l : List Action) → drop (length l) l ≡ []
    drop_whole [] = refl
    drop_whole (x ∷ xs) = drop_whole xs

pub last_share-push : (xs : List Entry) (c : Clause) (w : ℕ) → last_share (xs ++ record { clause = c; worker = w } ∷ []) ≡ Share w c
last_share-push [] c w = refl
last_share-push (x ∷ []) c w = refl
last_share-push (x ∷ y ∷ xs) c w = last_share-push (y ∷ xs) c w

pub entries_after-share : (xs : List Entry) (es : List Action) (w : ℕ) (c : Clause) → entries_after xs (es ++ Share w c ∷ []) ≡ entries_after xs es ++ record { clause = c; worker = w } ∷ []
entries_after-share xs [] w c = refl
entries_after-share xs (Share v d ∷ es) w c = entries_after-share (xs ++ record { clause = d; worker = v } ∷ []) es w c
entries_after-share xs (TakeBatch v ∷ es) w c = entries_after-share xs es w c
entries_after-share xs (Win v ∷ es) w c = entries_after-share xs es w c
entries_after-share xs (End v ∷ es) w c = entries_after-share xs es w c

pub entries_after-batch : (xs : List Entry) (es : List Action) (w : ℕ) → entries_after xs (es ++ TakeBatch w ∷ []) ≡ entries_after xs es
entries_after-batch xs [] w = refl
entries_after-batch xs (Share v d ∷ es) w = entries_after-batch (xs ++ record { clause = d; worker = v } ∷ []) es w
entries_after-batch xs (TakeBatch v ∷ es) w = entries_after-batch xs es w
entries_after-batch xs (Win v ∷ es) w = entries_after-batch xs es w
entries_after-batch xs (End v ∷ es) w = entries_after-batch xs es w

-- a batch sets the mark to the number of entries
pub mark_after-batch : (w m : ℕ) (xs : List Entry) (es : List Action) → mark_after w (length xs) m (es ++ TakeBatch w ∷ []) ≡ length (entries_after xs es)
mark_after-batch w m xs [] = rw (eq-eqb w w refl)
mark_after-batch w m xs (Share v d ∷ es) = ap (λ k. mark_after w k m (es ++ TakeBatch w ∷ [])) (sym (length-append xs (record { clause = d; worker = v } ∷ []))) ∙ mark_after-batch w m (xs ++ record { clause = d; worker = v } ∷ []) es
mark_after-batch w m xs (TakeBatch v ∷ es) = mark_after-batch w (if eqb v w then length xs else m) xs es
mark_after-batch w m xs (Win v ∷ es) = mark_after-batch w m xs es
mark_after-batch w m xs (End v ∷ es) = mark_after-batch w m xs es

pub mark_after-share : (w k m v : ℕ) (d : Clause) (es : List Action) → mark_after w k m (es ++ Share v d ∷ []) ≡ mark_after w k m es
mark_after-share w k m v d [] = refl
mark_after-share w k m v d (Share u c ∷ es) = mark_after-share w (k + 1) m v d es
mark_after-share w k m v d (TakeBatch u ∷ es) = mark_after-share w k (if eqb u w then k else m) v d es
mark_after-share w k m v d (Win u ∷ es) = mark_after-share w k m v d es
mark_after-share w k m v d (End u ∷ es) = mark_after-share w k m v d es

-- what others do leaves the mark
skipped : (w : ℕ) (e : Action) (es : List Action) → actions_by w (e ∷ es) ≡ [] → (eqb (worker_of e) w ≡ false) × (actions_by w es ≡ [])
skipped w e es = go (eqb (worker_of e) w) refl
  where
    go : (b : Bool) → eqb (worker_of e) w ≡ b → actions_by w (e ∷ es) ≡ [] → (eqb (worker_of e) w ≡ false) × (actions_by w es ≡ [])
    go true is none = absurd (let t = rw is at none in cc)
    go false is none = (is, rw is at none)

mark_after-quiet : (w k m : ℕ) (es : List Action) → actions_by w es ≡ [] → mark_after w k m es ≡ m
mark_after-quiet w k m [] none = refl
mark_after-quiet w k m (Share u c ∷ es) none = mark_after-quiet w (k + 1) m es (skipped w (Share u c) es none).1
mark_after-quiet w k m (TakeBatch u ∷ es) none = let s = skipped w (TakeBatch u) es none in rw s.0 (mark_after-quiet w k m es s.1)
mark_after-quiet w k m (Win u ∷ es) none = mark_after-quiet w k m es (skipped w (Win u) es none).1
mark_after-quiet w k m (End u ∷ es) none = mark_after-quiet w k m es (skipped w (End u) es none).1

pub mark_after-since : (w k m : ℕ) (es since : List Action) → actions_by w since ≡ [] → mark_after w k m (es ++ since) ≡ mark_after w k m es
mark_after-since w k m [] since none = mark_after-quiet w k m since none
mark_after-since w k m (Share u c ∷ es) since none = mark_after-since w (k + 1) m es since none
mark_after-since w k m (TakeBatch u ∷ es) since none = mark_after-since w k (if eqb u w then k else m) es since none
mark_after-since w k m (Win u ∷ es) since none = mark_after-since w k m es since none
mark_after-since w k m (End u ∷ es) since none = mark_after-since w k m es since none

pub works-push : (b : Base) (n : ℕ) (xs : List Entry) (es : List Action) (e : Action) → Works b n xs es → worker_of e < n → MayFollow b (entries_after xs es) e → Works b n xs (es ++ e ∷ [])
works-push b n xs [] e h lt may = (lt, may, tt)
works-push b n xs (Share w c ∷ es) e h lt may = (h.0, h.1, works-push b n (xs ++ record { clause = c; worker = w } ∷ []) es e h.2 lt may)
works-push b n xs (TakeBatch w ∷ es) e h lt may = (h.0, h.1, works-push b n xs es e h.2 lt may)
works-push b n xs (Win w ∷ es) e h lt may = absurd h.1
works-push b n xs (End w ∷ es) e h lt may = absurd h.1

-- counting on by one, where numbers go round at m
pub next_round : (a m : ℕ) → (a % m + 1) % m ≡ (a + 1) % m
next_round a m =
    let whole : a % m + 1 + m * (a / m) ≡ a + 1 = omega (arith, mod-add-div a m) in
    sym (add-mul-mod_self_left (a % m + 1) m (a / m)) ∙ ap (λ k. k % m) whole
