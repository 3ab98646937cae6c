-- Every event keeps a state sound, and so does the beginning of a next race.
use Rattle.std.proofs.Common.{◌≡◌, ℕ, zero, suc, ◌+◌, ◌-◌, ◌<◌, ◌≤◌, List, [], ◌∷◌, ◌++◌, take, drop, length, replicate, All, subst, ap, arith, refl, Bool, true, false, sym, Contains, add-one}
use Rattle.std.specs.List.{AllZip}
use Rattle.std.specs.Prelude.{filter, nat_lt, slice_get, IfSome}
use Rattle.std.proofs.lemmas.Bool.Decides.{nat_tests}
use Rattle.std.proofs.Math.ListN.{get_or-append}
use Rattle.std.proofs.lemmas.List.{get_or-append-add, length-append, length-take-le, take-take, take-append-drop}
use Rattle.std.proofs.lemmas.List.Elements.{All-nil, All-cons, All-head, All-tail, All-weaker, All-contains, All-append, All-set, All-get_or, All-push, All-map, All-drop, All-filter, filter_passes, filter-append}
use Rattle.smt_meaning.specs.Declaration.{Declaration}
use Rattle.smt_meaning.specs.declared.clauses.Clause.{Clause}
use Rattle.smt_meaning.specs.Term.{Tree, Interpretation}
use Rattle.smt_meaning.specs.Interpretation.{Interprets}
use Rattle.smt_meaning.specs.Stack.{Frame, Assertion, Satisfies, Holds, HasNoModel, signature_of, assertions_of, terms_of, up_to, on_top, with_declared, pushed, empty_frame}
use Rattle.smt_meaning.specs.Follows.{Follows, FollowsFrom, follows, follows_from}
use Rattle.smt_laws.specs.ClauseLaws.{StillFollowsAfterPush, StillFollowsAfterDeclared, StillFollowsAfterMore, StillFollowsAfterPop, StillFollowsAbove, StillFollowsWithTrees, EmptyClauseShowsNoModel}
use Rattle.race_model.specs.declared.event.Entry.{Entry}
use Rattle.race_model.specs.declared.event.Premise.{Premise}
use Rattle.race_model.specs.declared.event.Premise.TheVariants.{Known, Asserted}
use Rattle.race_model.specs.declared.event.Event.{Event}
use Rattle.race_model.specs.declared.event.Event.TheVariants.{Learn, Share, TakeBatch, Win, End, Push, Pop, Assert}
use Rattle.race_model.specs.declared.state.Worker.{Worker}
use Rattle.race_model.specs.Base.{Base}
use Rattle.race_model.specs.Race.{State, worker_at, nobody, IsRunning, terms_at, Supports, PremiseTrue, IsShown, Allowed, after, after_cut, asserted_by, with_additions, entries_below, cut_worker, fresh_worker, IsRace, IsRun, IsStart, no_race, race, BeginsAgain, BeginsAfter}
use Rattle.race_model.specs.Laws.{IsSound, IsSoundState}

-- ---- lists

filter_all : {X : Type 0} (p : X → Bool) (P Q : X → Type 0) → ((x : X) → p x ≡ true → P x → Q x) → (xs : List X) → All P xs → All Q (filter p xs)
filter_all p P Q f xs all = λ k d h. f _ (filter_passes p xs k d h) (All-filter p P xs all k d h)

length-filter-take : {X : Type 0} (p : X → Bool) (n : ℕ) (xs : List X) → length (filter p (take n xs)) ≤ length (filter p xs)
length-filter-take p n xs =
    omega (arith, ap (λ ys. length (filter p ys)) (take-append-drop n xs), ap length (filter-append p (take n xs) (drop n xs)), length-append (filter p (take n xs)) (filter p (drop n xs)))

pub length-on_top : (ds : List Declaration) (xs : List Assertion) (frames : List Frame) → length (on_top ds xs frames) ≡ length frames
length-on_top ds xs [] = refl
length-on_top ds xs (f ∷ []) = refl
length-on_top ds xs (f ∷ g ∷ frames) = ap suc (length-on_top ds xs (g ∷ frames))

length-replicate : {X : Type 0} (n : ℕ) (x : X) → length (replicate n x) ≡ n
length-replicate zero x = refl
length-replicate (suc n) x = ap suc (length-replicate n x)

-- ---- a clause that follows at its level still follows there

module _ (push : StillFollowsAfterPush) where
  pub sound_after_push : (b : Base) (n : ℕ) (c : Clause) → IsSound b c → IsSound (record b { frames = pushed n b.frames }) c
  sound_after_push b n c h = record {
    follows = push b.trees b.frames c.level n c h.within h.follows;
    within = let w : c.level < length b.frames = h.within in omega (arith, length-append b.frames (replicate n empty_frame));
  }

module _ (more : StillFollowsAfterMore) where
  pub sound_after_more : (b : Base) (ds : List Declaration) (xs : List Assertion) (c : Clause) → IsSound b c → IsSound (record b { frames = on_top ds xs b.frames }) c
  sound_after_more b ds xs c h = record {
    follows = more b.trees b.frames c.level c ds xs h.follows;
    within = rw (length-on_top ds xs b.frames) h.within;
  }

length-declared : (b : Bool) (ds : List Declaration) (frames : List Frame) → length (with_declared b ds frames) ≡ length frames
length-declared true ds [] = refl
length-declared true ds (f ∷ frames) = refl
length-declared false ds frames = length-on_top ds [] frames

module _ (declared : StillFollowsAfterDeclared) where
  pub sound_after_declared : (b : Base) (global : Bool) (ds : List Declaration) (c : Clause) → IsSound b c → IsSound (record b { frames = with_declared global ds b.frames }) c
  sound_after_declared b global ds c h = record {
    follows = declared b.trees b.frames c.level c global ds h.follows;
    within = rw (length-declared global ds b.frames) h.within;
  }

module _ (pop : StillFollowsAfterPop) where
  -- where n levels stay
  pub sound_after_cut : (b : Base) (n : ℕ) (c : Clause) → c.level < n → n ≤ length b.frames → IsSound b c → IsSound (record b { frames = take n b.frames }) c
  sound_after_cut b n c below short h =
      let left : length b.frames - (length b.frames - n) ≡ n = omega arith in
      record {
        follows = subst (λ k. Follows b.trees (take k b.frames) c.level c) left (pop b.trees b.frames c.level (length b.frames - n) c (omega arith) h.follows);
        within = omega (arith, length-take-le n b.frames short);
      }

module _ (trees : StillFollowsWithTrees) where
  pub sound_with_trees : (b : Base) (us : List Tree) (c : Clause) → IsSound b c → IsSound (record b { trees = b.trees ++ us }) c
  sound_with_trees b us c h = record { follows = trees b.trees us b.frames c.level c h.follows; within = h.within }

-- ---- learning

own_sound : (s : State) (w : ℕ) → IsSoundState s → IsRunning s w → All (IsSound s.base) (worker_at s w).own
own_sound s w h r = All-get_or (λ (x : Worker). All (IsSound s.base) x.own) s.workers w nobody r.0 h.own

mark_within : (s : State) (w : ℕ) → IsSoundState s → IsRunning s w → (worker_at s w).mark ≤ length s.entries
mark_within s w h r = All-get_or (λ (x : Worker). x.mark ≤ length s.entries) s.workers w nobody r.0 h.marks

holds_tail : (I : Interpretation) (f : Frame) (fs : List Frame) → Holds I (f ∷ fs) → Holds I fs
holds_tail I f fs h = λ k d lt. subst (Satisfies I) (get_or-append-add (terms_of f) (assertions_of fs) k d) (h (length (terms_of f) + k) d (omega (arith, length-append (terms_of f) (assertions_of fs))))

holds_head : (I : Interpretation) (f : Frame) (fs : List Frame) → Holds I (f ∷ fs) → All (Satisfies I) (terms_of f)
holds_head I f fs h = λ k d lt. subst (Satisfies I) (get_or-append (terms_of f) (assertions_of fs) d k lt) (h k d (omega (arith, length-append (terms_of f) (assertions_of fs))))

at_get : (I : Interpretation) (ts : List Tree) (i : ℕ) → All (Satisfies I) ts → IfSome (slice_get ts i) (Satisfies I)
at_get I [] i all = tt
at_get I (t ∷ ts) zero all = All-head (Satisfies I) t ts all
at_get I (t ∷ ts) (suc i) all = at_get I ts i (All-tail (Satisfies I) t ts all)

-- an assertion of a level up to l is true where all of them are
asserted_true : (I : Interpretation) (frames : List Frame) (l k i : ℕ) → k ≤ l → Holds I (take (l + 1) frames) → IfSome (slice_get (terms_at k frames) i) (Satisfies I)
asserted_true I [] l k i le h = tt
asserted_true I (f ∷ fs) l zero i le h = at_get I (terms_of f) i (holds_head I f (take l fs) (subst (λ n. Holds I (take n (f ∷ fs))) (add-one l) h))
asserted_true I (f ∷ fs) zero (suc k) i le h = absurd (omega arith)
asserted_true I (f ∷ fs) (suc l) (suc k) i le h =
    asserted_true I fs l k i (omega arith) (subst (λ n. Holds I (take n fs)) (sym (add-one l)) (holds_tail I f (take (suc l) fs) (subst (λ n. Holds I (take n (f ∷ fs))) (add-one (suc l)) h)))

module _ (above : StillFollowsAbove) where
  premise_true : (s : State) (w l : ℕ) (I : Interpretation) → IsSoundState s → IsRunning s w → Interprets (signature_of (up_to l s.base.frames)) I → Holds I (up_to l s.base.frames)
      → (p : Premise) → Supports s w l p → PremiseTrue s I p
  premise_true s w l I h r interprets holds (Known c) sup =
      let sound : IsSound s.base c = All-contains (IsSound s.base) (worker_at s w).own c (own_sound s w h r) sup.0 in
      let at_l : Follows s.base.trees s.base.frames l c = above s.base.trees s.base.frames c.level l c sup.1 sound.follows in
      (follows_from s.base.trees s.base.frames l c at_l).true_wherever I interprets holds
  premise_true s w l I h r interprets holds (Asserted k i) sup = asserted_true I s.base.frames l k i sup.1 holds

  pub learnt_sound : (s : State) (w : ℕ) (ps : List Premise) (c : Clause) → IsSoundState s → IsRunning s w → c.level < length s.base.frames → All (Supports s w c.level) ps → IsShown s ps c → IsSound s.base c
  learnt_sound s w ps c h r level sup shown = record {
    follows = follows s.base.trees s.base.frames c.level c record {
      true_wherever = λ I interprets holds.
          shown.true_wherever I interprets
          (All-weaker (Supports s w c.level) (PremiseTrue s I) (premise_true s w c.level I h r interprets holds) ps sup);
      declared = shown.declared;
      within = shown.within;
    };
    within = level;
  }

-- ---- events

module _ (push : StillFollowsAfterPush) (declared : StillFollowsAfterDeclared) (more : StillFollowsAfterMore) (pop : StillFollowsAfterPop) (above : StillFollowsAbove) where
  pub cut_keeps : (s : State) (n : ℕ) → n ≤ length s.base.frames → IsSoundState s → IsSoundState (after_cut n s)
  cut_keeps s n short h = record {
    entries = filter_all (λ (e : Entry). nat_lt e.clause.level n) _ _ (λ e below sound. sound_after_cut pop s.base n e.clause (grind (arith, nat_tests)) short sound) s.entries h.entries;
    own = All-map (λ (x : Worker). All (IsSound (record s.base { frames = take n s.base.frames })) x.own) (cut_worker n s.entries) s.workers
        (All-weaker (λ (x : Worker). All (IsSound s.base) x.own) _ (λ x own.
        filter_all (λ (c : Clause). nat_lt c.level n) _ _ (λ c below sound. sound_after_cut pop s.base n c (grind (arith, nat_tests)) short sound) x.own own) s.workers h.own);
    marks = All-map (λ (x : Worker). x.mark ≤ length (entries_below n s.entries)) (cut_worker n s.entries) s.workers
        (All-weaker (λ (x : Worker). x.mark ≤ length s.entries) _ (λ x le. length-filter-take (λ (e : Entry). nat_lt e.clause.level n) x.mark s.entries) s.workers h.marks);
  }

  in_more : (s : State) (b : Base) → ((c : Clause) → IsSound s.base c → IsSound b c) → IsSoundState s → IsSoundState (record s { base = b })
  in_more s b f h = record {
    entries = All-weaker (λ (e : Entry). IsSound s.base e.clause) (λ (e : Entry). IsSound b e.clause) (λ e. f e.clause) s.entries h.entries;
    own = All-weaker (λ (x : Worker). All (IsSound s.base) x.own) (λ (x : Worker). All (IsSound b) x.own) (λ x own. All-weaker (IsSound s.base) (IsSound b) f x.own own) s.workers h.own;
    marks = h.marks;
  }

  pub step_keeps : (s : State) (e : Event) → Allowed s e → IsSoundState s → IsSoundState (after s e)
  step_keeps s (Learn w ps c) m h = record {
    entries = h.entries;
    own = All-set (λ (x : Worker). All (IsSound s.base) x.own) s.workers w _ (All-push (IsSound s.base) (worker_at s w).own c (own_sound s w h m.0.0) (learnt_sound above s w ps c h m.0.0 m.0.1 m.0.2 m.1)) h.own;
    marks = All-set (λ (x : Worker). x.mark ≤ length s.entries) s.workers w _ (mark_within s w h m.0.0) h.marks;
  }
  step_keeps s (Share w c) m h = record {
    entries = All-push (λ (e : Entry). IsSound s.base e.clause) s.entries _ h.entries (All-contains (IsSound s.base) (worker_at s w).own c (own_sound s w h m.0.0) m.0.2);
    own = h.own;
    marks = All-weaker (λ (x : Worker). x.mark ≤ length s.entries) (λ (x : Worker). x.mark ≤ length (s.entries ++ record { clause = c; worker = w } ∷ [])) (λ x le. omega (arith, length-append s.entries (record { clause = c; worker = w } ∷ []))) s.workers h.marks;
  }
  step_keeps s (TakeBatch w) m h = record {
    entries = h.entries;
    own = All-set (λ (x : Worker). All (IsSound s.base) x.own) s.workers w _
        (All-append (IsSound s.base) (worker_at s w).own _ (own_sound s w h m.0)
        (All-map (IsSound s.base) (λ (e : Entry). e.clause) (drop (worker_at s w).mark s.entries) (All-drop (λ (e : Entry). IsSound s.base e.clause) (worker_at s w).mark s.entries h.entries))) h.own;
    marks = let le : length s.entries ≤ length s.entries = omega arith in All-set (λ (x : Worker). x.mark ≤ length s.entries) s.workers w _ le h.marks;
  }
  step_keeps s (Win w) m h = record { entries = h.entries; own = h.own; marks = h.marks }
  step_keeps s (End w) m h = record {
    entries = h.entries;
    own = All-set (λ (x : Worker). All (IsSound s.base) x.own) s.workers w _ (own_sound s w h m.0) h.own;
    marks = All-set (λ (x : Worker). x.mark ≤ length s.entries) s.workers w _ (mark_within s w h m.0) h.marks;
  }
  step_keeps s (Push n) m h = in_more s _ (sound_after_push push s.base n) h
  step_keeps s (Pop n) m h = cut_keeps s (length s.base.frames - n) (omega arith) h
  step_keeps s (Assert a) m h =
      in_more s _ (λ c sound.
      sound_after_more more (record s.base { frames = with_additions s a }) a.named (asserted_by s a) c (sound_after_declared declared s.base s.global a.declared c sound)) h

-- ---- races

pub race_keeps : ((s : State) (e : Event) → Allowed s e → IsSoundState s → IsSoundState (after s e)) → (es : List Event) (s t : State) → IsRace s es t → IsSoundState s → IsSoundState t
race_keeps step [] s t run h = subst IsSoundState (sym run) h
race_keeps step (e ∷ es) s t run h = race_keeps step es (after s e) t run.1 (step s e run.0 h)

-- ---- the beginning of a next race

own_begins : (P : Clause → Type 0) (xs ys : List Worker) → AllZip BeginsAgain xs ys → All (λ (x : Worker). All P x.own) xs → All (λ (x : Worker). All P x.own) ys
own_begins P [] [] z h = h
own_begins P [] (y ∷ ys) z h = absurd z
own_begins P (x ∷ xs) [] z h = absurd z
own_begins P (x ∷ xs) (y ∷ ys) z h =
    All-cons (λ (w : Worker). All P w.own) y ys
    (All-weaker (Contains x.own) P (λ c k. All-contains P x.own c (All-head (λ (w : Worker). All P w.own) x xs h) k) y.own z.0.own)
    (own_begins P xs ys z.1 (All-tail (λ (w : Worker). All P w.own) x xs h))

marks_begin : (n : ℕ) (xs ys : List Worker) → AllZip BeginsAgain xs ys → All (λ (x : Worker). x.mark ≤ n) ys
marks_begin n [] [] z = All-nil (λ (x : Worker). x.mark ≤ n)
marks_begin n [] (y ∷ ys) z = absurd z
marks_begin n (x ∷ xs) [] z = absurd z
marks_begin n (x ∷ xs) (y ∷ ys) z =
    All-cons (λ (w : Worker). w.mark ≤ n) y ys (let e : y.mark ≡ 0 = z.0.mark in omega arith) (marks_begin n xs ys z.1)

module _ (trees : StillFollowsWithTrees) where
  pub begin_keeps : (s t : State) → BeginsAfter s t → IsSoundState s → IsSoundState t
  begin_keeps s t b h =
      let now : (c : Clause) → IsSound s.base c → IsSound t.base c =
      λ c f. subst (λ z. IsSound z c) (λ i. record { trees = sym b.trees.1 i; frames = sym b.frames i }) (sound_with_trees trees s.base b.trees.0 c f) in
      record {
        entries = subst (λ es. All (λ (e : Entry). IsSound t.base e.clause) es) (sym b.entries)
            (All-weaker (λ (e : Entry). IsSound s.base e.clause) (λ (e : Entry). IsSound t.base e.clause) (λ e. now e.clause) s.entries h.entries);
        own = own_begins (IsSound t.base) s.workers t.workers b.workers
            (All-weaker (λ (x : Worker). All (IsSound s.base) x.own) (λ (x : Worker). All (IsSound t.base) x.own) (λ x own. All-weaker (IsSound s.base) (IsSound t.base) now x.own own) s.workers h.own);
        marks = marks_begin (length t.entries) s.workers t.workers b.workers;
      }

pub run_keeps : ((s t : State) (es : List Event) → IsRace s es t → IsSoundState s → IsSoundState t) → ((s t : State) → BeginsAfter s t → IsSoundState s → IsSoundState t)
    → (races : List (List Event)) (s t : State) → IsRun s races t → IsSoundState s → IsSoundState t
run_keeps keeps begins races s t no_race h = h
run_keeps keeps begins races s t (race {s = a} {t = b} {u = c} {es = es} one next rest) h =
    run_keeps keeps begins _ c t rest (begins b c next (keeps a b es one h))

pub start_sound : (s : State) → IsStart s → IsSoundState s
start_sound s b = record {
  entries = subst (λ es. All (λ (e : Entry). IsSound s.base e.clause) es) (sym b.entries) (All-nil (λ (e : Entry). IsSound s.base e.clause));
  own = All-weaker (λ (x : Worker). x ≡ fresh_worker) (λ (x : Worker). All (IsSound s.base) x.own)
      (λ x e. subst (λ (w : Worker). All (IsSound s.base) w.own) (sym e) (All-nil (IsSound s.base))) s.workers b.workers;
  marks = All-weaker (λ (x : Worker). x ≡ fresh_worker) (λ (x : Worker). x.mark ≤ length s.entries)
      (λ x e. let f : x.mark ≡ 0 = ap (λ (w : Worker). w.mark) e in omega arith) s.workers b.workers;
}

-- ---- an empty clause

module _ (empty : EmptyClauseShowsNoModel) where
  -- what follows from frames follows from them up to its level
  pub empty_refutes : (s : State) → IsSoundState s → All (λ (x : Worker). All (λ (c : Clause). c.literals ≡ [] → HasNoModel (up_to c.level s.base.frames)) x.own) s.workers
  empty_refutes s h =
      All-weaker (λ (x : Worker). All (IsSound s.base) x.own) (λ (x : Worker). All (λ (c : Clause). c.literals ≡ [] → HasNoModel (up_to c.level s.base.frames)) x.own)
      (λ x own. All-weaker (IsSound s.base) (λ (c : Clause). c.literals ≡ [] → HasNoModel (up_to c.level s.base.frames))
      (λ c sound none. empty s.base.trees (up_to c.level s.base.frames) c.level c none
      (follows s.base.trees (up_to c.level s.base.frames) c.level c (subst (λ fs. FollowsFrom s.base.trees fs c) (sym (take-take (c.level + 1) (c.level + 1) s.base.frames (omega arith))) (follows_from s.base.trees s.base.frames c.level c sound.follows)))) x.own own) s.workers h.own
